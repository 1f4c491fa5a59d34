use Rattle.std.proofs.Common.{◌≡◌, ◌∷◌, [], true, refl, sym, subst}
use Rattle.jq_stmts.specs.SharpViews.{with_kind}
use Rattle.jq_stmts.specs.Views.{call_of}
use Rattle.jq_exact.specs.Firsts.{parted_or_first}
use Rattle.jq_exact.proofs.BackLemmas.{leads_by}
use Rattle.jq_exact.proofs.firsts.leads_back_by.Goals as goal

pub returns-in-Around : goal.returns-in-Around
returns-in-Around c on = subst (λ k. parted_or_first (with_kind (call_of c.args.call.now) k ∷ []) ≡ true) (sym (c.is_closest.ensures on)) (rw c.in-Around.is refl)

pub returns-in-Near : goal.returns-in-Near
returns-in-Near c on = subst (λ k. parted_or_first (with_kind (call_of c.args.call.now) k ∷ []) ≡ true) (sym (c.is_siblings.ensures on)) (rw c.in-Near.is refl)

pub returns-in_default : goal.returns-in_default
returns-in_default c on = leads_by c.args.call.now c.args.kind c.in_default.not-Around c.in_default.not-Near c.in_default.not-End

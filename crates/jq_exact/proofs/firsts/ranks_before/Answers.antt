use Rattle.std.proofs.Common.{◌≡◌, true, subst}
use Rattle.jq_stmts.specs.Sharp.{ExactCall}
use Rattle.jq_exact.specs.Firsts.{leads_back}
use Rattle.jq_exact.proofs.BackLemmas.{around_back, near_back, plain_back}
use Rattle.jq_exact.proofs.firsts.ranks_before.Goals as goal

pub returns-in-Around : goal.returns-in-Around
returns-in-Around c = around_back c.args.tree.now c.args.call.now c.in-Around.cs c.items.result.now c.items.ensures c.in-Around.is c.args.kind c.args.ranks.now c.before_closest.result c.requires c.before_closest.ensures

pub returns-in-Near : goal.returns-in-Near
returns-in-Near c = near_back c.args.tree.now c.args.call.now c.in-Near.cs c.items-in-Near.result.now c.items-in-Near.ensures c.in-Near.is c.args.kind c.args.ranks.now c.before_siblings.result c.requires c.before_siblings.ensures

pub before_plain-requires : goal.before_plain-requires
before_plain-requires c = subst (λ (x : ExactCall). leads_back x ≡ true) (plain_back c.args.call.now c.args.kind c.in_default.not-Around c.in_default.not-Near c.requires) c.requires

pub returns-in_default : goal.returns-in_default
returns-in_default c = rw (plain_back c.args.call.now c.args.kind c.in_default.not-Around c.in_default.not-Near c.requires) c.before_plain.ensures

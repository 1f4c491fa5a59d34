use Rattle.std.proofs.Common.{ℕ, List, Contains, sym, subst}
use Rattle.tp_base.proofs.Lists.{Contains-at}
use Rattle.need_table.proofs.SeenLemmas.{some_more}
use Rattle.need_table.proofs.filling.asked_with.Goals as goal

pub returns-in-Some : goal.returns-in-Some
returns-in-Some c =
    let j = c.in-Some.j.now in
    let child : Contains c.args.entry.now.children.items j = subst (λ (z : List ℕ). Contains z j) c.deref.ensures.value (Contains-at c.deref.result.now 0 j (sym c.in-Some.ensures.value)) in
    some_more c.parent_at.result (λ p at. (j, child, at)) c.parent_at.ensures

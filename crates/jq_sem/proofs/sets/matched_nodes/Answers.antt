use Rattle.jq_sem.proofs.SetLemmas.{on_ok, of_first, from_nothing}
use Rattle.std.proofs.Common.{◌≡◌, length, ap, sym, ◌∙◌}
use Rattle.jq_sem.proofs.sets.matched_nodes.Goals as goal

pub returns-in-None : goal.returns-in-None
returns-in-None c =
    let none : length c.items.result.now ≡ 0 = c.in-None.ensures.cases in
    on_ok c.with_atoms.result _ _ (λ m is. from_nothing c.args.tree.now m c.args.s.now.parts c.args.s.now.joins (ap length (sym c.items.ensures) ∙ none) is) c.with_atoms.ensures

pub returns-in_ok-marks-in-Some : goal.returns-in_ok-marks-in-Some
returns-in_ok-marks-in-Some c =
    of_first c.args.tree.now c.in_ok-marks-in-Some.marks c.args.s.now.parts c.items.result.now c.in-Some.parts.now c.in-Some.first.now c.items-in-Some.result.now c.args.s.now.joins c.items-in-Some-2.result.now c.items.ensures
    c.in-Some.ensures.cases.0 c.items-in-Some.ensures c.items-in-Some-2.ensures c.in_ok-marks-in-Some.ensures c.with_joined.result c.with_joined.ensures

use Rattle.std.proofs.Common.{◌≡◌, ◌↔◌, ℕ, List, true, Contains, IfOk, subst}
use Rattle.class_diagrams.specs.Trees.{eval}
use Rattle.pushdown_sym.specs.CellMap.{trees_in}
use Rattle.saturation.proofs.labels.label_of.Goals as goal

pub returns-then-are_worth_marks-clause-members : goal.returns-then-are_worth_marks-clause-members
returns-then-are_worth_marks-clause-members c =
    subst (λ (parent : List ℕ). IfOk c.label_under.result (λ label. (a : ℕ) → Contains label a ↔ (Contains c.args.atoms.now a × (eval (trees_in c.args.d.now.branches c.args.cells.now c.args.kind a) parent ≡ true))))
    c.in_ok-marks.ensures c.label_under.ensures.members

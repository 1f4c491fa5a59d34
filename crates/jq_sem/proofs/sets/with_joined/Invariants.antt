use Rattle.std.proofs.Common.{◌≡◌, ◌↔◌, ℕ, List, length}
use Rattle.node_marks.specs.Marks.{IsMarked}
use Rattle.sel_core.specs.Selectors.{Matches}
use Rattle.sel_text.specs.Selectors.{Selector}
use Rattle.sel_text.specs.Parts.{with_parts}
use Rattle.jq_sem.proofs.sets.with_joined.Given as goal

-- what is marked is what a selector matches, which the compounds that are left make that of all
abbrev pub invariant-joins : goal.invariant-joins
invariant-joins l = (s : Selector) → ((v : List ℕ) → IsMarked l.tree l.fn.first v ↔ Matches l.tree v s)
    → (x : Selector) × ((v : List ℕ) → IsMarked l.tree l.marks v ↔ Matches l.tree v x) × (with_parts x l.between l.right ≡ with_parts s l.fn.joins l.fn.parts)

abbrev pub decreases-joins : goal.decreases-joins
decreases-joins l = length l.between

use Rattle.std.proofs.Common.{◌↔◌, ◌⊎◌, ℕ, List, length}
use Rattle.node_marks.specs.Marks.{IsMarked}
use Rattle.jq_sem.specs.Statements.{FitsOne}
use Rattle.jq_stmts.specs.Views.{atoms_of}
use Rattle.jq_sem.proofs.sets.fitting.Given as goal

-- what is marked, and what the compounds that are left fit
abbrev pub invariant-compounds : goal.invariant-compounds
invariant-compounds l = (v : List ℕ) → FitsOne l.tree (atoms_of l.fn.compounds) v ↔ (IsMarked l.tree l.marks v ⊎ FitsOne l.tree (atoms_of l.rest) v)

abbrev pub decreases-compounds : goal.decreases-compounds
decreases-compounds l = length l.rest

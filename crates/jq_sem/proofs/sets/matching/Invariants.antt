use Rattle.std.proofs.Common.{◌↔◌, ◌⊎◌, ℕ, List, length, map}
use Rattle.node_marks.specs.Marks.{IsMarked}
use Rattle.sel_text.specs.Views.{selector_of}
use Rattle.jq_sem.specs.Statements.{MatchesOne}
use Rattle.jq_sem.proofs.sets.matching.Given as goal

-- what is marked, and what the selectors that are left match
abbrev pub invariant-selectors : goal.invariant-selectors
invariant-selectors l = (v : List ℕ) → MatchesOne l.tree (map selector_of l.fn.selectors) v ↔ (IsMarked l.tree l.marks v ⊎ MatchesOne l.tree (map selector_of l.rest) v)

abbrev pub decreases-selectors : goal.decreases-selectors
decreases-selectors l = length l.rest

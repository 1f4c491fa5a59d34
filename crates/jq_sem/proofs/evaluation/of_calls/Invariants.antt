use Rattle.std.proofs.Common.{◌↔◌, ℕ, List, [], take}
use Rattle.node_marks.specs.Marks.{IsMarked}
use Rattle.jq_sem.specs.Standing.{last_first}
use Rattle.jq_sem.specs.Together.{MadeOf}
use Rattle.jq_sem.proofs.evaluation.of_calls.Given as goal

abbrev pub invariant-calls : goal.invariant-calls
invariant-calls l = (v : List ℕ) → IsMarked l.tree l.marks v ↔ MadeOf l.tree (IsMarked l.tree l.fn.first) (last_first (take l.call-index l.calls) []) v

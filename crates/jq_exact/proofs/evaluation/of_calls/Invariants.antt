use Rattle.std.proofs.Common.{◌↔◌, ℕ, List, take}
use Rattle.node_marks.specs.Marks.{IsMarked}
use Rattle.jq_exact.specs.Exact.{MadeExactly}
use Rattle.jq_exact.specs.Together.{stood}
use Rattle.jq_exact.proofs.evaluation.of_calls.Given as goal

abbrev pub invariant-calls : goal.invariant-calls
invariant-calls l = (v : List ℕ) → IsMarked l.tree l.marks v ↔ MadeExactly l.tree (IsMarked l.tree l.fn.first) (stood l.calls.sharp.now l.calls.handler l.calls.calls.now (take l.number-index l.numbers)) v

use Rattle.std.proofs.Common.{◌↔◌, ℕ, List}
use Rattle.node_marks.specs.Marks.{IsMarked}
use Rattle.jq_exact.specs.Together.{stood, FromNodes}
use Rattle.jq_exact.proofs.evaluation.of_each.Given as goal

abbrev pub invariant-nodes : goal.invariant-nodes
invariant-nodes l = (v : List ℕ) → IsMarked l.tree l.made v ↔ FromNodes l.tree l.marks (stood l.calls.sharp.now l.calls.handler l.calls.calls.now l.numbers) l.number v

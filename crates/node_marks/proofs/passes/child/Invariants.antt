use Rattle.std.proofs.Common.{ℕ, ◌<◌}
use Rattle.node_marks.specs.Passes.{IsChild}
use Rattle.node_marks.proofs.passes.child.Given as goal

abbrev pub invariant-nodes : goal.invariant-nodes
invariant-nodes l = (i : ℕ) → i < l.i → IsChild l.parents l.steps l.parent l.step i → ⊥

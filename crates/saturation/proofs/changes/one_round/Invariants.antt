use Rattle.std.proofs.Common.{◌≡◌, ℕ, take, All, Contains}
use Rattle.class_diagrams.specs.Arena.{StartsWith}
use Rattle.simple_core.specs.Systems.{IsSound}
use Rattle.pushdown_sym.specs.Rounds.{given_atoms}
use Rattle.pushdown_sym.specs.Laws.{Tells}
use Rattle.saturation.specs.Saturation.{AreChanges}
use Rattle.saturation.proofs.changes.one_round.Given as goal

abbrev pub invariant-loop-name : goal.invariant-loop-name
invariant-loop-name l = (l.round ≡ (l.equations, l.now))
    × StartsWith l.fn.d.branches l.d.branches
    × ((k : ℕ) → IsSound l.equations → All (λ c. Contains (given_atoms l.equations) c.1) l.todo → Tells l.equations l.fn.d.branches l.now k
    → AreChanges l.equations k l.fn.d l.d (take l.name-index l.todo) l.changes.items)

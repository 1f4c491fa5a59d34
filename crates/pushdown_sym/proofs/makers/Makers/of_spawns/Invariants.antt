use Rattle.std.proofs.Common.{◌≡◌, ◌<◌, ℕ, Contains, Some, slice_get}
use Rattle.simple_core.specs.declared.rules.Spawn.{Spawn}
use Rattle.row_index.specs.Rows.{row_of}
use Rattle.pushdown_sym.proofs.makers.Makers.of_spawns.Given as goal

abbrev pub invariant-loop-i : goal.invariant-loop-i
invariant-loop-i l = (i : ℕ) (c : Spawn) → i < l.i → slice_get l.spawns i ≡ Some c → Contains (row_of l.places c.kind) i

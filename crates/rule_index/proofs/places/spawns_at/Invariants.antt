use Rattle.std.proofs.Common.{take}
use Rattle.rule_index.specs.Indexes.{AreSpawnsAt}
use Rattle.rule_index.proofs.places.spawns_at.Given as goal

abbrev pub invariant-loop-i : goal.invariant-loop-i
invariant-loop-i l = AreSpawnsAt (take l.i l.spawns) l.index

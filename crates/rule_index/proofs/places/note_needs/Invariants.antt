use Rattle.std.proofs.Common.{take}
use Rattle.rule_index.specs.Indexes.{AreNeedsNoted}
use Rattle.rule_index.proofs.places.note_needs.Given as goal

abbrev pub invariant-loop-i : goal.invariant-loop-i
invariant-loop-i l = AreNeedsNoted l.initial.index l.index (take l.i l.needs) l.place

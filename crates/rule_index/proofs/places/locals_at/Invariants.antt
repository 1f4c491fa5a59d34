use Rattle.std.proofs.Common.{take}
use Rattle.rule_index.specs.Indexes.{AreLocalsAt}
use Rattle.rule_index.proofs.places.locals_at.Given as goal

abbrev pub invariant-loop-i : goal.invariant-loop-i
invariant-loop-i l = AreLocalsAt (take l.i l.rules) l.index

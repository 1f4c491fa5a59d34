use Rattle.std.proofs.Common.{take}
use Rattle.rule_index.specs.Asking.{AreUnseen}
use Rattle.rule_index.proofs.indexed_system.are_seen.Given as goal

abbrev pub invariant-loop-i : goal.invariant-loop-i
invariant-loop-i l = AreUnseen l.links (take l.i l.label)

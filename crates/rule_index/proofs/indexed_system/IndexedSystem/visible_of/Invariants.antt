use Rattle.std.proofs.Common.{◌≡◌, take}
use Rattle.tp_base.specs.Classes.{cut_to}
use Rattle.rule_index.proofs.indexed_system.IndexedSystem.visible_of.Given as goal

abbrev pub invariant-loop-i : goal.invariant-loop-i
invariant-loop-i l = l.seen.items ≡ cut_to l.self.visible (take l.i l.label)

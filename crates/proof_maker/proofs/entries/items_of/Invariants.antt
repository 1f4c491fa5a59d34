use Rattle.std.proofs.Common.{◌≡◌, map, take}
use Rattle.proof_maker.specs.Making.{item_of}
use Rattle.proof_maker.proofs.entries.items_of.Given as goal

abbrev pub invariant-loop-i : goal.invariant-loop-i
invariant-loop-i l = l.items.items ≡ map (item_of l.needs l.order.keys) (take l.i l.wants)

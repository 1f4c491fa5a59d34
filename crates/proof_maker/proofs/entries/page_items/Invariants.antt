use Rattle.std.proofs.Common.{◌≡◌, map, take}
use Rattle.proof_maker.specs.Making.{page_item_of}
use Rattle.proof_maker.proofs.entries.page_items.Given as goal

abbrev pub invariant-loop-i : goal.invariant-loop-i
invariant-loop-i l = l.items.items ≡ map (page_item_of l.needs l.order.keys) (take l.i l.wants)

use Rattle.std.proofs.Common.{◌≡◌, take, Some}
use Rattle.slab.specs.Slab.{ContainsKey}
use Rattle.tree_sem.specs.Arena.{place_from}
use Rattle.tree_sem.specs.Table.{kids_in}
use Rattle.tree_sem.proofs.slots.place_of.Given as goal

abbrev pub invariant-loop-level : goal.invariant-loop-level
invariant-loop-level l = (place_from (kids_in l.slots) 0 (take l.level l.at) ≡ Some l.place) × ContainsKey l.slots l.place

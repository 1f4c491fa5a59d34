use Rattle.std.proofs.Common.{◌≡◌, ◌+◌, take}
use Rattle.std.specs.List.{sum_by}
use Rattle.tree_sem.specs.Trees.{count_of}
use Rattle.tree_sem.proofs.grafts.room_after.Given as goal

abbrev pub invariant-loop-top : goal.invariant-loop-top
invariant-loop-top l = l.left + sum_by count_of (take l.top-index l.tops) ≡ l.room

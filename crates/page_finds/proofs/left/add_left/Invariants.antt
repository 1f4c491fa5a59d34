use Rattle.std.proofs.Common.{◌≡◌, ◌++◌, ◌-◌, length}
use Rattle.page_finds.specs.Trees.{left_from}
use Rattle.page_finds.proofs.left.add_left.Given as goal

abbrev pub invariant-elements : goal.invariant-elements
invariant-elements l = l.found.items ++ left_from l.by_end l.index l.elements l.tags ≡ l.fn.found.items ++ left_from l.by_end l.from l.elements l.tags

abbrev pub decreases-elements : goal.decreases-elements
decreases-elements l = length l.elements - l.index

use Rattle.std.proofs.Common.{◌≡◌, ◌++◌, ◌-◌, length, replicate}
use Rattle.page_finds.specs.Trees.{tags_after}
use Rattle.page_finds.proofs.left.open_tags.Given as goal

abbrev pub invariant-opened : goal.invariant-opened
invariant-opened l = l.tags.items ++ replicate (l.count - length l.tags.items) l.tag ≡ tags_after l.tag l.kept l.count l.fn.tags.items

abbrev pub decreases-opened : goal.decreases-opened
decreases-opened l = l.count - length l.tags.items

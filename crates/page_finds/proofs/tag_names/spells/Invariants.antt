use Rattle.std.proofs.Common.{◌≡◌, length}
use Rattle.page_finds.specs.TagNames.{spells}
use Rattle.page_finds.proofs.tag_names.spells.Given as goal

abbrev pub invariant-bytes : goal.invariant-bytes
invariant-bytes l = spells l.wanted l.rest ≡ spells l.word l.text

abbrev pub decreases-bytes : goal.decreases-bytes
decreases-bytes l = length l.rest

use Rattle.std.proofs.Common.{◌≡◌, length}
use Rattle.page_finds.specs.TagNames.{has_reference}
use Rattle.page_finds.proofs.tag_names.has_reference.Given as goal

abbrev pub invariant-bytes : goal.invariant-bytes
invariant-bytes l = has_reference l.rest ≡ has_reference l.text

abbrev pub decreases-bytes : goal.decreases-bytes
decreases-bytes l = length l.rest

use Rattle.std.proofs.Common.{◌≡◌, length}
use Rattle.page_finds.specs.Pages.{is_standard}
use Rattle.page_finds.proofs.pages.is_standard.Given as goal

abbrev pub invariant-turns : goal.invariant-turns
invariant-turns l = is_standard l.rest ≡ is_standard l.text

abbrev pub decreases-turns : goal.decreases-turns
decreases-turns l = length l.rest

use Rattle.std.proofs.Common.{◌≡◌, length}
use Rattle.premise_finds.specs.SheetNames.{is_misread}
use Rattle.premise_finds.proofs.sheet_names.is_misread.Given as goal

abbrev pub invariant-bytes : goal.invariant-bytes
invariant-bytes l = is_misread l.rest ≡ is_misread l.text

abbrev pub decreases-bytes : goal.decreases-bytes
decreases-bytes l = length l.rest

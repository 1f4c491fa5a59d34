use Rattle.std.proofs.Common.{◌≡◌, length}
use Rattle.code_sources.specs.Scripts.{last_part}
use Rattle.code_sources.proofs.FileSteps.{last_of}
use Rattle.code_sources.proofs.files.last_part.Given as goal

abbrev pub invariant-bytes : goal.invariant-bytes
invariant-bytes l = last_of l.found l.rest ≡ last_part l.text

abbrev pub decreases-bytes : goal.decreases-bytes
decreases-bytes l = length l.rest

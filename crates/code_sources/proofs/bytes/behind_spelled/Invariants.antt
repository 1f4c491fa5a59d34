use Rattle.std.proofs.Common.{◌≡◌, length}
use Rattle.code_sources.specs.Bytes.{behind_spelled}
use Rattle.code_sources.proofs.bytes.behind_spelled.Given as goal

abbrev pub invariant-bytes : goal.invariant-bytes
invariant-bytes l = behind_spelled l.wanted l.rest ≡ behind_spelled l.word l.text

abbrev pub decreases-bytes : goal.decreases-bytes
decreases-bytes l = length l.rest

use Rattle.std.proofs.Common.{◌≡◌, length}
use Rattle.premise_finds.specs.Texts.{has_somewhere}
use Rattle.premise_finds.proofs.bytes.has_somewhere.Given as goal

abbrev pub invariant-bytes : goal.invariant-bytes
invariant-bytes l = has_somewhere l.word l.rest ≡ has_somewhere l.word l.text

abbrev pub decreases-bytes : goal.decreases-bytes
decreases-bytes l = length l.rest

use Rattle.std.proofs.Common.{◌≡◌, length}
use Rattle.text_pieces.specs.Holes.{behind_first}
use Rattle.text_pieces.proofs.holes.behind_first.Given as goal

abbrev pub invariant-bytes : goal.invariant-bytes
invariant-bytes l = behind_first l.mark l.rest ≡ behind_first l.mark l.text

abbrev pub decreases-bytes : goal.decreases-bytes
decreases-bytes l = length l.rest

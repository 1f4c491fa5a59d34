use Rattle.std.proofs.Common.{◌≡◌, length}
use Rattle.code_scan.specs.Lines.{has_break}
use Rattle.code_scan.proofs.lines.has_break.Given as goal

abbrev pub invariant-bytes : goal.invariant-bytes
invariant-bytes l = has_break l.rest ≡ has_break l.text

abbrev pub decreases-bytes : goal.decreases-bytes
decreases-bytes l = length l.rest

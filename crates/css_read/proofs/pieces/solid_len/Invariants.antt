use Rattle.std.proofs.Common.{◌≡◌, ◌≤◌, ◌-◌, length}
use Rattle.text_bytes.specs.Rests.{IsRest}
use Rattle.css_read.specs.Pieces.{solid_len}
use Rattle.css_read.proofs.Solids.{joined}
use Rattle.css_read.proofs.pieces.solid_len.Given as goal

abbrev pub invariant-units : goal.invariant-units
invariant-units l = record {
  rest : IsRest l.text l.rest;
  within : l.len ≤ length l.text;
  counts : joined l.len (length l.text - length l.rest) (solid_len 0 l.rest) ≡ solid_len 0 l.text;
}

abbrev pub decreases-units : goal.decreases-units
decreases-units l = length l.rest

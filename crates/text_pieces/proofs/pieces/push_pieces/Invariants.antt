use Rattle.std.proofs.Common.{◌≡◌, ◌++◌, length}
use Rattle.text_pieces.specs.Closers.{AreLeft}
use Rattle.text_pieces.specs.Pieces.{pieces_from, pieces_of}
use Rattle.text_pieces.proofs.pieces.push_pieces.Given as goal

abbrev pub invariant-bytes : goal.invariant-bytes
invariant-bytes l = record {
  left : AreLeft l.closers l.rest;
  reads : l.pieces.items ++ pieces_from 0 l.letters.items l.rest ≡ l.fn.pieces.items ++ pieces_of l.text;
}

abbrev pub decreases-bytes : goal.decreases-bytes
decreases-bytes l = length l.rest

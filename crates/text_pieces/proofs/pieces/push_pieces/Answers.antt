use Rattle.std.proofs.Common.{◌≡◌, ◌∙◌, ◌++◌, ◌==◌, false, List, ℕ, [], length, sym, ap, subst}
use Rattle.text_pieces.specs.declared.pieces.Piece.{Piece}
use Rattle.text_pieces.specs.Closers.{AreLeft}
use Rattle.text_pieces.specs.Pieces.{pieces_from}
use Rattle.text_pieces.proofs.HoleSteps.{left_past, not_zero}
use Rattle.text_pieces.proofs.PieceSteps.{hole_taken, last_pushed}
use Rattle.text_pieces.proofs.pieces.push_pieces.Goals as goal

pub bytes-preserved : goal.bytes-preserved
bytes-preserved c =
    let some : (c.hole_len-len.result == 0) ≡ false = not_zero c.hole_len-len.result c.if-len-eq0.false in
    record {
      left = subst (λ (bs : List ℕ). AreLeft c.hole_len-len.new.self bs) (sym c.split_at.ensures.back)
          (left_past c.hole_len-len.new.self c.hole_len-len.result c.bytes.rest.now c.in-Some.behind.now c.in-Some.first.now c.in-Some.ensures.cases.0 c.hole_len-len.ensures.left some);
      reads = hole_taken c.bytes.letters.items c.replace-full.result.items c.replace-full.new.dest.items c.bytes.rest.now c.in-Some.behind.now c.split_at.result.0.now c.split_at.result.1.now
          c.in-Some.first.now c.hole_len-len.result c.bytes.pieces.items c.push_both.new.pieces.items _ c.in-Some.ensures.cases.0 c.hole_len-len.ensures.gives some
          c.split_at.ensures.front c.split_at.ensures.back (ap (λ v. v.items) c.replace-full.ensures.value) (ap (λ v. v.items) c.replace-full.ensures.after ∙ c.new.ensures.items) c.in_ok-push_both.ensures c.bytes.invariant.reads;
    }

pub returns : goal.returns
returns c = last_pushed c.push_letters.result c.bytes.letters.items c.bytes.rest.now c.bytes.pieces.items c.push_letters.new.pieces.items _ c.in_default.ensures.cases c.bytes.invariant.reads c.push_letters.ensures

-- A text in pieces.
use Rattle.std.specs.Prelude.{ℕ, zero, suc, ◌-◌, ◌==◌, Bool, true, false, if◌then◌else◌, List, [], ◌∷◌, ◌++◌, take}
use Rattle.text_pieces.specs.declared.pieces.Piece.{Piece}
use Rattle.text_pieces.specs.declared.pieces.Piece.TheVariants.{Letters, Hole}
use Rattle.text_pieces.specs.Holes.{hole_len}

-- letters as a piece, where there are any
unfoldable pub piece_of : List ℕ → List Piece
piece_of [] = []
piece_of (b ∷ bs) = Letters (b ∷ bs) ∷ []

-- The pieces of a text behind letters that begin one. `skip` bytes are left of a hole.
unfoldable pub pieces_from : ℕ → List ℕ → List ℕ → List Piece
pieces_from skip letters [] = piece_of letters
pieces_from (suc skip) letters (b ∷ bs) = pieces_from skip letters bs
pieces_from zero letters (b ∷ bs) =
    let len = hole_len (b ∷ bs) in
    if len == 0 then pieces_from zero (letters ++ b ∷ []) bs else (piece_of letters ++ Hole (take len (b ∷ bs)) ∷ []) ++ pieces_from (len - 1) [] bs

-- the pieces of a text: its letters, and the holes that a template language has in it
abbrev pub pieces_of : List ℕ → List Piece
pieces_of text = pieces_from 0 [] text

-- whether a piece is a hole
abbrev pub is_hole : Piece → Bool
is_hole (Letters letters) = false
is_hole (Hole bytes) = true

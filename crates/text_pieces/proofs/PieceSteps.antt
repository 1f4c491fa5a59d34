-- Pieces of a text, one after the other, as loops do.
use Rattle.std.proofs.Common.{◌≡◌, ℕ, zero, suc, ◌-◌, ◌==◌, true, false, List, [], ◌∷◌, ◌++◌, length, take, drop, Result, Ok, Err, OnOk, refl, sym, ap, subst, ◌∙◌, append_assoc, arith}
use Rattle.text_pieces.specs.declared.pieces.Piece.{Piece}
use Rattle.text_pieces.specs.declared.pieces.Piece.TheVariants.{Hole}
use Rattle.text_pieces.specs.Holes.{hole_len}
use Rattle.text_pieces.specs.Pieces.{piece_of, pieces_from}

skipped : (n : ℕ) (letters bs : List ℕ) → pieces_from n letters bs ≡ pieces_from 0 letters (drop n bs)
unfolding pieces_from
skipped zero letters [] = refl
skipped zero letters (b ∷ bs) = refl
skipped (suc n) letters [] = refl
skipped (suc n) letters (b ∷ bs) = skipped n letters bs

pub a_letter : (letters rest bs : List ℕ) (b len : ℕ) (before total : List Piece) → rest ≡ b ∷ bs → len ≡ hole_len rest → (len == 0) ≡ true
    → before ++ pieces_from 0 letters rest ≡ total → before ++ pieces_from 0 (letters ++ b ∷ []) bs ≡ total
unfolding pieces_from
a_letter letters rest bs b len before total is size none so_far =
    let test : (hole_len (b ∷ bs) == 0) ≡ true = ap (λ n. n == 0) (sym (size ∙ ap hole_len is)) ∙ none in
    ap (λ ps. before ++ ps) (sym (ap (pieces_from 0 letters) is ∙ rw test refl)) ∙ so_far

hole_step : (letters bs : List ℕ) (b len : ℕ) → hole_len (b ∷ bs) ≡ len → (len == 0) ≡ false
    → pieces_from 0 letters (b ∷ bs) ≡ (piece_of letters ++ Hole (take len (b ∷ bs)) ∷ []) ++ pieces_from 0 [] (drop len (b ∷ bs))
unfolding pieces_from
hole_step letters bs b zero size some = let never : true ≡ false = some in cc
hole_step letters bs b (suc n) size some =
    let shorter : suc n - 1 ≡ n = omega arith in
    rw (size, some) (ap (λ (ps : List Piece). (piece_of letters ++ Hole (take (suc n) (b ∷ bs)) ∷ []) ++ ps) (ap (λ k. pieces_from k [] bs) shorter ∙ skipped n [] bs))

pub a_hole : (letters rest bs : List ℕ) (b len : ℕ) (before total : List Piece) → rest ≡ b ∷ bs → len ≡ hole_len rest → (len == 0) ≡ false
    → before ++ pieces_from 0 letters rest ≡ total → (before ++ (piece_of letters ++ Hole (take len rest) ∷ [])) ++ pieces_from 0 [] (drop len rest) ≡ total
a_hole letters rest bs b len before total is size some so_far =
    let size' : hole_len (b ∷ bs) ≡ len = sym (size ∙ ap hole_len is) in
    let step : pieces_from 0 letters rest ≡ (piece_of letters ++ Hole (take len rest) ∷ []) ++ pieces_from 0 [] (drop len rest) =
    subst (λ qs. pieces_from 0 letters qs ≡ (piece_of letters ++ Hole (take len qs) ∷ []) ++ pieces_from 0 [] (drop len qs)) (sym is) (hole_step letters bs b len size' some)
    in
    append_assoc before (piece_of letters ++ Hole (take len rest) ∷ []) (pieces_from 0 [] (drop len rest)) ∙ ap (λ ps. before ++ ps) (sym step) ∙ so_far

pub last_letters : (letters rest : List ℕ) (before total : List Piece) → length rest ≡ 0 → before ++ pieces_from 0 letters rest ≡ total → before ++ piece_of letters ≡ total
unfolding pieces_from
last_letters letters [] before total none so_far = so_far
last_letters letters (b ∷ bs) before total none so_far = absurd (omega arith)

pub hole_taken : (letters full new rest bs hole others : List ℕ) (b len : ℕ) (before after total : List Piece) → rest ≡ b ∷ bs → len ≡ hole_len rest → (len == 0) ≡ false
    → hole ≡ take len rest → others ≡ drop len rest → full ≡ letters → new ≡ [] → after ≡ before ++ (piece_of full ++ Hole hole ∷ [])
    → before ++ pieces_from 0 letters rest ≡ total → after ++ pieces_from 0 new others ≡ total
hole_taken letters full new rest bs hole others b len before after total is size some front back was emptied pushed so_far =
    rw (pushed, emptied, was, front, back) (a_hole letters rest bs b len before total is size some so_far)

pub last_pushed : {E : Type 0} (r : Result (Unit {0}) E) (letters rest : List ℕ) (before after total : List Piece) → length rest ≡ 0 → before ++ pieces_from 0 letters rest ≡ total
    → OnOk r (after ≡ before ++ piece_of letters) → OnOk r (after ≡ total)
last_pushed (Ok u) letters rest before after total none so_far pushed = pushed ∙ last_letters letters rest before total none so_far
last_pushed (Err e) letters rest before after total none so_far pushed = pushed

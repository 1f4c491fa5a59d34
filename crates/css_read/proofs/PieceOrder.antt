-- The selectors of a list stand in order and apart.
use Rattle.std.proofs.Common.{ℕ, zero, suc, ◌+◌, ◌-◌, ◌≤◌, ◌==◌, ◌&&◌, Bool, true, false, if◌then◌else◌, List, [], ◌∷◌, ◌++◌, length, take, codes, arith}
use Rattle.std.proofs.lemmas.List.{length-take}
use Rattle.sel_text.specs.Bytes.{behind_gap}
use Rattle.css_read.specs.declared.sheets.Range.{Range}
use Rattle.css_read.specs.Units.{behind_unit, begins_gap}
use Rattle.css_read.specs.Pieces.{with_unit, solid_len, piece_of, from_comma, first_piece, more_pieces, pieces}
use Rattle.css_read.specs.Order.{AreApart}
use Rattle.css_read.proofs.Lengths.{no_longer, gap_no_longer}

-- ---- ranges in order

pub from_earlier : (at from to : ℕ) (rs : List Range) → at ≤ from → AreApart from to rs → AreApart at to rs
from_earlier at from to [] less apart = omega arith
from_earlier at from to (r ∷ rs) less apart = (omega (arith, less, apart.0), apart.1, apart.2)

pub to_later : (from to at : ℕ) (rs : List Range) → AreApart from to rs → to ≤ at → AreApart from at rs
to_later from to at [] apart less = omega arith
to_later from to at (r ∷ rs) apart less = (apart.0, apart.1, to_later r.to to at rs apart.2 less)

pub joined : (from at to : ℕ) (rs others : List Range) → AreApart from at rs → AreApart at to others → AreApart from to (rs ++ others)
joined from at to [] others first second = from_earlier from at to others first second
joined from at to (r ∷ rs) others first second = (first.0, first.1, joined r.to at to rs others first.2 second)

pub in_order : (from to : ℕ) (rs : List Range) → AreApart from to rs → from ≤ to
in_order from to [] apart = apart
in_order from to (r ∷ rs) apart = let others = in_order r.to to rs apart.2 in omega (arith, apart.0, apart.1)

-- ---- one selector

lower : (test : Bool) (a b n : ℕ) → a ≤ n → b ≤ n → (if test then a else b) ≤ n
lower true a b n first second = first
lower false a b n first second = second

unit_within : (gap : Bool) (n others size : ℕ) → n + others ≤ size → with_unit gap n others ≤ size
unit_within gap n others size within = lower (gap && others == 0) 0 (n + others) size (omega arith) within

pub solid_within : (skip : ℕ) (bs : List ℕ) → solid_len skip bs ≤ length bs - skip
unfolding solid_len
solid_within skip [] = omega arith
solid_within (suc skip) (b ∷ bs) = let others = solid_within skip bs in omega arith
solid_within zero (b ∷ bs) =
    let left = length bs - length (behind_unit (b ∷ bs)) in
    let others = solid_within left bs in
    let all = unit_within (begins_gap (b ∷ bs)) (1 + left) (solid_len left bs) (length (b ∷ bs)) (omega arith) in
    omega arith

piece_within : (from to : ℕ) (bs : List ℕ) → from + length bs ≤ to → AreApart from to (piece_of to bs ∷ [])
unfolding piece_of
piece_within from to bs within =
    let solid = behind_gap true 0 bs in
    let shorter = gap_no_longer true 0 bs in
    let len = solid_within 0 solid in
    (omega arith, omega arith, omega arith)

-- ---- those of a list

first_within : (from to : ℕ) (bs : List ℕ) → from + length bs ≤ to → AreApart from (to - length (from_comma bs)) (first_piece to bs ∷ [])
unfolding first_piece
first_within from to bs within =
    let rest = from_comma bs in
    let shorter = no_longer (codes ",") [] 0 bs in
    let count = length-take (length bs - length rest) bs in
    piece_within from (to - length rest) (take (length bs - length rest) bs) (omega arith)

more_within : (from to skip : ℕ) (bs : List ℕ) → from + (length bs - skip) ≤ to → AreApart from to (more_pieces to skip bs)
unfolding more_pieces
more_within from to skip [] within = omega arith
more_within from to (suc skip) (b ∷ bs) within = more_within from to skip bs (omega arith)
more_within from to zero (b ∷ bs) within =
    let rest = from_comma bs in
    let shorter = no_longer (codes ",") [] 0 bs in
    joined from (to - length rest) to (first_piece to bs ∷ []) (more_pieces to (length bs - length rest) bs) (first_within from to bs (omega arith))
    (more_within (to - length rest) to (length bs - length rest) bs (omega arith))

pub pieces_apart : (from to : ℕ) (bs : List ℕ) → from + length bs ≤ to → AreApart from to (pieces to bs)
unfolding pieces
pieces_apart from to bs within =
    let rest = from_comma bs in
    let shorter = no_longer (codes ",") [] 0 bs in
    joined from (to - length rest) to (first_piece to bs ∷ []) (more_pieces to 0 rest) (first_within from to bs within) (more_within (to - length rest) to 0 rest (omega arith))

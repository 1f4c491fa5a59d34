-- The selectors of a list, as ranges of the file. `to` is the offset where the list, or a selector, ends.
--     piece_of    the range of a selector without white space and comments at both ends
--     pieces      the selectors of a list, split at commas outside brackets, strings and comments
use Rattle.std.specs.Prelude.{ℕ, zero, suc, ◌+◌, ◌-◌, ◌==◌, ◌&&◌, Bool, true, if◌then◌else◌, List, [], ◌∷◌, length, take, codes}
use Rattle.sel_text.specs.Bytes.{behind_gap}
use Rattle.css_read.specs.declared.sheets.Range.{Range}
use Rattle.css_read.specs.Units.{behind_unit, begins_gap, from_first}

-- the length up to the last byte that counts: a unit of n bytes, which is a gap or not, before `others` further ones that count
abbrev pub with_unit : Bool → ℕ → ℕ → ℕ
with_unit gap n others = if gap && others == 0 then 0 else n + others

-- The length without white space and comments at the end, where `skip` bytes are left of a string or a comment.
unfoldable pub solid_len : ℕ → List ℕ → ℕ
solid_len skip [] = 0
solid_len (suc skip) (b ∷ bs) = solid_len skip bs
solid_len zero (b ∷ bs) =
    let left = length bs - length (behind_unit (b ∷ bs)) in with_unit (begins_gap (b ∷ bs)) (1 + left) (solid_len left bs)

unfoldable pub piece_of : ℕ → List ℕ → Range
piece_of to bs =
    let solid = behind_gap true 0 bs in
    record { from = to - length solid; to = to - length solid + solid_len 0 solid }

abbrev pub from_comma : List ℕ → List ℕ
from_comma bs = from_first (codes ",") bs

-- the selector before the next comma
unfoldable pub first_piece : ℕ → List ℕ → Range
first_piece to bs = let rest = from_comma bs in piece_of (to - length rest) (take (length bs - length rest) bs)

-- one selector behind each comma, where the text begins with the first comma; `skip` bytes are left before it
unfoldable pub more_pieces : ℕ → ℕ → List ℕ → List Range
more_pieces to skip [] = []
more_pieces to (suc skip) (b ∷ bs) = more_pieces to skip bs
more_pieces to zero (b ∷ bs) = first_piece to bs ∷ more_pieces to (length bs - length (from_comma bs)) bs

unfoldable pub pieces : ℕ → List ℕ → List Range
pieces to bs = first_piece to bs ∷ more_pieces to 0 (from_comma bs)

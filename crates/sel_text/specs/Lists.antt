-- Lists of selectors, of which nothing is dropped: first the pieces between the commas, and then the selectors that they are, from left to right.
--     from_comma         the bytes from the next comma on that parts the list
--     pieces             what stands between commas
--     read_pieces        the selectors of pieces
--     read_strict_list   those of a text
-- A comma in an attribute part parts no list. One in other brackets or in another string does, and that makes no difference: outside comments and attribute parts the
-- byte that opens a bracket or a string is in no selector. So its piece is refused at that byte or before it, with the same cause, place and names wherever the piece
-- ends, and nothing behind it is read.
use Rattle.std.specs.Prelude.{ℕ, zero, suc, ◌-◌, ◌==◌, nat_eq, false, if◌then◌else◌, List, [], ◌∷◌, length, take, drop, codes, Option, Some, None, Ok}
use Rattle.std.specs.List.{starts_with}
use Rattle.tp_base.specs.Names.{Named}
use Rattle.sel_text.specs.Selectors.{Selector}
use Rattle.sel_text.specs.Bytes.{behind_close}
use Rattle.sel_text.specs.Grammar.{Front, Word, attribute_part}
use Rattle.sel_text.specs.Reading.{Ending, then_read, read_piece}

abbrev pub behind_front : List ℕ → Front Word → List ℕ
behind_front bs None = bs
behind_front bs (Some w) = w.1

-- behind the attribute part, the comment or the byte that the text begins with
unfoldable pub behind_unit : List ℕ → List ℕ
behind_unit [] = []
behind_unit (b ∷ bs) =
    if b == 91 then behind_front bs (attribute_part bs) else (if starts_with nat_eq (b ∷ bs) (codes "/*") then behind_close (drop 1 bs) else bs)

-- From the first `,` outside attribute parts and comments on. `skip` bytes are left of one of these.
unfoldable pub from_comma : ℕ → List ℕ → List ℕ
from_comma skip [] = []
from_comma (suc skip) (b ∷ bs) = from_comma skip bs
from_comma zero (b ∷ bs) = if b == 44 then b ∷ bs else from_comma (length bs - length (behind_unit (b ∷ bs))) bs

-- the text of a piece, and the offset of its end
pub record Piece : Type 0 where
  pub to : ℕ
  pub text : List ℕ

-- the one before the next comma, in a list of `size` bytes that has these left
unfoldable pub first_piece : ℕ → List ℕ → Piece
first_piece size bs = let rest = from_comma 0 bs in record { to = size - length rest; text = take (length bs - length rest) bs }

-- one behind each comma, of which these bytes begin with the first; `skip` bytes are left before it
unfoldable pub more_pieces : ℕ → ℕ → List ℕ → List Piece
more_pieces size skip [] = []
more_pieces size (suc skip) (b ∷ bs) = more_pieces size skip bs
more_pieces size zero (b ∷ bs) = first_piece size bs ∷ more_pieces size (length bs - length (from_comma 0 bs)) bs

unfoldable pub pieces : List ℕ → List Piece
pieces text = first_piece (length text) text ∷ more_pieces (length text) 0 (from_comma 0 text)

-- the selector of a piece
abbrev pub read_one : Piece → List Named → Ending Selector
read_one p names = read_piece false p.to p.text names

unfoldable pub read_pieces : List Piece → List Named → Ending (List Selector)
read_pieces [] names = (names, Ok [])
read_pieces (p ∷ ps) names = then_read (read_one p names) (λ later s. then_read (read_pieces ps later) (λ last others. (last, Ok (s ∷ others))))

unfoldable pub read_strict_list : List ℕ → List Named → Ending (List Selector)
read_strict_list text names = read_pieces (pieces text) names

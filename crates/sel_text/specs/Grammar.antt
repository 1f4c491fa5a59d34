-- What stands where in a selector's text. `to` is the offset of the text's end, so a place in it is `to` less what is left.
use Rattle.std.specs.Prelude.{ℕ, ◌+◌, ◌-◌, ◌==◌, ◌&&◌, ◌||◌, not, nat_lt, Bool, true, false, if◌then◌else◌, List, [], ◌∷◌, length, take, drop, map, codes, Option, Some, None, option_map, Result, Ok, Err}
use Rattle.std.specs.List.{prefix_len}
use Rattle.std.specs.Str.{bytes_eq}
use Rattle.std.specs.Char.{to_ascii_lowercase}
pub use Rattle.tp_base.specs.Outcomes.{◌>>=◌}
use Rattle.tp_base.specs.declared.atoms.AtomKind.{AtomKind}
use Rattle.tp_base.specs.declared.atoms.AtomKind.TheVariants as kind
use Rattle.sel_text.specs.declared.faults.Skip.{Skip}
use Rattle.sel_text.specs.declared.faults.Skip.TheVariants.{Sibling, Pseudo, Attribute, Escape, Bad}
use Rattle.sel_text.specs.declared.faults.SelFault.{SelFault}
use Rattle.sel_text.specs.declared.faults.SelFault.TheVariants.{Skipped}
use Rattle.sel_text.specs.declared.selectors.Join.{Join}
use Rattle.sel_text.specs.declared.selectors.Join.TheVariants.{Inside, Child}
use Rattle.text_bytes.specs.Attributes.{is_set_apart, with_value}
use Rattle.text_bytes.specs.Blanks.{is_blank}
use Rattle.sel_text.specs.Bytes.{begins_with, begins_name, name_len, behind_gap}

abbrev pub Outcome : Type 0 → Type 0
Outcome A = Result A SelFault

-- why the grammar is left at a byte, or at the end
abbrev pub cause_of : List ℕ → Skip
cause_of [] = Bad
cause_of (b ∷ bs) =
    if b == 43 || b == 126 then Sibling else (if b == 58 then Pseudo else (if b == 91 then Attribute else (if b == 92 then Escape else Bad)))

abbrev pub is_empty : List ℕ → Bool
is_empty [] = true
is_empty (b ∷ bs) = false

-- the grammar is left at the bytes `at`; the end's place is before the gap that leads to it
unfoldable pub left_at : ℕ → List ℕ → List ℕ → SelFault
left_at to before at = Skipped (cause_of at) (to - length (if is_empty at then before else at))

-- ---- pseudo parts

abbrev pub is_word : List ℕ → List ℕ → Bool
is_word name word = bytes_eq (map to_ascii_lowercase name) word

-- the pseudo-elements that are dropped, behind one colon or two
unfoldable pub is_dropped_element : List ℕ → Bool
is_dropped_element name = is_word name (codes "before") || is_word name (codes "after")

-- the pseudo-classes that are dropped
unfoldable pub is_dropped_class : List ℕ → Bool
is_dropped_class name =
    is_word name (codes "hover") || is_word name (codes "active") || is_word name (codes "focus") || is_word name (codes "visited") || is_word name (codes "link")

-- a name at the end of a pseudo part, which no `(` follows: what is behind it, where the part is dropped
unfoldable pub behind_word : Bool → List ℕ → Option (List ℕ)
behind_word two bs =
    let name = take (name_len bs) bs in
    let rest = drop (name_len bs) bs in
    if (is_dropped_element name || not two && is_dropped_class name) && not (begins_with 40 (behind_gap false 0 rest)) then Some rest else None

-- behind the first colon: what is behind the part, where it is dropped
unfoldable pub behind_dropped : List ℕ → Option (List ℕ)
behind_dropped bs =
    let at = behind_gap false 0 bs in
    if begins_with 58 at then behind_word true (behind_gap false 0 (drop 1 at)) else behind_word false at

-- ---- attribute parts
--     attribute = `[` name [ `=` value ] `]`, with white space and comments round each
--     value     = name | string

-- a kind and a name as written; that of an attribute's value has the attribute's name and `=` before it
abbrev pub Word : Type 0
Word = AtomKind × List ℕ

-- what stands at the front of some bytes, and the bytes behind it
abbrev pub Front : Type 0 → Type 0
Front A = Option (A × List ℕ)

-- a byte of a string in such quotes; a `\` and an LF are in none that is read
abbrev pub in_quotes : ℕ → ℕ → Bool
in_quotes quote b = not (b == quote || b == 92 || b == 10)

-- a text, where a quote is next
abbrev pub before_quote : ℕ → List ℕ → List ℕ → Front (List ℕ)
before_quote quote text [] = None
before_quote quote text (b ∷ rest) = if b == quote then Some (text, rest) else None

-- from behind the opening quote on: the string, and the bytes behind its closing quote
unfoldable pub quoted : ℕ → List ℕ → Front (List ℕ)
quoted quote bs = let n = prefix_len (in_quotes quote) bs in before_quote quote (take n bs) (drop n bs)

-- a name alone
unfoldable pub name_front : List ℕ → Front (List ℕ)
name_front bs = let n = name_len bs in if nat_lt 0 n then Some (take n bs, drop n bs) else None

abbrev pub is_quote : ℕ → Bool
is_quote b = b == 34 || b == 39

-- the value behind `=`
unfoldable pub value_at : List ℕ → Front (List ℕ)
value_at [] = None
value_at (b ∷ bs) = if is_quote b then quoted b bs else name_front (b ∷ bs)

-- behind a `]` that is next
abbrev pub behind_end : List ℕ → Option (List ℕ)
behind_end [] = None
behind_end (b ∷ rest) = if b == 93 then Some rest else None

-- behind the `]` that ends an attribute part
unfoldable pub behind_bracket : List ℕ → Option (List ℕ)
behind_bracket bs = behind_end (behind_gap true 0 bs)

-- an attribute part of this name, before its end
abbrev pub ended_part : List ℕ → List ℕ → Front Word
ended_part name bs = option_map (λ rest. ((kind.Attr, name), rest)) (behind_bracket bs)

abbrev pub valued_part : List ℕ → Front (List ℕ) → Front Word
valued_part name None = None
valued_part name (Some v) = ended_part (with_value name v.0) v.1

-- with a value where `=` is next
abbrev pub with_equals : List ℕ → List ℕ → Front Word
with_equals name [] = None
with_equals name (b ∷ rest) = if b == 61 then valued_part name (value_at (behind_gap true 0 rest)) else ended_part name (b ∷ rest)

-- behind an attribute's name
unfoldable pub behind_name : List ℕ → List ℕ → Front Word
behind_name name bs = with_equals name (behind_gap true 0 bs)

abbrev pub unless_apart : Front (List ℕ) → Front Word
unless_apart None = None
unless_apart (Some n) = if is_set_apart n.0 then None else behind_name n.0 n.1

-- an attribute part, from behind its `[` on
unfoldable pub attribute_part : List ℕ → Front Word
attribute_part bs = unless_apart (name_front (behind_gap true 0 bs))

-- ---- parts

-- A part begins: it is whole, with the word that it gives, if it gives one, and the bytes behind it; or a name of a kind is wanted from these bytes on.
pub data Begun : Type 0 where
  whole : Option Word → List ℕ → Begun
  wanting : AtomKind → List ℕ → Begun

abbrev pub given : Front Word → Option Begun
given part = option_map (λ w. whole (Some w.0) w.1) part

-- a part that may stand anywhere in a compound; pseudo parts are dropped, or there are none
unfoldable pub any_part : Bool → List ℕ → Option Begun
any_part drops [] = None
any_part drops (b ∷ bs) =
    if b == 46 then Some (wanting kind.Class bs)
    else (if b == 35 then Some (wanting kind.Ident bs)
    else (if b == 91 then given (attribute_part bs)
    else (if drops && b == 58 then option_map (λ rest. whole None rest) (behind_dropped bs) else None)))

-- a part at the beginning of a compound
unfoldable pub first_part : Bool → List ℕ → Option Begun
first_part drops [] = None
first_part drops (b ∷ bs) =
    if b == 42 then Some (whole None bs)
    else (if begins_name (b ∷ bs) then Some (wanting kind.Element (b ∷ bs)) else any_part drops (b ∷ bs))

-- the name, which has to stand behind comments
unfoldable pub name_at : ℕ → AtomKind → List ℕ → Outcome (Option Word × List ℕ)
name_at to k bs =
    let at = behind_gap false 0 bs in
    let n = name_len at in
    if nat_lt 0 n then Ok (Some (k, take n at), drop n at) else Err (left_at to bs at)

-- the whole part: its name, if it has one, and what is behind it
abbrev pub part_of : ℕ → Begun → Outcome (Option Word × List ℕ)
part_of to (whole w rest) = Ok (w, rest)
part_of to (wanting k bs) = name_at to k bs

-- ---- between compounds

-- behind `>`: the next compound
unfoldable pub behind_child : ℕ → List ℕ → Outcome (Option Join × List ℕ)
behind_child to bs =
    let at = behind_gap true 0 bs in
    if is_empty at then Err (left_at to bs at) else Ok (Some Child, at)

-- behind white space that follows a compound
unfoldable pub behind_space : ℕ → List ℕ → Outcome (Option Join × List ℕ)
behind_space to [] = Ok (None, [])
behind_space to (b ∷ bs) = if b == 62 then behind_child to bs else Ok (Some Inside, b ∷ bs)

-- behind a part and the comments that follow it
unfoldable pub behind_near : ℕ → List ℕ → Outcome (Option Join × List ℕ)
behind_near to [] = Ok (None, [])
behind_near to (b ∷ bs) =
    if is_blank b then behind_space to (behind_gap true 0 bs) else (if b == 62 then behind_child to bs else Ok (None, b ∷ bs))

-- behind a part: the join that stands there, if one does, and the bytes behind it; without bytes it is the end
unfoldable pub join_at : ℕ → List ℕ → Outcome (Option Join × List ℕ)
join_at to bs = behind_near to (behind_gap false 0 bs)

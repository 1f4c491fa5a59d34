-- The tokens of a page or of markup.
use Rattle.std.specs.Prelude.{ℕ, zero, suc, ◌+◌, ◌-◌, ◌==◌, Bool, if◌then◌else◌, nat_eq, List, [], ◌∷◌, ◌++◌, length, take, drop, Option, Some, None, codes}
use Rattle.std.specs.Char.{is_ascii_alphabetic}
use Rattle.std.specs.List.{starts_with, ends_with, prefix_len}
use Rattle.std.specs.Option.{option_to_list}
use Rattle.std.specs.Str.{byte}
use Rattle.html_tokens.specs.Bytes.{in_tag_name, lowered}
use Rattle.html_tokens.specs.Names.{is_raw}
use Rattle.html_tokens.specs.Attributes.{Attribute, Read, attributes, Given, given_by, others_in}
use Rattle.html_tokens.specs.Markup.{behind_angle, behind_arrow, behind_raw, begins_markup, behind_text}

-- A start tag. `id` and `class` are the values of its first such attributes, `others` the first of each other name in written order, `at` is
-- the offset of its `<`.
pub record StartTag : Type 0 where
  pub name : List ℕ
  pub id : Option (List ℕ)
  pub class : Option (List ℕ)
  pub others : List Attribute
  pub closes_itself : Bool
  pub at : ℕ

-- A token: a text, a start tag, or an end tag with the offset of its `<`. Names are in lower case.
pub data Token : Type 0 where
  text : List ℕ → Token
  start : StartTag → Token
  stop : (name : List ℕ) (at : ℕ) → Token

-- a tag's name as it is written, and what is kept of its attributes
pub record Tag : Type 0 where
  pub name : List ℕ
  pub given : Given
  pub others : List Attribute

-- a tag of all its attributes, and the bytes behind its `>`
abbrev pub tag_of_all : List ℕ → Read (List Attribute) → Read Tag
tag_of_all name None = None
tag_of_all name (Some a) = Some (record { name = name; given = given_by a.0; others = others_in a.0 }, a.1)

-- a tag from its name on
unfoldable pub tag : List ℕ → Read Tag
tag bs = let n = prefix_len in_tag_name bs in tag_of_all (take n bs) (attributes (drop n bs))

-- what stands at a place, a token or nothing that counts, and the bytes behind it
abbrev pub Front : Type 0
Front = Option Token × List ℕ

-- what counts as nothing, and the bytes behind it
abbrev pub passed : List ℕ → Front
passed rest = (None, rest)

-- a start tag of so many bytes, which have their `>` last
abbrev pub start_of : ℕ → List ℕ → Tag → StartTag
start_of at bytes t = record {
  name = lowered t.name;
  id = t.given.id;
  class = t.given.class;
  others = t.others;
  closes_itself = ends_with nat_eq bytes (codes "/>");
  at = at;
}

-- the bytes behind a start tag, and behind the text of a raw element
unfoldable pub behind_start : List ℕ → List ℕ → List ℕ
behind_start name rest = if is_raw (lowered name) then behind_raw name rest else rest

-- a start tag whose `<` is at `at`, from its name on; one that the end cuts counts as nothing
unfoldable pub start_tag : ℕ → List ℕ → Front
start_tag at bs = started (tag bs)
  where
    started : Read Tag → Front
    started None = passed []
    started (Some t) = (Some (start (start_of at (take (length bs - length t.1) bs) t.0)), behind_start t.0.name t.1)

-- an end tag whose `<` is at `at`, from its name on; one that the end cuts counts as nothing
unfoldable pub end_tag : ℕ → List ℕ → Front
end_tag at bs = ended (tag bs)
  where
    ended : Read Tag → Front
    ended None = passed []
    ended (Some t) = (Some (stop (lowered t.0.name) at), t.1)

-- behind `</`
unfoldable pub end_markup : ℕ → List ℕ → Front
end_markup at [] = passed []
end_markup at (b ∷ bs) = if is_ascii_alphabetic b then end_tag at (b ∷ bs) else passed (behind_angle (b ∷ bs))

-- behind the `<` at `at`, where that begins markup: a tag, or a comment or another thing that is passed over
unfoldable pub markup : ℕ → List ℕ → Front
markup at [] = passed []
markup at (b ∷ bs) =
    if is_ascii_alphabetic b then start_tag at (b ∷ bs)
    else (if b == byte "/" then end_markup at bs
    else (if starts_with nat_eq (b ∷ bs) (codes "!--") then passed (behind_arrow bs)
    else passed (behind_angle bs)))

-- what stands at the front of the bytes, which is the offset `at`
unfoldable pub front : ℕ → List ℕ → Front
front at [] = passed []
front at (b ∷ bs) =
    if begins_markup (b ∷ bs) then markup at bs
    else (let rest = behind_text bs in (Some (text (take (1 + length bs - length rest) (b ∷ bs))), rest))

-- The tokens of the last bytes of a file of `size` bytes. `skip` bytes are left of what was read last.
unfoldable pub tokens_from : ℕ → ℕ → List ℕ → List Token
tokens_from size skip [] = []
tokens_from size (suc skip) (b ∷ bs) = tokens_from size skip bs
tokens_from size zero (b ∷ bs) =
    let f = front (size - length (b ∷ bs)) (b ∷ bs) in
    option_to_list f.0 ++ tokens_from size (length bs - length f.1) bs

-- the tokens of the last bytes of a file of `size` bytes
abbrev pub tokens : ℕ → List ℕ → List Token
tokens size bs = tokens_from size 0 bs

-- The start tags of a text, with their attributes and the places of the values.
--     tags_in    those of a text
use Rattle.std.specs.Prelude.{ℕ, zero, suc, ◌-◌, ◌==◌, ◌&&◌, Bool, false, if◌then◌else◌, List, [], ◌∷◌, ◌++◌, map, length, take, drop, Option, Some, None}
use Rattle.std.specs.Char.{is_ascii_alphabetic}
use Rattle.std.specs.List.{prefix_len}
use Rattle.std.specs.Str.{byte, bytes_eq}
use Rattle.html_tokens.specs.Bytes.{is_filler, in_tag_name, lowered}
use Rattle.html_tokens.specs.Attributes.{Read, Attribute, attribute, behind_equals, is_quote, value_of}
use Rattle.html_tokens.specs.Tokens.{front}

-- an attribute as it is written, and the offset of its value's first byte
pub record Placed : Type 0 where
  pub attribute : Attribute
  pub value_at : ℕ

abbrev pub begins_quote : List ℕ → Bool
begins_quote [] = false
begins_quote (b ∷ bs) = is_quote b

-- how many bytes are left from a value on, of which a quote is passed over; where there is no value, from behind the name on
abbrev pub left_of_value : List ℕ → Option (List ℕ) → ℕ
left_of_value rest None = length rest
left_of_value rest (Some after) = if begins_quote after then length after - 1 else length after

-- of an attribute with this name that begins the bytes, in a file of `size` bytes
unfoldable pub value_place : ℕ → List ℕ → List ℕ → ℕ
value_place size bs name = let rest = drop (length name) bs in size - left_of_value rest (behind_equals rest)

-- attributes, and the bytes behind the `>` that ends their tag; none where the file's end cuts it
abbrev pub Attributes : Type 0
Attributes = List Placed × List ℕ

abbrev pub one_more : ℕ → List ℕ → Read Attribute → (List ℕ → Attributes) → Attributes
one_more size bs None more = ([], [])
one_more size bs (Some a) more = let others = more a.1 in ((record { attribute = a.0; value_at = value_place size bs a.0.name }) ∷ others.0, others.1)

-- those up to `>`, in the last bytes of a file of `size` bytes; `skip` bytes are left of the last attribute
unfoldable pub placed_from : ℕ → ℕ → List ℕ → Attributes
placed_from size skip [] = ([], [])
placed_from size (suc skip) (b ∷ bs) = placed_from size skip bs
placed_from size zero (b ∷ bs) =
    if b == byte ">" then ([], bs)
    else (if is_filler b then placed_from size zero bs
    else one_more size (b ∷ bs) (attribute (b ∷ bs)) (λ rest. placed_from size (length bs - length rest) bs))

-- A start tag. Its name is in lower case. `at` is the offset of its `<`. `inside` is the text of a raw element, and nothing of another one;
-- `inside_at` is the offset of its first byte.
pub record Tag : Type 0 where
  pub name : List ℕ
  pub attributes : List Placed
  pub inside : List ℕ
  pub at : ℕ
  pub inside_at : ℕ

-- the one that begins the bytes, where the rest is what the tokens go on with
unfoldable pub tag_at : ℕ → List ℕ → List ℕ → Tag
tag_at size bs rest =
    let name = drop 1 bs in
    let n = prefix_len in_tag_name name in
    let read = placed_from size 0 (drop n name) in
    record {
      name = lowered (take n name);
      attributes = read.0;
      inside = take (length read.1 - length rest) read.1;
      at = size - length bs;
      inside_at = size - length read.1;
    }

-- one that the text's end cuts, too, with the attributes before
unfoldable pub begins_tag : List ℕ → Bool
begins_tag (b ∷ c ∷ bs) = b == byte "<" && is_ascii_alphabetic c
begins_tag bs = false

unfoldable pub tags_at : ℕ → List ℕ → List ℕ → List Tag
tags_at size bs rest = if begins_tag bs then tag_at size bs rest ∷ [] else []

-- in the last bytes of a text of `size` bytes; `skip` bytes are left of what was read last
unfoldable pub tags_from : ℕ → ℕ → List ℕ → List Tag
tags_from size skip [] = []
tags_from size (suc skip) (b ∷ bs) = tags_from size skip bs
tags_from size zero (b ∷ bs) = let f = front (size - length (b ∷ bs)) (b ∷ bs) in tags_at size (b ∷ bs) f.1 ++ tags_from size (length bs - length f.1) bs

abbrev pub tags_in : List ℕ → List Tag
tags_in text = tags_from (length text) 0 text

-- ---- what is asked of a tag

abbrev pub is_named : List ℕ → Tag → Bool
is_named name t = bytes_eq t.name name

-- the value of the first attribute of a name
abbrev pub value : List ℕ → Tag → Option (List ℕ)
value name t = value_of name (map (λ p. p.attribute) t.attributes)

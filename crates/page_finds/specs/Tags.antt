-- The start tags of a page, with the places of their attributes.
--     tags_of    those of a page
use Rattle.std.specs.Prelude.{ℕ, zero, suc, ◌-◌, ◌==◌, if◌then◌else◌, List, [], ◌∷◌, ◌++◌, length, take, drop, Some, None}
use Rattle.std.specs.List.{prefix_len}
use Rattle.std.specs.Str.{byte}
use Rattle.text_bytes.specs.OrderMark.{behind_order_mark}
use Rattle.html_tokens.specs.Bytes.{is_filler, in_tag_name, lowered}
use Rattle.html_tokens.specs.Attributes.{Read, Attribute, attribute}
use Rattle.html_tokens.specs.Tokens.{Front, front}
use Rattle.html_tokens.specs.Tokens.Token.{start}

-- an attribute as it is written, from its name's first byte to behind its last one
pub record Placed : Type 0 where
  pub attribute : Attribute
  pub from : ℕ
  pub to : ℕ

-- attributes, and the bytes behind the `>` that ends their tag; none where the file's end cuts it
abbrev pub Attributes : Type 0
Attributes = List Placed × List ℕ

abbrev pub one_more : ℕ → List ℕ → Read Attribute → (List ℕ → Attributes) → Attributes
one_more size bs None more = ([], [])
one_more size bs (Some a) more = let others = more a.1 in ((record { attribute = a.0; from = size - length bs; to = size - length a.1 }) ∷ others.0, others.1)

-- those up to `>`, in the last bytes of a file of `size` bytes; `skip` bytes are left of the last attribute
unfoldable pub placed_from : ℕ → ℕ → List ℕ → Attributes
placed_from size skip [] = ([], [])
placed_from size (suc skip) (b ∷ bs) = placed_from size skip bs
placed_from size zero (b ∷ bs) =
    if b == byte ">" then ([], bs)
    else (if is_filler b then placed_from size zero bs
    else one_more size (b ∷ bs) (attribute (b ∷ bs)) (λ rest. placed_from size (length bs - length rest) bs))

-- A start tag, from its `<` to behind its `>`. Its name is in lower case. `inside` is the text of a raw element, and nothing of another one.
pub record Tag : Type 0 where
  pub name : List ℕ
  pub attributes : List Placed
  pub inside : List ℕ
  pub from : ℕ
  pub to : ℕ

-- the one that begins the bytes, where the rest is what the tokens go on with
unfoldable pub tag_at : ℕ → List ℕ → List ℕ → Tag
tag_at size bs rest =
    let name = drop 1 bs in
    let n = prefix_len in_tag_name name in
    let read = placed_from size 0 (drop n name) in
    record {
      name = lowered (take n name);
      attributes = read.0;
      inside = take (length read.1 - length rest) read.1;
      from = size - length bs;
      to = size - length read.1;
    }

abbrev pub tags_at : ℕ → List ℕ → Front → List Tag
tags_at size bs (Some (start t), rest) = tag_at size bs rest ∷ []
tags_at size bs f = []

-- in the last bytes of a file of `size` bytes; `skip` bytes are left of what was read last
unfoldable pub tags_from : ℕ → ℕ → List ℕ → List Tag
tags_from size skip [] = []
tags_from size (suc skip) (b ∷ bs) = tags_from size skip bs
tags_from size zero (b ∷ bs) = let f = front (size - length (b ∷ bs)) (b ∷ bs) in tags_at size (b ∷ bs) f ++ tags_from size (length bs - length f.1) bs

-- a byte order mark is passed over
unfoldable pub tags_of : List ℕ → List Tag
tags_of page = tags_from (length page) 0 (behind_order_mark page)

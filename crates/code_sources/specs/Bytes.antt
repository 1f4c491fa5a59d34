-- Small questions about a text's bytes.
use Rattle.std.specs.Prelude.{ℕ, nat_eq, nat_lt, ◌==◌, Bool, if◌then◌else◌, List, [], ◌∷◌, drop, Option, Some, None}
use Rattle.std.specs.Char.{to_ascii_lowercase}
use Rattle.std.specs.List.{prefix_len, list_any}
use Rattle.text_bytes.specs.Blanks.{is_blank}

abbrev pub past_blanks : List ℕ → List ℕ
past_blanks bs = drop (prefix_len is_blank bs) bs

-- In the markup of strings a hole is one byte, which no text has that is UTF-8.
abbrev pub hole : ℕ
hole = 255

abbrev pub has_hole : List ℕ → Bool
has_hole bs = list_any (λ b. nat_eq b hole) bs

-- what is behind a word in lower case at the front, in any case, whatever control bytes and blanks stand before and in it
unfoldable pub behind_spelled : List ℕ → List ℕ → Option (List ℕ)
behind_spelled [] bs = Some bs
behind_spelled (w ∷ ws) [] = None
behind_spelled (w ∷ ws) (b ∷ bs) =
    if nat_lt 32 b then (if to_ascii_lowercase b == w then behind_spelled ws bs else None)
    else behind_spelled (w ∷ ws) bs

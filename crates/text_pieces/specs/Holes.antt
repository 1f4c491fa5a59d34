-- What template languages put values in.
use Rattle.std.specs.Prelude.{ℕ, ◌+◌, ◌-◌, ◌==◌, ◌&&◌, ◌||◌, not, nat_eq, Bool, if◌then◌else◌, List, [], ◌∷◌, length, drop, Option, Some, None, codes}
use Rattle.std.specs.Char.{is_ascii_digit, is_ascii_alphabetic}
use Rattle.std.specs.List.{starts_with, prefix_len}

abbrev pub starts : List ℕ → List ℕ → Bool
starts bs mark = starts_with nat_eq bs mark

-- what is behind the first place where a mark stands, if it does
unfoldable pub behind_first : List ℕ → List ℕ → Option (List ℕ)
behind_first mark [] = None
behind_first mark (b ∷ bs) = if starts (b ∷ bs) mark then Some (drop (length mark) (b ∷ bs)) else behind_first mark bs

abbrev pub is_closing_brace : ℕ → Bool
is_closing_brace b = b == 125

-- without the braces that close at the front
abbrev pub behind_braces : List ℕ → List ℕ
behind_braces bs = drop (prefix_len is_closing_brace bs) bs

abbrev pub past_braces : Option (List ℕ) → Option (List ℕ)
past_braces None = None
past_braces (Some rest) = Some (behind_braces rest)

-- braces open, perhaps behind a `$` or a `#`
abbrev pub begins_brace : List ℕ → Bool
begins_brace bs = starts bs (codes "{") || starts bs (codes "${") || starts bs (codes "#{")

-- ---- a percent sign with a letter

abbrev pub in_round : ℕ → Bool
in_round b = not (b == 40 || b == 41 || b == 37)

-- behind a `)`, where one is at the front, else all
unfoldable pub behind_closing : List ℕ → List ℕ → List ℕ
behind_closing [] all = all
behind_closing (b ∷ bs) all = if b == 41 then bs else all

-- behind a name in round brackets, where one is at the front
unfoldable pub behind_round : List ℕ → List ℕ
behind_round [] = []
behind_round (b ∷ bs) = if b == 40 then behind_closing (drop (prefix_len in_round bs) bs) (b ∷ bs) else b ∷ bs

abbrev pub behind_digits : List ℕ → List ℕ
behind_digits bs = drop (prefix_len is_ascii_digit bs) bs

unfoldable pub behind_dollar : List ℕ → List ℕ
behind_dollar [] = []
behind_dollar (b ∷ bs) = if b == 36 then bs else b ∷ bs

unfoldable pub behind_letter : List ℕ → Option (List ℕ)
behind_letter [] = None
behind_letter (b ∷ bs) = if is_ascii_alphabetic b then Some bs else None

-- behind a name in round brackets, digits, `$` and a letter; all but the letter may be missing
abbrev pub behind_format : List ℕ → Option (List ℕ)
behind_format bs = behind_letter (behind_dollar (behind_digits (behind_round bs)))

-- ---- a hole

abbrev pub behind_percent : List ℕ → Option (List ℕ)
behind_percent bs = behind_first (codes "%>") bs

abbrev pub behind_square : List ℕ → Option (List ℕ)
behind_square bs = behind_first (codes "]]") bs

-- all braces that close together
abbrev pub behind_brace : List ℕ → Option (List ℕ)
behind_brace bs = past_braces (behind_first (codes "}") bs)

-- What is behind a hole, where one is at the front: `<% .. %>`, `[[ .. ]]`, braces, or a percent sign with a letter. The bytes behind the first
-- one stand apart.
unfoldable pub behind_hole_in : List ℕ → List ℕ → Option (List ℕ)
behind_hole_in bs behind =
    if starts bs (codes "<%") then behind_percent behind
    else if starts bs (codes "[[") then behind_square behind
    else if begins_brace bs then behind_brace behind
    else if starts bs (codes "%") then behind_format behind
    else None

abbrev pub behind_hole : List ℕ → Option (List ℕ)
behind_hole bs = behind_hole_in bs (drop 1 bs)

abbrev pub len_before : List ℕ → Option (List ℕ) → ℕ
len_before bs None = 0
len_before bs (Some rest) = length bs - length rest

-- how many bytes the hole at the front has, 0 where none is
abbrev pub hole_len : List ℕ → ℕ
hole_len bs = len_before bs (behind_hole bs)

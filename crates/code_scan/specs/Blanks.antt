-- White space that a reader of ASCII alone doesn't know.
use Rattle.std.specs.Prelude.{ℕ, ◌&&◌, ◌||◌, ◌==◌, nat_le, Bool, false, if◌then◌else◌, List, [], ◌∷◌, Option, Some, None, nat_eq}
use Rattle.std.specs.List.{starts_with}

-- the last bytes of the characters from U+2000 to U+200A, of U+2028, U+2029 and U+202F
abbrev pub ends_space : ℕ → Bool
ends_space b = (nat_le 0x80 b && nat_le b 0x8A) || b == 0xA8 || b == 0xA9 || b == 0xAF

-- one of these characters
unfoldable pub begins_space : List ℕ → Bool
begins_space (a ∷ b ∷ c ∷ bs) = a == 0xE2 && b == 0x80 && ends_space c
begins_space bs = false

-- the characters U+1680, U+205F, U+3000 and U+FEFF
abbrev pub begins_rare : List ℕ → Bool
begins_rare bs =
    starts_with nat_eq bs (0xE1 ∷ 0x9A ∷ 0x80 ∷ []) || starts_with nat_eq bs (0xE2 ∷ 0x81 ∷ 0x9F ∷ [])
    || starts_with nat_eq bs (0xE3 ∷ 0x80 ∷ 0x80 ∷ []) || starts_with nat_eq bs (0xEF ∷ 0xBB ∷ 0xBF ∷ [])

-- how many bytes the character of white space at the front has, where it is a vertical tab, a no-break space or another one past ASCII
unfoldable pub wide_blank : List ℕ → Option ℕ
wide_blank bs =
    if starts_with nat_eq bs (11 ∷ []) then Some 1
    else if starts_with nat_eq bs (0xC2 ∷ 0xA0 ∷ []) then Some 2
    else if begins_rare bs then Some 3
    else if begins_space bs then Some 3
    else None

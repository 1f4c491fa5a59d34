-- Escapes in a Text, all that JavaScript has.
use Rattle.std.specs.Prelude.{ℕ, ◌+◌, ◌*◌, ◌-◌, ◌||◌, ◌&&◌, ◌==◌, nat_lt, nat_le, nat_eq, Bool, true, false, if◌then◌else◌, List, [], ◌∷◌, length, drop, Option, Some, None, encode_utf8, codes}
use Rattle.std.specs.Int.{is_in_range}
use Rattle.std.specs.List.{starts_with}
use Rattle.std.specs.Str.{byte}
use Rattle.std.specs.Char.{is_ascii_hexdigit}
use lib.Utf8.{scalar}
use Rattle.js_scan.specs.Bytes.{hex_value}
use Rattle.js_scan.specs.Escapes.{Piece, escape}

-- what a front of a Text stands for, how many bytes it has, and whether it is surely meant so
pub record Part : Type 0 where
  pub letters : List ℕ
  pub len : ℕ
  pub sure : Bool

abbrev pub sure_part : List ℕ → ℕ → Part
sure_part letters len = record { letters = letters; len = len; sure = true }

abbrev pub is_octal : ℕ → Bool
is_octal b = is_in_range 48 55 b

-- the digit at the front, below 8
unfoldable pub octal_digit : List ℕ → Option ℕ
octal_digit [] = None
octal_digit (b ∷ bs) = if is_octal b then Some (b - 48) else None

-- the number that digits below 8 write, and with a backslash their length: three digits only where the number is below 256
abbrev pub third_digit : ℕ → Option ℕ → ℕ × ℕ
third_digit value None = (value, 3)
third_digit value (Some digit) = if nat_lt value 32 then (8 * value + digit, 4) else (value, 3)

abbrev pub second_digit : ℕ → Option ℕ → List ℕ → ℕ × ℕ
second_digit first None bs = (first, 2)
second_digit first (Some digit) bs = third_digit (8 * first + digit) (octal_digit (drop 1 bs))

-- the same behind the first digit
unfoldable pub octal : ℕ → List ℕ → ℕ × ℕ
octal first bs = second_digit first (octal_digit bs) bs

-- The number that hex digits write up to a `}`, and what is behind that. What is past the last character is as good as the number behind it.
abbrev pub capped : ℕ → ℕ
capped code = if nat_le 0x110000 code then 0x110000 else code

unfoldable pub braced : ℕ → List ℕ → Option (ℕ × List ℕ)
braced code [] = None
braced code (b ∷ bs) =
    if b == byte "}" then Some (code, bs)
    else if is_ascii_hexdigit b then braced (capped (16 * code + hex_value b)) bs
    else None

-- An escape that stands for no character is passed over up to its letter, and it isn't sure what is meant.
abbrev pub unsure : ℕ → Part
unsure len = record { letters = []; len = len; sure = false }

-- `\u{..}`, of which the bytes behind the brace are given
abbrev pub braced_part : List ℕ → Option (ℕ × List ℕ) → Part
braced_part bs None = unsure 2
braced_part bs (Some (code, rest)) = if scalar code then sure_part (encode_utf8 code) (3 + length bs - length rest) else unsure 2

abbrev pub octal_part : ℕ × ℕ → Part
octal_part (code, len) = sure_part (encode_utf8 code) len

abbrev pub other_part : Option Piece → Part
other_part None = unsure 1
other_part (Some (letters, len)) = sure_part letters len

-- the end of a line behind its CR
abbrev pub line_part : List ℕ → Part
line_part bs = sure_part [] (if starts_with nat_eq bs (10 ∷ []) then 3 else 2)

-- A backslash and what is behind it. Before the end of a line, which may be a CR with an LF, it is nothing.
unfoldable pub wide_escape : List ℕ → Part
wide_escape [] = unsure 1
wide_escape (c ∷ bs) =
    if c == 13 then line_part bs
    else if c == byte "u" && starts_with nat_eq bs (codes "{") then braced_part (drop 1 bs) (braced 0 (drop 1 bs))
    else if is_octal c then octal_part (octal (c - 48) bs)
    else if c == byte "8" || c == byte "9" then sure_part (c ∷ []) 2
    else other_part (escape (c ∷ bs))

-- Escapes in a string literal.
use Rattle.std.specs.Prelude.{ℕ, ◌+◌, ◌*◌, ◌&&◌, ◌==◌, Bool, nat_eq, nat_lt, if◌then◌else◌, List, [], ◌∷◌, drop, Option, Some, None, option_and_then, encode_utf8, codes}
use Rattle.std.specs.Int.{is_in_range}
use Rattle.std.specs.Option.{option_map}
use Rattle.std.specs.List.{starts_with}
use Rattle.std.specs.Str.{byte}
use Rattle.std.specs.Char.{is_ascii_digit, is_ascii_hexdigit}
use Rattle.js_scan.specs.Bytes.{hex_value}

-- the bytes that a front of a Text stands for, and how many bytes the front has
abbrev pub Piece : Type 0
Piece = List ℕ × ℕ

-- the number that two hex digits at the front write
unfoldable pub hex_pair : List ℕ → Option ℕ
hex_pair (h ∷ l ∷ bs) = if is_ascii_hexdigit h && is_ascii_hexdigit l then Some (16 * hex_value h + hex_value l) else None
hex_pair bs = None

-- the number that four hex digits at the front write
unfoldable pub hex_quad : List ℕ → Option ℕ
hex_quad bs = option_and_then (λ high. option_map (λ low. 256 * high + low) (hex_pair (drop 2 bs))) (hex_pair bs)

-- `\x` with the character of this number, or without digits an x
abbrev pub byte_piece : Option ℕ → Piece
byte_piece (Some code) = (encode_utf8 code, 4)
byte_piece None = (codes "x", 2)

-- half of the number of a character past 16 bits, which is no character by itself
abbrev pub is_surrogate : ℕ → Bool
is_surrogate code = is_in_range 0xD800 0xDFFF code

-- `\u` with the character of this number, or without digits a u
abbrev pub unit_piece : Option ℕ → Option Piece
unit_piece (Some code) = if is_surrogate code then None else Some (encode_utf8 code, 6)
unit_piece None = Some (codes "u", 2)

-- A backslash and what is behind it: n, t, r, b, f, v are control bytes, an LF is nothing, a digit and `u{` are
-- faults. Any other character stands for itself: one past ASCII is read next, as if the backslash were nothing.
unfoldable pub escape : List ℕ → Option Piece
escape [] = None
escape (c ∷ bs) =
    if c == byte "n" then Some (10 ∷ [], 2)
    else (if c == byte "t" then Some (9 ∷ [], 2)
    else (if c == byte "r" then Some (13 ∷ [], 2)
    else (if c == byte "b" then Some (8 ∷ [], 2)
    else (if c == byte "f" then Some (12 ∷ [], 2)
    else (if c == byte "v" then Some (11 ∷ [], 2)
    else (if c == 10 then Some ([], 2)
    else (if c == byte "x" then Some (byte_piece (hex_pair bs))
    else (if c == byte "u" then (if starts_with nat_eq bs (codes "{") then None else unit_piece (hex_quad bs))
    else (if is_ascii_digit c then None
    else (if nat_lt c 128 then Some (c ∷ [], 2)
    else Some ([], 1)))))))))))

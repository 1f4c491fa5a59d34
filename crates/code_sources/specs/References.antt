-- Character references in a value, as HTML's standard reads them.
--     reference     what stands behind a `&`
--     read_value    what a value says
use Rattle.std.specs.Prelude.{ℕ, zero, suc, ◌+◌, ◌*◌, ◌-◌, ◌&&◌, ◌==◌, not, nat_eq, nat_le, nat_lt, Bool, true, false, if◌then◌else◌, List, [], ◌∷◌, ◌++◌, length, drop, get_or, Option, Some, None, encode_utf8, codes}
use Rattle.std.specs.Char.{digit_value, is_ascii_alphabetic}
use Rattle.std.specs.Int.{is_in_range}
use Rattle.std.specs.List.{starts_with}
use Rattle.std.specs.Str.{byte}
use lib.Utf8.{scalar}

-- ---- numbers

-- a number past the last character's is as good as the next one
abbrev pub capped : ℕ → ℕ
capped code = if nat_le 0x110000 code then 0x110000 else code

-- the number that digits of a base write behind those that were read, and the bytes behind them
unfoldable pub number : ℕ → ℕ → List ℕ → ℕ × List ℕ
number base code [] = (code, [])
number base code (b ∷ bs) =
    if nat_lt (digit_value b) base then number base (capped (base * code + digit_value b)) bs
    else (code, b ∷ bs)

-- what the numbers from 80 to 9F mean, in hexadecimal: the characters that windows-1252 has there
abbrev pub windows_1252 : List ℕ
windows_1252 =
    0x20AC ∷ 0x81 ∷ 0x201A ∷ 0x0192 ∷ 0x201E ∷ 0x2026 ∷ 0x2020 ∷ 0x2021 ∷ 0x02C6 ∷ 0x2030 ∷ 0x0160 ∷ 0x2039 ∷ 0x0152 ∷ 0x8D ∷ 0x017D ∷ 0x8F
    ∷ 0x90 ∷ 0x2018 ∷ 0x2019 ∷ 0x201C ∷ 0x201D ∷ 0x2022 ∷ 0x2013 ∷ 0x2014 ∷ 0x02DC ∷ 0x2122 ∷ 0x0161 ∷ 0x203A ∷ 0x0153 ∷ 0x9D ∷ 0x017E ∷ 0x0178
    ∷ []

-- the character of a number; that of none is U+FFFD, and so is that of zero
unfoldable pub character : ℕ → ℕ
character code =
    if code == 0 then 0xFFFD
    else if is_in_range 0x80 0x9F code then get_or windows_1252 (code - 0x80) 0
    else if scalar code then code
    else 0xFFFD

-- ---- references

-- a character, and the bytes behind its reference
abbrev pub Reference : Type 0
Reference = Option (ℕ × List ℕ)

-- a number's reference may end without its semicolon
abbrev pub past_semicolon : List ℕ → List ℕ
past_semicolon bs = if starts_with nat_eq bs (codes ";") then drop 1 bs else bs

-- one digit or more
unfoldable pub numeric : ℕ → List ℕ → Reference
numeric base bs =
    let n = number base 0 bs in
    if length n.1 == length bs then None else Some (character n.0, past_semicolon n.1)

-- behind `&#`
abbrev pub of_number : List ℕ → Reference
of_number bs =
    if starts_with nat_eq bs (codes "x") then numeric 16 (drop 1 bs)
    else if starts_with nat_eq bs (codes "X") then numeric 16 (drop 1 bs)
    else numeric 10 bs

-- The names that are known, each with its semicolon, and their characters. The last three may stand before and in `javascript:`.
abbrev pub known_names : List (List ℕ × ℕ)
known_names =
    (codes "quot;", byte "\"")
    ∷ (codes "apos;", byte "'")
    ∷ (codes "lt;", byte "<")
    ∷ (codes "gt;", byte ">")
    ∷ (codes "amp;", byte "&")
    ∷ (codes "Tab;", 9)
    ∷ (codes "NewLine;", 10)
    ∷ (codes "colon;", byte ":")
    ∷ []

abbrev pub of_name : List (List ℕ × ℕ) → List ℕ → Reference
of_name [] bs = None
of_name (n ∷ ns) bs = if starts_with nat_eq bs n.0 then Some (n.1, drop (length n.0) bs) else of_name ns bs

-- behind `&`
unfoldable pub reference : List ℕ → Reference
reference bs = if starts_with nat_eq bs (codes "#") then of_number (drop 1 bs) else of_name known_names bs

-- ---- values

abbrev pub begins_letter : List ℕ → Bool
begins_letter [] = false
begins_letter (b ∷ bs) = is_ascii_alphabetic b

-- what a front of a value stands for, the bytes behind it, and whether that is sure
pub record Part : Type 0 where
  pub letters : List ℕ
  pub rest : List ℕ
  pub sure : Bool

abbrev pub itself : ℕ → List ℕ → Bool → Part
itself b bs sure = record { letters = b ∷ []; rest = bs; sure = sure }

-- A `&` that begins no reference stands for itself. So does one before a letter, but a name that isn't known here may stand there.
abbrev pub referred : List ℕ → Reference → Part
referred bs (Some r) = record { letters = encode_utf8 r.0; rest = r.1; sure = true }
referred bs None = itself (byte "&") bs (not (begins_letter bs))

unfoldable pub part : ℕ → List ℕ → Part
part b bs = if b == byte "&" then referred bs (reference bs) else itself b bs true

-- what a value says, and whether that is sure
pub record Said : Type 0 where
  pub text : List ℕ
  pub sure : Bool

abbrev pub with_part : List ℕ → Bool → Said → Said
with_part letters sure said = record { text = letters ++ said.text; sure = sure && said.sure }

-- `skip` bytes are left of the part that was read last
unfoldable pub said_from : ℕ → List ℕ → Said
said_from skip [] = record { text = []; sure = true }
said_from (suc skip) (b ∷ bs) = said_from skip bs
said_from zero (b ∷ bs) = let p = part b bs in with_part p.letters p.sure (said_from (length bs - length p.rest) bs)

abbrev pub read_value : List ℕ → Said
read_value value = said_from 0 value

-- Classes of bytes.
use Rattle.std.specs.Prelude.{ℕ, Bool, not, ◌-◌, ◌||◌, ◌==◌, nat_le, if◌then◌else◌}
use Rattle.std.specs.Str.{byte}
use Rattle.std.specs.Char.{is_ascii_digit, is_ascii_alphabetic}

-- a letter, `_`, `$`
abbrev pub begins_name : ℕ → Bool
begins_name b = is_ascii_alphabetic b || b == byte "_" || b == byte "$"

abbrev pub is_in_name : ℕ → Bool
is_in_name b = begins_name b || is_ascii_digit b

-- a digit, a letter, `.`, `_`
abbrev pub is_in_number : ℕ → Bool
is_in_number b = is_ascii_digit b || is_ascii_alphabetic b || b == byte "." || b == byte "_"

-- `"`, `'`, a backquote
abbrev pub is_quote : ℕ → Bool
is_quote b = b == byte "\"" || b == byte "'" || b == byte "`"

-- in no Text anything but itself: no quote, no backslash, no LF, no `$`
abbrev pub is_plain : ℕ → Bool
is_plain b = not (is_quote b || b == byte "\\" || b == 10 || b == byte "$")

-- what a hex digit stands for
abbrev pub hex_value : ℕ → ℕ
hex_value b = if is_ascii_digit b then b - 48 else (if nat_le 97 b then b - 87 else b - 55)

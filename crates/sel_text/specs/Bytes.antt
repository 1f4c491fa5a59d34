-- The bytes of a selector's text: white space, comments and names.
use Rattle.std.specs.Prelude.{ℕ, zero, suc, ◌-◌, ◌==◌, ◌&&◌, ◌||◌, nat_eq, nat_lt, Bool, false, if◌then◌else◌, List, [], ◌∷◌, length, drop, codes}
use Rattle.std.specs.List.{starts_with, prefix_len}
use Rattle.std.specs.Char.{is_ascii_alphabetic, is_ascii_digit}
use Rattle.text_bytes.specs.Blanks.{is_blank}
use Rattle.text_bytes.specs.Marks.{behind_mark}

abbrev pub starts_name : ℕ → Bool
starts_name b = is_ascii_alphabetic b || b == 95 || nat_lt 127 b

abbrev pub in_name : ℕ → Bool
in_name b = starts_name b || is_ascii_digit b || b == 45

abbrev pub begins_with : ℕ → List ℕ → Bool
begins_with b [] = false
begins_with b (c ∷ bs) = c == b

-- whether the text begins with a name
unfoldable pub begins_name : List ℕ → Bool
begins_name [] = false
begins_name (b ∷ []) = starts_name b
begins_name (b ∷ c ∷ bs) = starts_name b || b == 45 && (starts_name c || c == 45)

-- the length of the name that the text begins with; 0 where it begins with none
unfoldable pub name_len : List ℕ → ℕ
name_len bs = if begins_name bs then prefix_len in_name bs else 0

-- behind the first `*/`, or the end
abbrev pub behind_close : List ℕ → List ℕ
behind_close bs = behind_mark (codes "*/") bs

-- whether a byte is passed over, where white space is
abbrev pub is_passed : Bool → ℕ → Bool
is_passed blanks b = blanks && is_blank b

-- Behind comments, and behind white space too where `blanks` says so. `skip` bytes are left of a comment.
unfoldable pub behind_gap : Bool → ℕ → List ℕ → List ℕ
behind_gap blanks skip [] = []
behind_gap blanks (suc skip) (b ∷ bs) = behind_gap blanks skip bs
behind_gap blanks zero (b ∷ bs) =
    if is_passed blanks b then behind_gap blanks zero bs
    else (if starts_with nat_eq (b ∷ bs) (codes "/*") then behind_gap blanks (length bs - length (behind_close (drop 1 bs))) bs else b ∷ bs)

-- Units (strings, comments, single bytes), brackets, and the search outside them.
--     behind_unit    the text behind its first unit: a string, a comment or a byte
--     from_first     the text from the first of some bytes on that stands outside brackets, strings and comments
use Rattle.std.specs.Prelude.{ℕ, zero, suc, ◌-◌, ◌==◌, ◌&&◌, ◌||◌, Bool, true, false, if◌then◌else◌, nat_eq, nat_lt, List, [], ◌∷◌, length, drop, Option, Some, None, codes}
use Rattle.std.specs.List.{starts_with, list_any}
use denote.Enum.Bare.{sameb}
use Rattle.text_bytes.specs.Blanks.{is_blank}
use Rattle.sel_text.specs.Bytes.{behind_close}
use Rattle.css_read.specs.contracts.brackets.Bracket.{the_type}
use Rattle.css_read.specs.declared.brackets.Bracket.{Bracket}
use Rattle.css_read.specs.declared.brackets.Bracket.TheVariants.{Round, Square, Curly}

-- ---- strings and comments

abbrev pub is_quote : ℕ → Bool
is_quote b = b == 34 || b == 39

-- The text behind a string, from the text behind its opening quote. The byte behind a backslash ends nothing. An LF without a backslash ends the
-- string, and the text begins with this LF.
unfoldable pub behind_string : ℕ → Bool → List ℕ → List ℕ
behind_string quote escaped [] = []
behind_string quote true (b ∷ bs) = behind_string quote false bs
behind_string quote false (b ∷ bs) = if b == quote then bs else (if b == 10 then b ∷ bs else behind_string quote (b == 92) bs)

abbrev pub begins_comment : List ℕ → Bool
begins_comment bs = starts_with nat_eq bs (codes "/*")

unfoldable pub behind_unit : List ℕ → List ℕ
behind_unit [] = []
behind_unit (b ∷ bs) =
    if is_quote b then behind_string b false bs else (if begins_comment (b ∷ bs) then behind_close (drop 1 bs) else bs)

-- Ordinary bytes: no bracket, no quote and no `;`, and none begins a comment. They are `0` to `:`, `<` to `Z`, `^` to `z`, the full stop and the
-- space.
abbrev pub is_plain : ℕ → Bool
is_plain b = nat_lt 47 b && nat_lt b 59 || nat_lt 59 b && nat_lt b 91 || nat_lt 93 b && nat_lt b 123 || b == 46 || b == 32

-- whether the text begins with white space or a comment
abbrev pub begins_gap : List ℕ → Bool
begins_gap [] = false
begins_gap (b ∷ bs) = is_blank b || begins_comment (b ∷ bs)

-- ---- brackets

abbrev pub opened : ℕ → Option Bracket
opened b = if b == 40 then Some Round else (if b == 91 then Some Square else (if b == 123 then Some Curly else None))

abbrev pub closed : ℕ → Option Bracket
closed b = if b == 41 then Some Round else (if b == 93 then Some Square else (if b == 125 then Some Curly else None))

abbrev pub is : Bracket → Bracket → Bool
is = sameb the_type

-- The open brackets, the innermost first. A closing bracket counts if it is of the innermost open one's kind.
abbrev pub after_closed : Option Bracket → List Bracket → List Bracket
after_closed None brackets = brackets
after_closed (Some k) [] = []
after_closed (Some k) (o ∷ os) = if is o k then os else o ∷ os

abbrev pub after_opened : Option Bracket → List Bracket → List Bracket
after_opened None brackets = brackets
after_opened (Some k) brackets = k ∷ brackets

unfoldable pub after_byte : ℕ → List Bracket → List Bracket
after_byte b brackets = after_closed (closed b) (after_opened (opened b) brackets)

-- ---- outside them

abbrev pub is_one : List ℕ → ℕ → Bool
is_one bytes b = list_any (λ y. nat_eq y b) bytes

abbrev pub stops_at : List ℕ → ℕ → List Bracket → Bool
stops_at bytes b brackets = is_one bytes b && (length brackets == 0)

-- the search with these brackets open, where `skip` bytes are left of a unit
unfoldable pub from_first_in : List ℕ → List Bracket → ℕ → List ℕ → List ℕ
from_first_in bytes brackets skip [] = []
from_first_in bytes brackets (suc skip) (b ∷ bs) = from_first_in bytes brackets skip bs
from_first_in bytes brackets zero (b ∷ bs) =
    if stops_at bytes b brackets then b ∷ bs
    else from_first_in bytes (after_byte b brackets) (length bs - length (behind_unit (b ∷ bs))) bs

abbrev pub from_first : List ℕ → List ℕ → List ℕ
from_first bytes bs = from_first_in bytes [] 0 bs

-- The output, line by line.
--     assumption_line    what is assumed
--     statement_line     what is given
use Rattle.std.specs.Prelude.{ℕ, ◌==◌, ◌||◌, nat_lt, Bool, if◌then◌else◌, List, [], ◌++◌, map, length, codes}
use Rattle.std.specs.Fmt.{decimal}
use Rattle.std.specs.List.{prefix_len}
use Rattle.std.specs.Str.{byte}
use Rattle.tp_base.specs.declared.places.Place.{Place}
use Rattle.premise_finds.specs.Details.{in_line, shown_of}
use Rattle.lower_app.specs.declared.given.Kind.{Kind}
use Rattle.lower_app.specs.declared.given.Kind.TheVariants as kind

-- ---- where something comes from

-- a control byte can't be shown
abbrev pub shown_byte : ℕ → ℕ
shown_byte b = if nat_lt b 32 || b == 127 then byte "?" else b

-- `FILE L:C`
unfoldable pub origin_text : List ℕ → Place → List ℕ
origin_text word place = map shown_byte word ++ codes " " ++ decimal place.line ++ codes ":" ++ decimal place.column

-- ---- assumptions

abbrev pub kind_word : Kind → List ℕ
kind_word kind.Source = codes "source"
kind_word kind.Call = codes "call"
kind_word kind.Computed = codes "computed"
kind_word kind.Code = codes "code"
kind_word kind.Markup = codes "markup"
kind_word kind.Moved = codes "moved"
kind_word kind.Hole = codes "hole"
kind_word kind.Id = codes "id"
kind_word kind.Unread = codes "unread"

-- what is shown of the bytes from a place on, and `..` where their line goes on
unfoldable pub detail : List ℕ → List ℕ
detail rest = shown_of rest ++ (if length (shown_of rest) == prefix_len in_line rest then [] else codes "..")

-- of a file with this word, at a place where these bytes begin
unfoldable pub assumption_line : List ℕ → Place → List ℕ → Kind → List ℕ
assumption_line word place rest kind = codes "// " ++ origin_text word place ++ codes " " ++ kind_word kind ++ codes ": " ++ detail rest ++ codes "\n"

-- ---- statements

abbrev pub name_note : Bool → List ℕ
name_note any = if any then codes " any name" else []

-- of a file with this word, from a place in it
unfoldable pub statement_line : List ℕ → Place → List ℕ → Bool → List ℕ
statement_line word place call any = codes "$('*')." ++ call ++ codes "; // " ++ origin_text word place ++ name_note any ++ codes "\n"

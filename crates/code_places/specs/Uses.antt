-- What is done with a name or a member, by what stands behind it.
use Rattle.std.specs.Prelude.{ℕ, ◌+◌, ◌&&◌, ◌||◌, Bool, false, if◌then◌else◌, List, [], ◌∷◌, get_or, Option, Some, None, codes}
use Rattle.code_scan.specs.declared.token.Token.{Token}
use Rattle.code_tokens.specs.declared.code.Code.{Code}
use Rattle.code_tokens.specs.Members.{is_text}
use Rattle.code_places.specs.declared.brackets.Brackets.{Brackets}
use Rattle.code_places.specs.declared.place.Use.{Use}
use Rattle.code_places.specs.declared.place.Use.TheVariants.{Called, Tagged, Written, Read}
use Rattle.code_places.specs.declared.place.Write.{Write}
use Rattle.code_places.specs.declared.place.Write.TheVariants.{Made}
use Rattle.code_places.specs.Patterns.{in_pattern, loop_names, part_ends}
use Rattle.code_places.specs.Words.{tokens_at, begins, begins_mark, begins_name}
use Rattle.code_places.specs.Writes.{write_of}

unfoldable pub begins_text : List Token → Bool
begins_text [] = false
begins_text (t ∷ ts) = is_text t.kind

-- whether a pattern or a loop hands a value to what stands before these tokens
unfoldable pub takes : List ℕ → Bool → List Token → Bool
takes text pattern ts = pattern && begins_mark text part_ends ts || begins_name text loop_names ts

-- In a pattern a value behind `=` is one of two. A `++` may stand before, too.
abbrev pub use_written : List ℕ → Bool → Bool → List Token → Option Write → Use
use_written text pattern stepped ts (Some write) = Written (if pattern then Made else write)
use_written text pattern stepped ts None = if stepped || takes text pattern ts then Written Made else Read

-- by the tokens behind, and by whether it stands in a pattern, or behind a `++`
unfoldable pub use_of : List ℕ → Bool → Bool → List Token → Use
use_of text pattern stepped ts =
    if begins text (codes "(") ts then Called
    else if begins_text ts then Tagged
    else use_written text pattern stepped ts (write_of text ts)

-- what is done with what begins with one token and ends with another
abbrev pub use_at : List ℕ → Code → Brackets → ℕ → ℕ → Use
use_at text code b from to = use_of text (in_pattern b from) (get_or b.stepped from false) (tokens_at code (to + 1))

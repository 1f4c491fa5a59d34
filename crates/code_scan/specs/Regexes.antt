-- Regular expressions.
use Rattle.std.specs.Prelude.{ℕ, ◌&&◌, ◌==◌, not, Bool, true, false, if◌then◌else◌, List, [], ◌∷◌, Option, Some, None}
use Rattle.std.specs.Str.{byte}
use Rattle.code_scan.specs.Lines.{begins_break}

-- whether what follows stands between `[` and `]`
abbrev pub class_behind : Bool → ℕ → Bool
class_behind in_class b = if b == byte "[" then true else if b == byte "]" then false else in_class

-- The bytes behind the `/` that ends a regular expression: one that is neither between `[` and `]` nor behind a backslash. It has to stand
-- on the same line.
unfoldable pub behind_regex : Bool → Bool → List ℕ → Option (List ℕ)
behind_regex in_class escaped [] = None
behind_regex in_class escaped (b ∷ bs) =
    if begins_break (b ∷ bs) then None
    else if escaped then behind_regex in_class false bs
    else if b == byte "/" && not in_class then Some bs
    else behind_regex (class_behind in_class b) (b == byte "\\") bs

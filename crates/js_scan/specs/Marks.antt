-- Marks, which are the punctuators of a script.
use Rattle.std.specs.Prelude.{ℕ, List, [], ◌∷◌, length, Option, Some, None, if◌then◌else◌, nat_eq, codes}
use Rattle.std.specs.List.{starts_with}

-- longest first
abbrev pub marks : List (List ℕ)
marks =
    codes "===" ∷ codes "!=="
    ∷ codes "==" ∷ codes "!=" ∷ codes "<=" ∷ codes ">=" ∷ codes "&&" ∷ codes "||" ∷ codes "++" ∷ codes "--"
    ∷ codes "+=" ∷ codes "-=" ∷ codes "=>"
    ∷ codes "{" ∷ codes "}" ∷ codes "(" ∷ codes ")" ∷ codes "[" ∷ codes "]" ∷ codes ";" ∷ codes "," ∷ codes "."
    ∷ codes "<" ∷ codes ">" ∷ codes "+" ∷ codes "-" ∷ codes "*" ∷ codes "/" ∷ codes "%" ∷ codes "!" ∷ codes "?"
    ∷ codes ":" ∷ codes "=" ∷ codes "&" ∷ codes "|" ∷ []

-- the length of the first of these that the bytes begin with
abbrev pub first_len : List (List ℕ) → List ℕ → Option ℕ
first_len [] bs = None
first_len (m ∷ ms) bs = if starts_with nat_eq bs m then Some (length m) else first_len ms bs

unfoldable pub mark_len : List ℕ → Option ℕ
mark_len = first_len marks

-- In which bracket each token stands.
use Rattle.std.specs.Prelude.{ℕ, nat_lt, if◌then◌else◌, List, [], ◌∷◌, ◌++◌, length, get_or, Option, Some, None}
use Rattle.code_tokens.specs.declared.code.Code.{Code}

-- The bracket that the next token stands in, and the one that is innermost behind it: `inner` is that before it, and what the tokens before it
-- stand in is known. A bracket by itself opens nothing.
abbrev pub bracket_of : List (Option ℕ) → Option ℕ → Option ℕ → Option ℕ
bracket_of known inner None = inner
bracket_of known inner (Some other) = if nat_lt other (length known) then get_or known other None else inner

abbrev pub bracket_behind : List (Option ℕ) → Option ℕ → Option ℕ → Option ℕ
bracket_behind known inner None = inner
bracket_behind known inner (Some other) = if nat_lt other (length known) then get_or known other None else Some (length known)

unfoldable pub enclosing_from : List (Option ℕ) → Option ℕ → List (Option ℕ) → List (Option ℕ)
enclosing_from known inner [] = known
enclosing_from known inner (o ∷ os) = enclosing_from (known ++ bracket_of known inner o ∷ []) (bracket_behind known inner o) os

-- For each token the number of the bracket that it stands in, if it stands in one. Both ends of a bracket stand in the one around them.
abbrev pub enclosing : Code → List (Option ℕ)
enclosing code = enclosing_from [] None code.others

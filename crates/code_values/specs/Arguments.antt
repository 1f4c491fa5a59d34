-- Arguments of calls.
use Rattle.std.specs.Prelude.{ℕ, ◌+◌, nat_lt, Bool, if◌then◌else◌, List, length, get_or, Option, Some, None, codes}
use Rattle.code_tokens.specs.declared.code.Code.{Code}
use Rattle.code_values.specs.declared.spans.Span.{Span}
use Rattle.code_values.specs.Outer.{span, begins, from_at, parts}

-- where what a bracket opens ends: at the other bracket, or where there is none with the tokens
abbrev pub end_or : ℕ → Option ℕ → ℕ
end_or size None = size
end_or size (Some other) = other

-- the place behind that of a number, no further than the end
abbrev pub place_behind : ℕ → ℕ → ℕ
place_behind size at = if nat_lt at size then at + 1 else size

-- the tokens in a bracket
abbrev pub inside : Code → ℕ → Span
inside code at = span (place_behind (length code.tokens) at) (end_or (length code.tokens) (get_or code.others at None))

-- the arguments of the bracket of a number, without empty ones
abbrev pub arguments : List ℕ → Code → ℕ → List Span
arguments text code at = parts text code (inside code at)

-- whether `...` stands in front of an argument, or of another range
abbrev pub is_spread : List ℕ → Code → Span → Bool
is_spread text code s = begins text (codes "...") (from_at code s.from)

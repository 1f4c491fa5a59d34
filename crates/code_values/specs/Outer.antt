-- What stands outside of inner brackets, and what stands at a place.
use Rattle.std.specs.Prelude.{ℕ, zero, suc, ◌+◌, ◌-◌, nat_lt, Bool, false, if◌then◌else◌, List, [], ◌∷◌, ◌++◌, length, take, drop, Option, Some, None, codes}
use Rattle.code_scan.specs.declared.token.Token.{Token}
use Rattle.code_scan.specs.Spellings.{is_written}
use Rattle.code_tokens.specs.declared.code.Code.{Code}
use Rattle.code_values.specs.declared.spans.Span.{Span}

-- how many tokens stand behind a token up to the other bracket, with that
abbrev pub inner_count : ℕ → Option ℕ → ℕ
inner_count at None = 0
inner_count at (Some other) = other - at

-- The numbers of those of the last tokens of so many that stand outside of brackets that begin among them; a bracket stands for all up to the
-- other one. The first `skip` tokens are within such a bracket.
unfoldable pub outer_from : ℕ → ℕ → List (Option ℕ) → List ℕ
outer_from size skip [] = []
outer_from size (suc skip) (o ∷ os) = outer_from size skip os
outer_from size zero (o ∷ os) = let at = size - length (o ∷ os) in at ∷ outer_from size (inner_count at o) os

-- the numbers of the tokens of a range that stand outside of its inner brackets
abbrev pub outer : Code → Span → List ℕ
outer code s = let front = take s.to code.others in outer_from (length front) 0 (drop s.from front)

abbrev pub span : ℕ → ℕ → Span
span from to = record { from = from; to = to }

-- the tokens of a number on
abbrev pub from_at : Code → ℕ → List Token
from_at code at = drop at code.tokens

-- the tokens of a range
abbrev pub tokens_in : Code → Span → List Token
tokens_in code s = drop s.from (take s.to code.tokens)

-- whether tokens begin with a mark
unfoldable pub begins : List ℕ → List ℕ → List Token → Bool
begins text mark [] = false
begins text mark (t ∷ ts) = is_written text mark t

abbrev pub is_comma : List ℕ → Code → ℕ → Bool
is_comma text code at = begins text (codes ",") (from_at code at)

-- a part of a list, where it isn't empty
unfoldable pub part : ℕ → ℕ → List Span
part from to = if nat_lt from to then span from to ∷ [] else []

-- The parts of a range between the commas among these tokens. The first part begins at `from`, and the range ends at `to`.
unfoldable pub parts_from : List ℕ → Code → ℕ → ℕ → List ℕ → List Span
parts_from text code to from [] = part from to
parts_from text code to from (at ∷ ats) =
    if is_comma text code at then part from at ++ parts_from text code to (at + 1) ats else parts_from text code to from ats

-- the parts of a range, split at the commas outside of inner brackets, without empty ones
abbrev pub parts : List ℕ → Code → Span → List Span
parts text code s = parts_from text code s.to s.from (outer code s)

-- tokens with the one before them, if there is one
abbrev pub with_head : Option ℕ → List ℕ → List ℕ
with_head None ats = ats
with_head (Some at) ats = at ∷ ats

-- Patterns, as in `[e.className] = list`: brackets that may hand values to what stands in them.
use Rattle.std.specs.Prelude.{ℕ, ◌+◌, ◌-◌, ◌==◌, ◌&&◌, ◌||◌, not, Bool, true, false, List, [], ◌∷◌, ◌++◌, length, get_or, Option, Some, None, is_some, codes}
use Rattle.text_bytes.specs.Attributes.{is_among}
use Rattle.code_scan.specs.declared.state.Before.{Before}
use Rattle.code_scan.specs.declared.state.Before.TheVariants.{Value}
use Rattle.code_scan.specs.declared.token.Token.{Token}
use Rattle.code_scan.specs.declared.token.TokenKind.{TokenKind}
use Rattle.code_scan.specs.declared.token.TokenKind.TheVariants.{Name, Text, Member, Mark}
use Rattle.code_scan.specs.Spellings.{spelling}
use Rattle.code_scan.specs.States.{behind_word}
use Rattle.code_tokens.specs.declared.code.Code.{Code}
use Rattle.code_places.specs.declared.brackets.Brackets.{Brackets}
use Rattle.code_places.specs.Enclosing.{enclosing}
use Rattle.code_places.specs.Words.{tokens_at, begins, begins_mark, begins_name, begins_dot}
use Rattle.code_places.specs.Writes.{write_of}

-- ---- what a bracket is behind

abbrev pub is_value : Before → Bool
is_value Value = true
is_value before = false

-- behind these marks a `[` asks for a member, or begins a list
abbrev pub value_ends : List (List ℕ)
value_ends = codes ")" ∷ codes "]" ∷ codes "}" ∷ []

-- of a token, and whether it is behind a dot
abbrev pub ends_value : Bool → TokenKind → List ℕ → Bool
ends_value dotted Name spelling = dotted || is_value (behind_word spelling)
ends_value dotted (Text letters) spelling = true
ends_value dotted (Member name) spelling = true
ends_value dotted Mark spelling = is_among value_ends spelling
ends_value dotted kind spelling = false

unfoldable pub begins_value_end : List ℕ → Bool → List Token → Bool
begins_value_end text dotted [] = false
begins_value_end text dotted (t ∷ ts) = ends_value dotted t.kind (spelling text t)

-- whether a value may end before the token of a number
abbrev pub is_behind_value : List ℕ → Code → ℕ → Bool
is_behind_value text code at = not (at == 0) && begins_value_end text (begins_dot text (tokens_at code (at - 2))) (tokens_at code (at - 1))

-- whether the token of a number is a `[` that may ask for a member
unfoldable pub is_index : List ℕ → Code → ℕ → Bool
is_index text code at = begins text (codes "[") (tokens_at code at) && is_behind_value text code at

-- ---- lists

-- behind these marks a `[` may begin a statement
abbrev pub statement_ends : List (List ℕ)
statement_ends = codes ")" ∷ codes "}" ∷ []

-- whether the token of a number is a `[` that may begin a list
unfoldable pub is_list : List ℕ → Code → ℕ → Bool
is_list text code at =
    begins text (codes "[") (tokens_at code at) && (not (is_behind_value text code at) || begins_mark text statement_ends (tokens_at code (at - 1)))

-- ---- patterns

-- what `for` takes one by one is behind these
abbrev pub loop_names : List (List ℕ)
loop_names = codes "of" ∷ codes "in" ∷ []

-- behind a part of a pattern
abbrev pub part_ends : List (List ℕ)
part_ends = codes "," ∷ codes "]" ∷ codes "}" ∷ codes ")" ∷ []

-- whether the token of a number opens what may be a pattern; brackets may stand round a member, too
abbrev pub may_hand : List ℕ → Code → ℕ → Bool
may_hand text code at = begins text (codes "{") (tokens_at code at) || begins text (codes "(") (tokens_at code at) || is_list text code at

-- whether tokens hand values to the bracket of a number, which ends before them
unfoldable pub hands : List ℕ → Code → ℕ → List Token → Bool
hands text code at ts =
    begins text (codes "=") ts || begins_name text loop_names ts || begins text (codes "(") (tokens_at code at) && is_some (write_of text ts)

-- or the pattern around it does
abbrev pub is_handed : List ℕ → Code → ℕ → Bool → Option ℕ → Bool
is_handed text code at inner None = false
is_handed text code at inner (Some other) =
    hands text code at (tokens_at code (other + 1)) || inner && begins_mark text part_ends (tokens_at code (other + 1))

-- whether the bracket of a number, or none, is a pattern, where it is known of those before
abbrev pub known_pattern : List Bool → Option ℕ → Bool
known_pattern known None = false
known_pattern known (Some bracket) = get_or known bracket false

-- whether the token of a number begins a pattern, where it is known of those before
unfoldable pub begins_pattern : List ℕ → Code → List (Option ℕ) → List Bool → ℕ → Bool
begins_pattern text code enclosed known at =
    may_hand text code at && is_handed text code at (known_pattern known (get_or enclosed at None)) (get_or code.others at None)

unfoldable pub patterns_from : List ℕ → Code → List (Option ℕ) → List Bool → List Token → List Bool
patterns_from text code enclosed known [] = known
patterns_from text code enclosed known (t ∷ ts) =
    patterns_from text code enclosed (known ++ begins_pattern text code enclosed known (length known) ∷ []) ts

-- for each token whether it begins a pattern
abbrev pub patterns : List ℕ → Code → List Bool
patterns text code = patterns_from text code (enclosing code) [] code.tokens

-- whether the token of a number stands in a pattern
abbrev pub in_pattern : Brackets → ℕ → Bool
in_pattern b at = known_pattern b.patterns (get_or b.enclosing at None)

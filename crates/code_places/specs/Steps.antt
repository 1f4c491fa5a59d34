-- Members behind `++` and `--`, as in `++e.colSpan`.
use Rattle.std.specs.Prelude.{ℕ, ◌-◌, ◌&&◌, ◌||◌, nat_lt, Bool, true, false, if◌then◌else◌, List, [], ◌∷◌, ◌++◌, length, get_or, Option, Some, None, codes}
use Rattle.code_scan.specs.declared.token.Token.{Token}
use Rattle.code_scan.specs.declared.token.TokenKind.{TokenKind}
use Rattle.code_scan.specs.declared.token.TokenKind.TheVariants.{Name, Dot, Member}
use Rattle.code_tokens.specs.declared.code.Code.{Code}
use Rattle.code_places.specs.Words.{begins_mark}

abbrev pub steps : List (List ℕ)
steps = codes "++" ∷ codes "--" ∷ []

-- a member goes on with these, and its brackets begin
abbrev pub member_marks : List (List ℕ)
member_marks = codes "." ∷ codes "?." ∷ codes "(" ∷ codes "[" ∷ []

abbrev pub is_member_kind : TokenKind → Bool
is_member_kind Name = true
is_member_kind (Member name) = true
is_member_kind Dot = true
is_member_kind kind = false

unfoldable pub goes_on : List ℕ → List Token → Bool
goes_on text [] = false
goes_on text (t ∷ ts) = is_member_kind t.kind || begins_mark text member_marks (t ∷ ts)

-- The end of a bracket is as its beginning; another token is as the one before it, where a member goes on.
abbrev pub step_kept : List ℕ → List Bool → List Token → Option ℕ → Bool
step_kept text known ts None = goes_on text ts && get_or known (length known - 1) false
step_kept text known ts (Some other) =
    if nat_lt other (length known) then get_or known other false else goes_on text ts && get_or known (length known - 1) false

-- whether a member that the first of these tokens belongs to is behind `++` or `--`, where it is known of the tokens before
unfoldable pub is_stepped : List ℕ → Code → List Bool → List Token → Bool
is_stepped text code known ts = begins_mark text steps ts || step_kept text known ts (get_or code.others (length known) None)

unfoldable pub stepped_from : List ℕ → Code → List Bool → List Token → List Bool
stepped_from text code known [] = known
stepped_from text code known (t ∷ ts) = stepped_from text code (known ++ is_stepped text code known (t ∷ ts) ∷ []) ts

-- for each token whether it is `++` or `--`, or belongs to a member behind one
abbrev pub stepped : List ℕ → Code → List Bool
stepped text code = stepped_from text code [] code.tokens

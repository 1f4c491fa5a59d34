-- Which brackets belong together.
use Rattle.std.specs.Prelude.{◌≡◌, ◌<◌, ℕ, ◌-◌, ◌==◌, ◌&&◌, ◌||◌, Bool, true, false, if◌then◌else◌, List, [], ◌∷◌, ◌++◌, length, drop, get_or, Option, Some, None, is_some, is_none, codes}
use Rattle.code_tokens.specs.declared.pairs.Pair.{Pair}
use Rattle.code_tokens.specs.declared.pairs.Opened.{Opened}
use Rattle.code_tokens.specs.declared.pairs.Bracket.{Bracket}
use Rattle.code_tokens.specs.declared.pairs.Bracket.TheVariants.{Round, Square, Curly, Hole}
use Rattle.code_scan.specs.declared.token.Token.{Token}
use Rattle.code_scan.specs.declared.token.TokenKind.{TokenKind}
use Rattle.code_scan.specs.declared.token.TokenKind.TheVariants.{Open, Close}
use Rattle.code_scan.specs.Spellings.{is_written}

abbrev pub is_open : TokenKind → Bool
is_open Open = true
is_open kind = false

abbrev pub is_close : TokenKind → Bool
is_close Close = true
is_close kind = false

-- the bracket that a token opens
unfoldable pub opens : List ℕ → Token → Option Bracket
opens text t =
    if is_written text (codes "(") t then Some Round
    else if is_written text (codes "[") t then Some Square
    else if is_written text (codes "{") t then Some Curly
    else if is_open t.kind then Some Hole
    else None

-- whether a token closes a bracket of a kind
abbrev pub closes_bracket : List ℕ → Token → Bracket → Bool
closes_bracket text t Round = is_written text (codes ")") t
closes_bracket text t Square = is_written text (codes "]") t
closes_bracket text t Curly = is_written text (codes "}") t
closes_bracket text t Hole = is_close t.kind

-- whether a token closes a bracket of any kind
unfoldable pub is_closer : List ℕ → Token → Bool
is_closer text t = is_written text (codes ")") t || is_written text (codes "]") t || is_written text (codes "}") t || is_close t.kind

-- whether a token closes the innermost of the open brackets, which stand from the innermost outward
unfoldable pub closes_first : List ℕ → Token → List Opened → Bool
closes_first text t [] = false
closes_first text t (o ∷ os) = closes_bracket text t o.bracket

unfoldable pub first_index : List Opened → ℕ
first_index [] = 0
first_index (o ∷ os) = o.index

abbrev pub with_opened : Option Bracket → ℕ → List Opened → List Opened
with_opened None at os = os
with_opened (Some b) at os = (record { bracket = b; index = at }) ∷ os

-- the brackets that are open behind the token of a number; one that closes another bracket than the innermost closes none
unfoldable pub open_after : List ℕ → ℕ → Token → List Opened → List Opened
open_after text at t os = if closes_first text t os then drop 1 os else with_opened (opens text t) at os

-- the pair that a token ends
unfoldable pub ended_pair : List ℕ → ℕ → Token → List Opened → List Pair
ended_pair text at t os = if closes_first text t os then (record { opening = first_index os; closing = at }) ∷ [] else []

-- The pairs that end in the last tokens of so many, where these brackets are open before them.
unfoldable pub pairs_from : List ℕ → ℕ → List Opened → List Token → List Pair
pairs_from text size os [] = []
pairs_from text size os (t ∷ ts) =
    let at = size - length (t ∷ ts) in
    ended_pair text at t os ++ pairs_from text size (open_after text at t os) ts

-- the brackets that belong together, by the numbers of their tokens
abbrev pub pairs_of : List ℕ → List Token → List Pair
pairs_of text ts = pairs_from text (length ts) [] ts

-- ---- the other bracket

abbrev pub paired : Pair → ℕ → Option ℕ → Option ℕ
paired p i other = if i == p.closing then Some p.opening else if i == p.opening then Some p.closing else other

unfoldable pub other_among : Option ℕ → List Pair → ℕ → Option ℕ
other_among other [] i = other
other_among other (p ∷ ps) i = other_among (paired p i other) ps i

-- the number of the token that belongs to that of this number, if one does
abbrev pub other_in : List Pair → ℕ → Option ℕ
other_in pairs i = other_among None pairs i

-- a list tells for each token the number of the bracket that belongs to it
abbrev pub AreOthers : List Pair → ℕ → List (Option ℕ) → Type 0
AreOthers pairs size others = (length others ≡ size) × ((i : ℕ) → i < size → get_or others i None ≡ other_in pairs i)

-- ---- brackets by themselves

unfoldable pub is_bracket : List ℕ → Token → Bool
is_bracket text t = is_some (opens text t) || is_closer text t

abbrev pub alone_at : List ℕ → Token → Option ℕ → List ℕ
alone_at text t other = if is_bracket text t && is_none other then t.from ∷ [] else []

-- the places of those of the last tokens of so many that are brackets without another
unfoldable pub alone_from : List ℕ → ℕ → List Pair → List Token → List ℕ
alone_from text size pairs [] = []
alone_from text size pairs (t ∷ ts) = alone_at text t (other_in pairs (size - length (t ∷ ts))) ++ alone_from text size pairs ts

abbrev pub alone : List ℕ → List Token → List ℕ
alone text ts = alone_from text (length ts) (pairs_of text ts) ts

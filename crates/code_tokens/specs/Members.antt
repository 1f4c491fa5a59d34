-- Members that are asked for by a Text, as in `a["name"]`, and `?.` before a bracket.
use Rattle.std.specs.Prelude.{ℕ, ◌-◌, ◌&&◌, ◌||◌, not, Bool, true, false, if◌then◌else◌, List, [], ◌∷◌, ◌++◌, length, take, drop, reverse, Option, Some, None, codes, bytes_eq}
use Rattle.std.specs.Char.{is_ascii_digit}
use Rattle.code_tokens.specs.declared.members.Start.{Start}
use Rattle.code_scan.specs.declared.state.Before.{Before}
use Rattle.code_scan.specs.declared.state.Before.TheVariants.{Value}
use Rattle.code_scan.specs.declared.token.Token.{Token}
use Rattle.code_scan.specs.declared.token.TokenKind.{TokenKind}
use Rattle.code_scan.specs.declared.token.TokenKind.TheVariants.{Name, Text, Mark, Dot, Member}
use Rattle.code_scan.specs.Names.{goes_on, behind_name}
use Rattle.code_scan.specs.Spellings.{spelling, is_written}
use Rattle.code_scan.specs.States.{is_mark, is_dot, behind_word}
use Rattle.code_scan.specs.Tokens.{token}

abbrev pub is_empty : {A : Type 0} → List A → Bool
is_empty [] = true
is_empty (x ∷ xs) = false

-- whether the bytes are a name
unfoldable pub is_name : List ℕ → Bool
is_name [] = false
is_name (b ∷ bs) = goes_on (b ∷ bs) && not (is_ascii_digit b) && is_empty (behind_name bs)

abbrev pub is_text : TokenKind → Bool
is_text (Text letters) = true
is_text kind = false

abbrev pub letters_of : TokenKind → List ℕ
letters_of (Text letters) = letters
letters_of kind = []

-- what Texts say together
unfoldable pub letters_in : List Token → List ℕ
letters_in [] = []
letters_in (t ∷ ts) = letters_of t.kind ++ letters_in ts

abbrev pub start_at : Token → ℕ → Start
start_at t count = record { count = count; from = t.from; first_in_line = t.first_in_line }

-- Tokens stand here from the last one back. Where they end in `[` and Texts joined by `+`: that bracket, and how many are before it.
unfoldable pub start_of : List ℕ → List Token → Option Start
start_of text [] = None
start_of text (t ∷ []) = None
start_of text (t ∷ u ∷ ts) =
    if not (is_text t.kind) then None
    else if is_written text (codes "[") u then Some (start_at u (length ts))
    else if is_written text (codes "+") u then start_of text ts
    else None

unfoldable pub ends_in_dot : List ℕ → List Token → Bool
ends_in_dot text [] = false
ends_in_dot text (t ∷ ts) = is_mark t.kind && is_dot (spelling text t)

abbrev pub is_value : Before → Bool
is_value Value = true
is_value before = false

abbrev pub closes_value : List ℕ → Bool
closes_value spelling = bytes_eq spelling (codes ")") || bytes_eq spelling (codes "]")

-- whether a token ends a value of whose members a bracket behind it may ask, where it is behind a dot or not: a Name that isn't a keyword,
-- `)` or `]`
abbrev pub ends_value : Bool → TokenKind → List ℕ → Bool
ends_value dotted Name spelling = dotted || is_value (behind_word spelling)
ends_value dotted (Member name) spelling = true
ends_value dotted Mark spelling = closes_value spelling
ends_value dotted kind spelling = false

unfoldable pub end_in_value : List ℕ → List Token → Bool
end_in_value text [] = false
end_in_value text (t ∷ ts) = ends_value (ends_in_dot text ts) t.kind (spelling text t)

-- ---- one token more

abbrev pub asked_name : List Token → Start → List ℕ
asked_name done s = letters_in (drop 1 (drop s.count done))

unfoldable pub asks_member : List ℕ → List Token → Start → Bool
asks_member text done s = is_name (asked_name done s) && end_in_value text (reverse (take s.count done))

-- a dot and a name from the `[` to the `]`
abbrev pub member : Start → ℕ → List ℕ → List Token
member s to name = token Dot s.from to s.first_in_line ∷ token (Member name) s.from to false ∷ []

abbrev pub closed_at : List ℕ → List Token → Token → Option Start → List Token
closed_at text done t None = done ++ t ∷ []
closed_at text done t (Some s) = if asks_member text done s then take s.count done ++ member s t.to (asked_name done s) else done ++ t ∷ []

-- a `]` behind these tokens
unfoldable pub closed : List ℕ → List Token → Token → List Token
closed text done t = closed_at text done t (start_of text (reverse done))

unfoldable pub ends_in_optional : List ℕ → List Token → Bool
ends_in_optional text [] = false
ends_in_optional text (t ∷ ts) = is_written text (codes "?.") t

-- without a `?.` at the end
unfoldable pub without_optional : List ℕ → List Token → List Token
without_optional text done = if ends_in_optional text (reverse done) then take (length done - 1) done else done

unfoldable pub is_asking : List ℕ → Token → Bool
is_asking text t = is_written text (codes "(") t || is_written text (codes "[") t

unfoldable pub put : List ℕ → List Token → Token → List Token
put text done t =
    if is_written text (codes "]") t then closed text done t
    else if is_asking text t then without_optional text done ++ t ∷ []
    else done ++ t ∷ []

-- ---- all tokens

-- behind tokens that are done
unfoldable pub put_all : List ℕ → List Token → List Token → List Token
put_all text done [] = done
put_all text done (t ∷ ts) = put_all text (put text done t) ts

-- Where a bracket asks a value for a member whose name Texts say, a dot and that name; no `?.` before a bracket.
abbrev pub with_members : List ℕ → List Token → List Token
with_members text ts = put_all text [] ts

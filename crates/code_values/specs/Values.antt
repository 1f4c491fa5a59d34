-- Values behind `=` and behind `:`.
use Rattle.std.specs.Prelude.{ℕ, ◌-◌, ◌&&◌, ◌||◌, not, Bool, true, false, if◌then◌else◌, List, [], ◌∷◌, length, codes}
use Rattle.code_scan.specs.declared.token.Token.{Token}
use Rattle.code_scan.specs.declared.token.TokenKind.{TokenKind}
use Rattle.code_scan.specs.declared.token.TokenKind.TheVariants.{Name, Number, Text, Member}
use Rattle.code_scan.specs.Spellings.{is_written}
use Rattle.code_tokens.specs.declared.code.Code.{Code}
use Rattle.code_tokens.specs.Pairs.{is_closer}
use Rattle.code_tokens.specs.Members.{is_text}
use Rattle.code_values.specs.declared.spans.Span.{Span}
use Rattle.code_values.specs.Outer.{span, outer, from_at}
use Rattle.code_values.specs.Texts.{is_plus}

-- a Name, a Number or a Text
abbrev pub is_word : TokenKind → Bool
is_word Name = true
is_word Number = true
is_word (Text letters) = true
is_word kind = false

-- the name of a member that a Text in brackets asks for ends as a Name does
abbrev pub is_member : TokenKind → Bool
is_member (Member name) = true
is_member kind = false

-- behind such a token a value is at its end, if the line is
unfoldable pub may_end : List ℕ → Token → Bool
may_end text t = is_word t.kind || is_member t.kind || is_closer text t

-- a `;`, a `,` or a closing bracket
unfoldable pub is_end_mark : List ℕ → Token → Bool
is_end_mark text t = is_written text (codes ";") t || is_written text (codes ",") t || is_closer text t

-- whether a line begins with a word
unfoldable pub begins_line : Token → Bool
begins_line t = t.first_in_line && is_word t.kind

-- whether the first of these tokens may end a value
unfoldable pub first_may_end : List ℕ → List Token → Bool
first_may_end text [] = false
first_may_end text (t ∷ ts) = may_end text t

-- whether a value ends before the first of these tokens; the second list begins with the token before
unfoldable pub ends_before : List ℕ → List Token → List Token → Bool
ends_before text [] before = false
ends_before text (t ∷ ts) before = is_end_mark text t || begins_line t && first_may_end text before

-- whether a value ends before the token of a number
abbrev pub ends_value : List ℕ → Code → ℕ → Bool
ends_value text code at = ends_before text (from_at code at) (from_at code (at - 1))

-- the first of these tokens before which a value ends, else the end of all
unfoldable pub first_end : List ℕ → Code → List ℕ → ℕ
first_end text code [] = length code.tokens
first_end text code (at ∷ ats) = if ends_value text code at then at else first_end text code ats

-- The value that begins with the token of a number. It ends outside of its brackets.
abbrev pub value_from : List ℕ → Code → ℕ → Span
value_from text code at = span at (first_end text code (outer code (span at (length code.tokens))))

-- ---- sums

-- `?`, `||`, `&&` or `??`
unfoldable pub is_choice : List ℕ → Token → Bool
is_choice text t = is_written text (codes "?") t || is_written text (codes "||") t || is_written text (codes "&&") t || is_written text (codes "??") t

unfoldable pub chooses : List ℕ → List Token → Bool
chooses text [] = false
chooses text (t ∷ ts) = is_choice text t

unfoldable pub begins_plus : List ℕ → List Token → Bool
begins_plus text [] = false
begins_plus text (t ∷ ts) = is_plus text t

unfoldable pub begins_text : List Token → Bool
begins_text [] = false
begins_text (t ∷ ts) = is_text t.kind

-- whether one of these tokens chooses between values
unfoldable pub any_choice : List ℕ → Code → List ℕ → Bool
any_choice text code [] = false
any_choice text code (at ∷ ats) = if chooses text (from_at code at) then true else any_choice text code ats

unfoldable pub any_plus : List ℕ → Code → List ℕ → Bool
any_plus text code [] = false
any_plus text code (at ∷ ats) = if begins_plus text (from_at code at) then true else any_plus text code ats

unfoldable pub any_text : Code → List ℕ → Bool
any_text code [] = false
any_text code (at ∷ ats) = if begins_text (from_at code at) then true else any_text code ats

-- whether a value chooses between others, outside of its brackets
abbrev pub is_chosen : List ℕ → Code → Span → Bool
is_chosen text code s = any_choice text code (outer code s)

-- `x + y + ..` with a Text among them and no choice, outside of its brackets
abbrev pub is_sum : List ℕ → Code → Span → Bool
is_sum text code s = any_plus text code (outer code s) && any_text code (outer code s) && not (is_chosen text code s)

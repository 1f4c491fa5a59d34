-- Values that are texts.
use Rattle.std.specs.Prelude.{ℕ, ◌&&◌, ◌||◌, Bool, true, false, List, [], ◌∷◌, codes}
use Rattle.code_scan.specs.declared.token.Token.{Token}
use Rattle.code_scan.specs.declared.token.TokenKind.{TokenKind}
use Rattle.code_scan.specs.declared.token.TokenKind.TheVariants.{Plus}
use Rattle.code_scan.specs.Spellings.{is_written}
use Rattle.code_tokens.specs.declared.code.Code.{Code}
use Rattle.code_tokens.specs.Members.{is_text, letters_in}
use Rattle.code_values.specs.declared.spans.Span.{Span}
use Rattle.code_values.specs.Outer.{tokens_in}

abbrev pub is_join : TokenKind → Bool
is_join Plus = true
is_join kind = false

-- a `+`, written or of a template
unfoldable pub is_plus : List ℕ → Token → Bool
is_plus text t = is_written text (codes "+") t || is_join t.kind

-- whether tokens are Text { `+` Text }
unfoldable pub are_texts : List ℕ → List Token → Bool
are_texts text [] = false
are_texts text (t ∷ []) = is_text t.kind
are_texts text (t ∷ u ∷ ts) = is_text t.kind && is_plus text u && are_texts text ts

abbrev pub is_texts : List ℕ → Code → Span → Bool
is_texts text code s = are_texts text (tokens_in code s)

-- what the Texts of a range say together
abbrev pub joined_texts : Code → Span → List ℕ
joined_texts code s = letters_in (tokens_in code s)

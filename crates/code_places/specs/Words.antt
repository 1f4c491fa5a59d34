-- Words and marks, and whether tokens begin with them.
use Rattle.std.specs.Prelude.{ℕ, ◌&&◌, ◌||◌, Bool, true, false, List, [], ◌∷◌, drop, codes}
use Rattle.text_bytes.specs.Attributes.{is_among}
use Rattle.code_scan.specs.declared.token.Token.{Token}
use Rattle.code_scan.specs.declared.token.TokenKind.{TokenKind}
use Rattle.code_scan.specs.declared.token.TokenKind.TheVariants.{Name, Number, Dot}
use Rattle.code_scan.specs.Spellings.{spelling, is_written}
use Rattle.code_scan.specs.States.{is_mark}
use Rattle.code_tokens.specs.declared.code.Code.{Code}

-- the tokens of a number on
abbrev pub tokens_at : Code → ℕ → List Token
tokens_at code at = drop at code.tokens

abbrev pub is_name : TokenKind → Bool
is_name Name = true
is_name kind = false

abbrev pub is_number : TokenKind → Bool
is_number Number = true
is_number kind = false

abbrev pub is_asking : TokenKind → Bool
is_asking Dot = true
is_asking kind = false

-- whether tokens begin with a mark
unfoldable pub begins : List ℕ → List ℕ → List Token → Bool
begins text mark [] = false
begins text mark (t ∷ ts) = is_written text mark t

-- whether tokens begin with one of these marks
unfoldable pub begins_mark : List ℕ → List (List ℕ) → List Token → Bool
begins_mark text marks [] = false
begins_mark text marks (t ∷ ts) = is_mark t.kind && is_among marks (spelling text t)

-- whether tokens begin with one of these Names
unfoldable pub begins_name : List ℕ → List (List ℕ) → List Token → Bool
begins_name text names [] = false
begins_name text names (t ∷ ts) = is_name t.kind && is_among names (spelling text t)

-- whether tokens begin with a dot
unfoldable pub begins_dot : List ℕ → List Token → Bool
begins_dot text [] = false
begins_dot text (t ∷ ts) = is_asking t.kind || is_written text (codes ".") t || is_written text (codes "?.") t

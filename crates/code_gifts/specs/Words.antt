-- Words that tokens say.
use Rattle.std.specs.Prelude.{ℕ, ◌&&◌, Bool, true, false, List, [], ◌∷◌, drop, codes}
use Rattle.text_bytes.specs.Attributes.{is_among}
use Rattle.code_scan.specs.declared.token.Token.{Token}
use Rattle.code_scan.specs.declared.token.TokenKind.{TokenKind}
use Rattle.code_scan.specs.declared.token.TokenKind.TheVariants.{Name}
use Rattle.code_scan.specs.Spellings.{words_of}
use Rattle.code_tokens.specs.declared.code.Code.{Code}

-- the tokens of a number on
abbrev pub tokens_at : Code → ℕ → List Token
tokens_at code at = drop at code.tokens

-- what the first token says
unfoldable pub first_words : List ℕ → List Token → List ℕ
first_words text [] = []
first_words text (t ∷ ts) = words_of text t

-- where the first token stands
unfoldable pub first_place : List Token → ℕ
first_place [] = 0
first_place (t ∷ ts) = t.from

abbrev pub is_name : TokenKind → Bool
is_name Name = true
is_name kind = false

-- whether the first token is one of these Names
unfoldable pub begins_name : List ℕ → List (List ℕ) → List Token → Bool
begins_name text names [] = false
begins_name text names (t ∷ ts) = is_name t.kind && is_among names (words_of text t)

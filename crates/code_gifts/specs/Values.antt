-- What is known of arguments.
use Rattle.std.specs.Prelude.{ℕ, ◌-◌, ◌==◌, ◌&&◌, ◌||◌, Bool, false, if◌then◌else◌, List, [], ◌∷◌, ◌++◌, drop, Option, Some, None, codes}
use Rattle.code_tokens.specs.declared.code.Code.{Code}
use Rattle.code_values.specs.declared.spans.Span.{Span}
use Rattle.code_values.specs.Arguments.{is_spread}
use Rattle.code_values.specs.Texts.{is_texts, joined_texts}
use Rattle.sheet_asks.specs.Asked.{Asked}
use Rattle.gifts.specs.declared.given.Given.{Given}
use Rattle.gifts.specs.Classes.{any_class, classes}
use Rattle.code_gifts.specs.Words.{tokens_at, begins_name}

-- the text that a value is, if it is one
abbrev pub text_in : Code → Span → Bool → Option (List ℕ)
text_in code s texts = if texts then Some (joined_texts code s) else None

-- whether one of these arguments may be any number of them
unfoldable pub any_spread : List ℕ → Code → List Span → Bool
any_spread text code [] = false
any_spread text code (s ∷ ss) = is_spread text code s || any_spread text code ss

-- words that are no classes
abbrev pub no_classes : List (List ℕ)
no_classes = codes "true" ∷ codes "false" ∷ codes "null" ∷ codes "undefined" ∷ []

-- whether a value is one of these
abbrev pub is_nothing : List ℕ → Code → Span → Bool
is_nothing text code s = (s.to - s.from == 1) && begins_name text no_classes (tokens_at code s.from)

-- the classes of a value
abbrev pub value_classes : Asked → ℕ → List ℕ → Code → Span → List Given
value_classes asked place text code s = if is_nothing text code s then [] else classes asked place (text_in code s (is_texts text code s))

-- of an argument, if it is there
abbrev pub first_classes : Asked → ℕ → List ℕ → Code → List Span → List Given
first_classes asked place text code [] = any_class place
first_classes asked place text code (s ∷ ss) = value_classes asked place text code s

abbrev pub argument_classes : Asked → ℕ → List ℕ → Code → ℕ → List Span → List Given
argument_classes asked place text code n args = if any_spread text code args then any_class place else first_classes asked place text code (drop n args)

unfoldable pub all_classes : Asked → ℕ → List ℕ → Code → List Span → List Given
all_classes asked place text code [] = []
all_classes asked place text code (s ∷ ss) = value_classes asked place text code s ++ all_classes asked place text code ss

-- of all arguments
abbrev pub arguments_classes : Asked → ℕ → List ℕ → Code → List Span → List Given
arguments_classes asked place text code args = if any_spread text code args then any_class place else all_classes asked place text code args

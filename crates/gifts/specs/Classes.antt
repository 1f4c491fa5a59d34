-- What classes come to.
--     text_classes    those of a text
--     any_class       those of a value that isn't known
use Rattle.std.specs.Prelude.{ℕ, List, [], ◌∷◌, ◌++◌, flat_map, Option, Some, None}
use Rattle.sheet_asks.specs.Asked.{Asked, classes_in}
use Rattle.gifts.specs.declared.given.Given.{Given}
use Rattle.gifts.specs.declared.given.Gift.TheVariants.{Classes, AnyClass}
use Rattle.gifts.specs.Given.{gives}

-- a word behind a blank
abbrev pub behind_blank : List ℕ → List ℕ
behind_blank word = 32 ∷ word

-- words with a blank between two
abbrev pub joined_words : List (List ℕ) → List ℕ
joined_words [] = []
joined_words (w ∷ ws) = w ++ flat_map behind_blank ws

abbrev pub words_given : ℕ → List (List ℕ) → List Given
words_given at [] = []
words_given at (w ∷ ws) = gives at (Classes (joined_words (w ∷ ws)))

-- the classes among the words of a text that are asked for, if there are any
unfoldable pub text_classes : Asked → ℕ → List ℕ → List Given
text_classes asked at text = words_given at (classes_in asked text)

abbrev pub any_class : ℕ → List Given
any_class at = gives at AnyClass

-- of a text, or of a value that isn't known
abbrev pub classes : Asked → ℕ → Option (List ℕ) → List Given
classes asked at (Some text) = text_classes asked at text
classes asked at None = any_class at

-- What ids come to. A script of the subset can't give one, so each that is asked for is an assumption.
use Rattle.std.specs.Prelude.{ℕ, if◌then◌else◌, List, [], ◌∷◌, Option, Some, None}
use Rattle.sheet_asks.specs.Asked.{Asked}
use Rattle.sheet_asks.specs.Names.{is_among}
use Rattle.gifts.specs.declared.given.Given.{Given}
use Rattle.gifts.specs.declared.given.Kind.TheVariants.{Id}
use Rattle.gifts.specs.Given.{assumes}

abbrev pub ids_given : ℕ → List (List ℕ) → List Given
ids_given at [] = []
ids_given at (i ∷ is) = assumes at Id

abbrev pub any_id : Asked → ℕ → List Given
any_id asked at = ids_given at asked.ids

-- of a text, or of a value that isn't known
abbrev pub id : Asked → ℕ → Option (List ℕ) → List Given
id asked at (Some text) = if is_among asked.ids text then assumes at Id else []
id asked at None = any_id asked at

-- Lines, before they are written.
--     statement     what an element is given
--     assumption    what isn't seen
use Rattle.std.specs.Prelude.{ℕ, Bool, List, [], ◌∷◌, ◌++◌, codes}
use Rattle.std.specs.Fmt.{decimal}
use Rattle.lower_app.specs.declared.given.Call.{Call}
use Rattle.lower_app.specs.declared.given.Entry.{Entry}
use Rattle.lower_app.specs.declared.given.Form.TheVariants.{Assumed, Given}
use Rattle.lower_app.specs.declared.given.Kind.{Kind}
use Rattle.lower_app.specs.declared.given.Origin.{Origin}
use Rattle.lower_app.specs.Calls.{call_text}
use Rattle.lower_app.specs.Lines.{kind_word}

-- statements with the same call are the same
abbrev pub statement : Call → Bool → Origin → Entry
statement call any origin = record { form = Given any; key = call_text call; origin = origin }

abbrev pub origin_key : Origin → List ℕ
origin_key origin = decimal origin.file ++ codes ":" ++ decimal origin.at

-- a function by its name, or else a place
abbrev pub subject : List ℕ → Origin → List ℕ
subject [] origin = origin_key origin
subject (b ∷ bs) origin = b ∷ bs

-- assumptions of one kind are the same at one place, or of one function
unfoldable pub assumption : Kind → List ℕ → Origin → Entry
assumption kind name origin = record { form = Assumed kind; key = kind_word kind ++ codes " " ++ subject name origin; origin = origin }

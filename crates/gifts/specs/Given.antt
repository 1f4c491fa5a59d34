-- What code does at a place, as a list of one.
use Rattle.std.specs.Prelude.{ℕ, List, [], ◌∷◌}
use Rattle.gifts.specs.declared.given.Gift.{Gift}
use Rattle.gifts.specs.declared.given.Given.{Given}
use Rattle.gifts.specs.declared.given.Kind.{Kind}
use Rattle.gifts.specs.declared.given.What.TheVariants.{Gives, Assumes}

-- it gives something
abbrev pub gives : ℕ → Gift → List Given
gives at gift = record { at = at; what = Gives gift } ∷ []

-- it may give more than is seen
abbrev pub assumes : ℕ → Kind → List Given
assumes at kind = record { at = at; what = Assumes kind } ∷ []

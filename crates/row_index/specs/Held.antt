-- The list of places that each variant of `Held` stands for.
use Rattle.std.specs.Prelude.{ℕ, List, [], ◌∷◌}
use Rattle.row_index.specs.declared.held.Held.{Held}
use Rattle.row_index.specs.declared.held.Held.TheVariants.{Empty, One, More}

abbrev pub places_of : Held → List ℕ
places_of Empty = []
places_of (One place) = place ∷ []
places_of (More places) = places.items

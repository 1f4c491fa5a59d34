-- Atoms at spots.
use Rattle.std.specs.Prelude.{◌≡◌, ℕ, List, Contains}
use Rattle.proof_needs.specs.declared.spots.Spot.{Spot}
use Rattle.proof_needs.specs.declared.spots.Want.{Want}

abbrev pub want_of : Spot → ℕ → Want
want_of spot a = record { spot = spot; atom = a }

-- one of the atoms at the spot
abbrev pub IsOfEach : Spot → List ℕ → Want → Type 0
IsOfEach spot atoms w = (a : ℕ) × Contains atoms a × (w ≡ record { spot = spot; atom = a })

-- the atom at one of the spots
abbrev pub IsAtEach : List Spot → ℕ → Want → Type 0
IsAtEach spots atom w = (p : Spot) × Contains spots p × (w ≡ record { spot = p; atom = atom })

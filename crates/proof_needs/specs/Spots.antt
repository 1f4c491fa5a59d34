-- Spots and triples by their numbers.
--     spot_in nodes triples spot     the spot with this number
--     IsSpot nodes triples spot      there is a spot with this number
use Rattle.std.specs.Prelude.{ℕ, ◌<◌, List, [], length, map, unwrap_or, slice_get, Vec}
use Rattle.std.specs.Global.{Global}
use Rattle.proof_needs.specs.declared.spots.Spot.{Spot}
use Rattle.proof_needs.specs.declared.spots.Spot.TheVariants.{Page, Added}
use Rattle.proof_needs.specs.declared.spots.TripleKey.{TripleKey}
use Rattle.proof_needs.specs.Triples.{Triple, page_node, added}
use Rattle.proof_needs.specs.Triples.{Spot as Where}

abbrev pub paths_in : List (Vec ℕ Global) → List (List ℕ)
paths_in keys = map (λ k. k.items) keys

abbrev pub triple_of : TripleKey → Triple
triple_of k = record { kind = k.kind; parent = k.parent; atom = k.atom }

abbrev pub triples_in : List TripleKey → List Triple
triples_in keys = map triple_of keys

abbrev pub no_triple : Triple
no_triple = record { kind = 0; parent = []; atom = 0 }

module _ (nodes : List (List ℕ)) (triples : List Triple) where
  abbrev pub spot_in : Spot → Where
  spot_in (Page n) = page_node (unwrap_or (slice_get nodes n) [])
  spot_in (Added n) = added (unwrap_or (slice_get triples n) no_triple)

  abbrev pub IsSpot : Spot → Type 0
  IsSpot (Page n) = n < length nodes
  IsSpot (Added n) = n < length triples

-- What a reason wants, by places: nodes of the page by their paths, and added nodes by their triples.
--     place_of, HasPlace     what a spot is, where its number is one of a node or of a triple
--     IsWantedAt n p a       the atom is wanted at the place
--     HasChild n p t         the place is noted to have the node of the triple as a child
--     AsksAbove n t a        the node of the triple is noted to need the atom of its parent
--     ArePlaced n            all that is noted is of nodes and triples that have numbers
--     IsPremise              the atom at the place is a premise of a reason
--     WantsPremises          afterwards a premise is wanted, or what was wanted before; so with what is noted for later reasons
use Rattle.std.specs.Prelude.{◌≡◌, ◌⊎◌, ◌↔◌, ℕ, List, [], ◌∷◌, ◌++◌, length, Contains, Option, Some, IsSomeAnd, option_and_then, slice_get}
use Rattle.tree_sem.specs.Paths.{parent_of}
use Rattle.simple_core.specs.declared.system.System.{System}
use Rattle.proof_needs.specs.declared.needs.Choice.{Choice}
use Rattle.proof_needs.specs.declared.needs.Choice.TheVariants.{Start, Local, Up, Real, Spawn}
use Rattle.proof_needs.specs.declared.needs.Needs.{Needs}
use Rattle.proof_needs.specs.declared.needs.Tie.{Tie}
use Rattle.proof_needs.specs.declared.spots.Spot.{Spot}
use Rattle.proof_needs.specs.declared.spots.Want.{Want}
use Rattle.proof_needs.specs.Choices.{from_up, from_down, needs_of, spawn_needs}
use Rattle.proof_needs.specs.Sets.{AreDistinct}
use Rattle.proof_needs.specs.Spots.{paths_in, triples_in, spot_in, IsSpot}
use Rattle.proof_needs.specs.Triples.{Triple, page_node, added}
use Rattle.proof_needs.specs.Triples.{Spot as Where}

module _ (n : Needs) where
  abbrev pub place_of : Spot → Where
  place_of u = spot_in (paths_in n.nodes.keys) (triples_in n.triples.keys) u

  abbrev pub HasPlace : Spot → Type 0
  HasPlace u = IsSpot (paths_in n.nodes.keys) (triples_in n.triples.keys) u

  abbrev pub triple_named : Option ℕ → Option Triple
  triple_named number = option_and_then (slice_get (triples_in n.triples.keys)) number

  abbrev pub IsTieOf : Triple → Tie → Type 0
  IsTieOf t tie = (m : ℕ) × (slice_get (triples_in n.triples.keys) m ≡ Some t) × (slice_get n.ties.items m ≡ Some tie)

  abbrev pub IsWantedAt : Where → ℕ → Type 0
  IsWantedAt p a = (w : Want) × Contains n.wants.keys w × (place_of w.spot ≡ p) × (w.atom ≡ a)

  abbrev pub HasChild : Where → Triple → Type 0
  HasChild p t = (u : Spot) × (tie : Tie) × IsTieOf t tie × Contains tie.users.items u × (place_of u ≡ p)

  abbrev pub AsksAbove : Triple → ℕ → Type 0
  AsksAbove t a = (tie : Tie) × IsTieOf t tie × Contains tie.above a

  pub record ArePlaced : Type 0 where
    pub wanted : (w : Want) → Contains n.wants.keys w → HasPlace w.spot
    pub users : (tie : Tie) (u : Spot) → Contains n.ties.items tie → Contains tie.users.items u → HasPlace u
    pub each_tied : length n.ties.items ≡ length (triples_in n.triples.keys)
    pub different : AreDistinct (triples_in n.triples.keys)

-- the premises of a reason at the place q, for which a spawn adds the node of the triple named
module _ (s : System) (n : Needs) (q : Where) where
  -- the parent of a page's node, and each place that has the added node as a child
  abbrev pub IsAtParent : Where → Where → Type 0
  IsAtParent (page_node v) p = (u : List ℕ) × (parent_of v ≡ Some u) × (p ≡ page_node u)
  IsAtParent (added t) p = HasChild n p t

  abbrev pub IsAtChild : Where → ℕ → Where → Type 0
  IsAtChild (page_node v) k p = p ≡ page_node (v ++ k ∷ [])
  IsAtChild (added t) k p = ⊥

  abbrev pub IsPremise : Choice → Option Triple → Where → ℕ → Type 0
  IsPremise Start named p a = ⊥
  IsPremise (Local l) named p a = (p ≡ q) × Contains (needs_of s l) a
  IsPremise (Up l) named p a = IsAtParent q p × (a ≡ from_up s l)
  IsPremise (Real l k) named p a = IsAtChild q k p × (a ≡ from_down s l)
  IsPremise (Spawn l c) named p a = ((p ≡ q) × (a ≡ spawn_needs s c)) ⊎ IsSomeAnd named (λ t. ((p ≡ added t) × (a ≡ from_down s l)) ⊎ ((p ≡ q) × AsksAbove n t a))

  -- the added node of a spawn is a child of q
  abbrev pub IsNewChild : Choice → Option Triple → Where → Triple → Type 0
  IsNewChild Start named p t = ⊥
  IsNewChild (Local l) named p t = ⊥
  IsNewChild (Up l) named p t = ⊥
  IsNewChild (Real l k) named p t = ⊥
  IsNewChild (Spawn l c) named p t = (p ≡ q) × (named ≡ Some t)

  -- an added node at q needs the left side of an `up` link of its parent
  abbrev pub IsNewAbove : Choice → Triple → ℕ → Type 0
  IsNewAbove Start t a = ⊥
  IsNewAbove (Local l) t a = ⊥
  IsNewAbove (Up l) t a = (q ≡ added t) × (a ≡ from_up s l)
  IsNewAbove (Real l k) t a = ⊥
  IsNewAbove (Spawn l c) t a = ⊥

pub record WantsPremises (s : System) (q : Where) (choice : Choice) (named : Option Triple) (old new : Needs) : Type 0 where
  pub wanted : (p : Where) (a : ℕ) → IsWantedAt new p a ↔ (IsWantedAt old p a ⊎ IsPremise s old q choice named p a)
  pub children : (p : Where) (t : Triple) → HasChild new p t ↔ (HasChild old p t ⊎ IsNewChild s old q choice named p t)
  pub above : (t : Triple) (a : ℕ) → AsksAbove new t a ↔ (AsksAbove old t a ⊎ IsNewAbove s old q choice t a)

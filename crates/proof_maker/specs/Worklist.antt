-- The worklist of a proof: what is needed, and the reasons that were looked at so far.
--     IsDraft                    it is the chosen reason of what is wanted
--     IsFollowed                 the premises of a reason are wanted
--     IsUserAt, IsAboveAt        a spot has the node of a triple as a child, and what the node needs of its parent
--     IsWorklist                 what is wanted is needed, and the premises of what was looked at are wanted
use Rattle.std.specs.Prelude.{◌≡◌, ℕ, ◌≤◌, List, [], ◌∷◌, ◌++◌, length, Contains, Option, Some, None, IsSome, IsSomeAnd, slice_get}
use Rattle.std.specs.List.Sorted.{IsStrictlyIncreasing}
use Rattle.tree_sem.specs.Trees.{LabelTree, node_at}
use Rattle.tree_sem.specs.Paths.{parent_of}
use Rattle.simple_core.specs.declared.system.System.{System}
use Rattle.simple_core.specs.Pairs.{Pair}
use Rattle.proof_needs.specs.declared.needs.Choice.{Choice}
use Rattle.proof_needs.specs.declared.needs.Choice.TheVariants.{Start, Local, Up, Real, Spawn}
use Rattle.proof_needs.specs.declared.spots.Spot.{Spot}
use Rattle.proof_needs.specs.declared.spots.Spot.TheVariants.{Page, Added}
use Rattle.proof_needs.specs.declared.spots.Want.{Want}
use Rattle.proof_needs.specs.declared.needs.Tie.{Tie}
use Rattle.proof_needs.specs.declared.needs.Draft.{Draft}
use Rattle.proof_needs.specs.Choices.{by_spawn, from_up, from_down, needs_of, spawn_needs}
use Rattle.proof_maker.specs.Needs.{labels_at, IsChosen, triple_by, Needed, IsNeededAbove, Used}
use Rattle.proof_needs.specs.Triples.{Triple, added}
use Rattle.proof_needs.specs.Triples.{Spot as Where}
use Rattle.proof_maker.specs.Reasons.{reason_of}
use Rattle.proof_needs.specs.Sets.{AreDistinct}
use Rattle.proof_needs.specs.Spots.{spot_in, IsSpot}
use Rattle.proof_needs.specs.Wants.{want_of}

-- each triple's own atom is wanted at its node
abbrev pub AreOwn : List Triple → List Want → Type 0
AreOwn triples wants = (n : ℕ) (t : Triple) → slice_get triples n ≡ Some t → Contains wants (want_of (Added n) t.atom)

abbrev pub IsUserAt : List Tie → ℕ → Spot → Type 0
IsUserAt ties n spot = (tie : Tie) × (slice_get ties n ≡ Some tie) × Contains tie.users.items spot

abbrev pub IsAboveAt : List Tie → ℕ → ℕ → Type 0
IsAboveAt ties n b = (tie : Tie) × (slice_get ties n ≡ Some tie) × Contains tie.above b

-- the atom is wanted at the node's parent, or is among those that the added node needs of it
abbrev pub IsFollowedUp : List (List ℕ) → List Tie → List Want → Spot → ℕ → Type 0
IsFollowedUp nodes ties wants (Page n) from = (v p : List ℕ) → slice_get nodes n ≡ Some v → parent_of v ≡ Some p
    → (m : ℕ) × (slice_get nodes m ≡ Some p) × Contains wants (want_of (Page m) from)
IsFollowedUp nodes ties wants (Added n) from = IsAboveAt ties n from

-- it is wanted at the node's child k
abbrev pub IsFollowedDown : List (List ℕ) → List Want → Spot → ℕ → ℕ → Type 0
IsFollowedDown nodes wants (Page n) k from = (v : List ℕ) → slice_get nodes n ≡ Some v
    → (m : ℕ) × (slice_get nodes m ≡ Some (v ++ k ∷ [])) × Contains wants (want_of (Page m) from)
IsFollowedDown nodes wants (Added n) k from = Unit {0}

abbrev pub IsFollowed : System → List (List ℕ) → List Tie → List Want → Spot → Choice → Option ℕ → Type 0
IsFollowed s nodes ties wants spot Start named = Unit {0}
IsFollowed s nodes ties wants spot (Local l) named = (b : ℕ) → Contains (needs_of s l) b → Contains wants (want_of spot b)
IsFollowed s nodes ties wants spot (Up l) named = IsFollowedUp nodes ties wants spot (from_up s l)
IsFollowed s nodes ties wants spot (Real l n) named = IsFollowedDown nodes wants spot n (from_down s l)
IsFollowed s nodes ties wants spot (Spawn l c) named = Contains wants (want_of spot (spawn_needs s c)) × IsSomeAnd named (λ n. IsUserAt ties n spot)

module _ (s : System) (page : LabelTree) where
  -- the triple of the child that a spawn adds
  abbrev pub IsTripleOf : List Triple → Where → ℕ → Choice → Option ℕ → Type 0
  IsTripleOf triples spot round Start named = named ≡ None
  IsTripleOf triples spot round (Local l) named = named ≡ None
  IsTripleOf triples spot round (Up l) named = named ≡ None
  IsTripleOf triples spot round (Real l n) named = named ≡ None
  IsTripleOf triples spot round (Spawn l c) named = IsSomeAnd named (λ n. slice_get triples n ≡ Some (triple_by s page spot round l c))

  pub record IsDraft (nodes : List (List ℕ)) (triples : List Triple) (w : Want) (d : Draft) : Type 0 where
    pub chosen : IsChosen s page (spot_in nodes triples w.spot) w.atom d.round (reason_of d.choice)
    pub triple : IsTripleOf triples (spot_in nodes triples w.spot) d.round d.choice d.triple

  module _ (target : ℕ) where
    -- a reason at the spot names the triple
    abbrev pub IsUserOf : Where → Triple → Type 0
    IsUserOf spot t = (a : ℕ) × (r : ℕ) × (l : ℕ) × (c : ℕ) × Needed s page target spot a × IsChosen s page spot a r (by_spawn l c) × (triple_by s page spot r l c ≡ t)

    abbrev pub IsComing : Where → ℕ → Type 0
    IsComing spot a = (k : ℕ) × Contains (labels_at s page spot k) a

    pub record IsTie (nodes : List (List ℕ)) (triples : List Triple) (wants : List Want) (t : Triple) (tie : Tie) : Type 0 where
      pub users : (u : Spot) → Contains tie.users.items u → IsSpot nodes triples u × IsUserOf (spot_in nodes triples u) t
      pub above : (b : ℕ) → Contains tie.above b → IsNeededAbove s page target (added t) b
      pub tied : (u : Spot) (b : ℕ) → Contains tie.users.items u → Contains tie.above b → Contains wants (want_of u b)
      pub rises : IsStrictlyIncreasing tie.above

    pub record IsWanted (nodes : List (List ℕ)) (triples : List Triple) (w : Want) : Type 0 where
      pub spot : IsSpot nodes triples w.spot
      pub needed : Needed s page target (spot_in nodes triples w.spot) w.atom
      pub comes : IsComing (spot_in nodes triples w.spot) w.atom

    pub record IsWorklist (known : Pair → Type 0) (nodes : List (List ℕ)) (triples : List Triple) (ties : List Tie) (wants : List Want) (drafts : List Draft) : Type 0 where
      pub root : (m : ℕ) × (slice_get nodes m ≡ Some []) × Contains wants (want_of (Page m) target)
      pub nodes_there : (v : List ℕ) → Contains nodes v → IsSome (node_at v page)
      pub triples_known : (t : Triple) → Contains triples t → known (t.kind, t.parent)
      pub triples_used : (t : Triple) → Contains triples t → Used s page target t
      pub nodes_distinct : AreDistinct nodes
      pub triples_distinct : AreDistinct triples
      pub wants_distinct : AreDistinct wants
      pub wanted : (w : Want) → Contains wants w → IsWanted nodes triples w
      pub tie_count : length ties ≡ length triples
      pub each_tie : (n : ℕ) (t : Triple) (tie : Tie) → slice_get triples n ≡ Some t → slice_get ties n ≡ Some tie → IsTie nodes triples wants t tie
      pub few : length drafts ≤ length wants
      pub each_draft : (i : ℕ) (w : Want) (d : Draft) → slice_get wants i ≡ Some w → slice_get drafts i ≡ Some d → IsDraft nodes triples w d
      pub followed : (i : ℕ) (w : Want) (d : Draft) → slice_get wants i ≡ Some w → slice_get drafts i ≡ Some d → IsFollowed s nodes ties wants w.spot d.choice d.triple

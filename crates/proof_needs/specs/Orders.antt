-- Worklists that can be sorted, and sorted ones.
--     IsSortable n      each want is looked at, and no want and no node of the page stands twice
--     IsRank, IsBefore  the sort key of a want, and the order of two keys
--     AreSorted n rs    the ranks of all wants, in their order
--     AreFrom           orders of the wants in a list, each at its spot
--     AreDealt n o      the orders have the wants of the page and of each triple
use Rattle.std.specs.Prelude.{◌≡◌, ◌⊎◌, ℕ, ◌<◌, ◌==◌, Bool, true, false, if◌then◌else◌, List, [], ◌∷◌, ◌++◌, length, filter, Contains, Some, option_map, unwrap_or, slice_get}
use Rattle.tree_sem.specs.Order.{Before}
use Rattle.proof_needs.specs.declared.spots.Spot.{Spot}
use Rattle.proof_needs.specs.declared.spots.Spot.TheVariants.{Page, Added}
use Rattle.proof_needs.specs.declared.spots.Want.{Want}
use Rattle.proof_needs.specs.declared.needs.Draft.{Draft}
use Rattle.proof_needs.specs.declared.needs.Needs.{Needs}
use Rattle.proof_needs.specs.declared.orders.Rank.{Rank}
use Rattle.proof_needs.specs.declared.orders.Order.{Order}
use Rattle.proof_needs.specs.declared.orders.Orders.{Orders}
use Rattle.proof_needs.specs.Dealing.{IsDealt, IsOnPage, PageTie, AtomTie}
use Rattle.proof_needs.specs.Names.{wants_of}
use Rattle.proof_needs.specs.Sets.{AreDistinct}
use Rattle.proof_needs.specs.Spots.{paths_in, triples_in, IsSpot}

pub record IsSortable (n : Needs) : Type 0 where
  pub whole : length n.drafts.items ≡ length n.wants.keys
  pub wants_distinct : AreDistinct n.wants.keys
  pub nodes_distinct : AreDistinct (paths_in n.nodes.keys)
  pub spots : (w : Want) → Contains n.wants.keys w → IsSpot (paths_in n.nodes.keys) (triples_in n.triples.keys) w.spot

-- the path of a node of the page
abbrev pub steps_in : List (List ℕ) → Spot → List ℕ
steps_in nodes (Page n) = unwrap_or (slice_get nodes n) []
steps_in nodes (Added n) = []

pub record IsRank (n : Needs) (i : ℕ) (r : Rank) : Type 0 where
  pub place : r.want ≡ i
  pub wanted : Want
  pub at : slice_get n.wants.keys i ≡ Some wanted
  pub draft : Draft
  pub drafted : slice_get n.drafts.items i ≡ Some draft
  pub round : r.round ≡ draft.round
  pub path : r.path.items ≡ steps_in (paths_in n.nodes.keys) wanted.spot
  pub atom : r.atom ≡ wanted.atom

pub record AreRanks (n : Needs) (count : ℕ) (rs : List Rank) : Type 0 where
  pub long : length rs ≡ count
  pub each : (i : ℕ) (r : Rank) → slice_get rs i ≡ Some r → IsRank n i r

abbrev pub IsBefore : Rank → Rank → Type 0
IsBefore q r = (q.round < r.round) ⊎ ((q.round ≡ r.round) × (Before q.path.items r.path.items ⊎ ((q.path.items ≡ r.path.items) × ((q.atom < r.atom) ⊎ ((q.atom ≡ r.atom) × (q.want < r.want))))))

pub record AreSorted (n : Needs) (rs : List Rank) : Type 0 where
  pub each : (k : ℕ) (r : Rank) → slice_get rs k ≡ Some r → IsRank n r.want r
  pub all : (i : ℕ) → i < length n.wants.keys → (k : ℕ) × (r : Rank) × (slice_get rs k ≡ Some r) × (r.want ≡ i)
  pub ordered : (k l : ℕ) (q r : Rank) → k < l → slice_get rs k ≡ Some q → slice_get rs l ≡ Some r → IsBefore q r

-- it can be dealt to one of so many triples
abbrev pub IsSpotOf : ℕ → Spot → Type 0
IsSpotOf count (Page n) = Unit {0}
IsSpotOf count (Added n) = n < count

abbrev pub is_on_page : Spot → Bool
is_on_page (Page n) = true
is_on_page (Added n) = false

abbrev pub is_added : ℕ → Spot → Bool
is_added m (Page n) = false
is_added m (Added n) = n == m

abbrev pub kept : Bool → ℕ → List ℕ → List ℕ
kept test want wants = if test then wants ++ want ∷ [] else wants

-- the want goes to the order of its spot
pub record IsWithWant (spot : Spot) (want : ℕ) (old new : Orders) : Type 0 where
  pub page : new.page.wants.items ≡ kept (is_on_page spot) want old.page.wants.items
  pub each : (m : ℕ) → wants_of new.triples.items m ≡ kept (is_added m spot) want (wants_of old.triples.items m)
  pub count : length new.triples.items ≡ length old.triples.items

abbrev pub spot_at : List Want → ℕ → Spot
spot_at wants i = unwrap_or (option_map (λ (w : Want). w.spot) (slice_get wants i)) (Page 0)

pub record AreFrom (wants : List Want) (count : ℕ) (places : List ℕ) (o : Orders) : Type 0 where
  pub page : o.page.wants.items ≡ filter (λ i. is_on_page (spot_at wants i)) places
  pub each : (m : ℕ) → wants_of o.triples.items m ≡ filter (λ i. is_added m (spot_at wants i)) places
  pub count_is : length o.triples.items ≡ count

pub record AreDealt (n : Needs) (o : Orders) : Type 0 where
  pub page : IsDealt n.wants.keys n.drafts.items IsOnPage (PageTie (paths_in n.nodes.keys)) o.page.wants.items
  pub each : (m : ℕ) (order : Order) → slice_get o.triples.items m ≡ Some order → IsDealt n.wants.keys n.drafts.items (λ q. q ≡ Added m) AtomTie order.wants.items
  pub count : length o.triples.items ≡ length n.triples.keys

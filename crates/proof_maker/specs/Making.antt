-- The construction of a proof from the worklist.
--     IsNumbered        an order has the triples that are named, each once, and is that of a proof's entries
--     IsMakeable n      a proof can be made from the worklist
--     IsMade            an entry has the items of a triple
--     IsProofOf s n p   the proof has the items of the page, and an entry for each triple that has a number
use Rattle.std.specs.Prelude.{◌≡◌, ℕ, ◌<◌, ◌^◌, min, List, [], length, map, take, Contains, Some, option_map, unwrap_or, slice_get}
use Rattle.simple_core.specs.declared.system.System.{System}
use Rattle.proof_check.specs.declared.proofs.ProofItem.{ProofItem}
use Rattle.proof_check.specs.declared.proofs.Entry.{Entry}
use Rattle.proof_check.specs.declared.proofs.PageItem.{PageItem}
use Rattle.proof_check.specs.declared.proofs.Proof.{Proof}
use Rattle.proof_check.specs.Kept.{kept_steps}
use Rattle.proof_check.specs.Unfolding.{items_count}
use Rattle.proof_check.specs.Validity.{MOST_STEPS}
use Rattle.proof_needs.specs.declared.spots.Spot.{Spot}
use Rattle.proof_needs.specs.declared.spots.Spot.TheVariants.{Page, Added}
use Rattle.proof_needs.specs.declared.spots.Want.{Want}
use Rattle.proof_needs.specs.declared.needs.Tie.{Tie}
use Rattle.proof_needs.specs.declared.needs.Draft.{Draft}
use Rattle.proof_needs.specs.declared.needs.Needs.{Needs}
use Rattle.proof_needs.specs.declared.orders.Order.{Order}
use Rattle.proof_needs.specs.declared.orders.Orders.{Orders}
use Rattle.proof_maker.specs.Needs.{Walks}
use Rattle.proof_needs.specs.Triples.{Triple}
use Rattle.proof_needs.specs.Names.{named_all, names_in, wants_of}
use Rattle.proof_needs.specs.Numbers.{Tours, number_in}
use Rattle.proof_needs.specs.Orders.{IsSortable, AreDealt}
use Rattle.proof_needs.specs.Sets.{AreDistinct}
use Rattle.proof_needs.specs.Spots.{paths_in, triples_in}
use Rattle.proof_maker.specs.Items.{item_at}
use Rattle.proof_needs.specs.Dealing.{node_of, path_at}

-- a node of the page, or of a triple that has a number
abbrev pub IsListed : List ℕ → Spot → Type 0
IsListed order (Page n) = Unit {0}
IsListed order (Added n) = Contains order n

pub record IsNumbered (triples : ℕ) (wants : List Want) (drafts : List Draft) (orders : List Order) (page order : List ℕ) : Type 0 where
  pub distinct : AreDistinct order
  pub inside : (n : ℕ) → Contains order n → n < triples
  -- what an item at such a node names has a number
  pub closed : (i n : ℕ) (w : Want) (d : Draft) → slice_get wants i ≡ Some w → slice_get drafts i ≡ Some d → d.triple ≡ Some n → IsListed order w.spot → Contains order n
  pub walked : (names : ℕ → List ℕ) → ((e n : ℕ) → slice_get order e ≡ Some n → names e ≡ map (number_in order) (names_in drafts orders n))
      → Walks names 0 (map (number_in order) (named_all drafts page)) (length order)

abbrev pub AreToured : Needs → Orders → List ℕ → Type 0
AreToured n o order = Tours (names_in n.drafts.items o.triples.items) (named_all n.drafts.items o.page.wants.items) order

pub record IsMakeable (n : Needs) : Type 0 where
  pub sortable : IsSortable n
  pub named : (i m : ℕ) (d : Draft) → slice_get n.drafts.items i ≡ Some d → d.triple ≡ Some m → m < length n.triples.keys
  pub tie_count : length n.ties.items ≡ length n.triples.keys
  pub few : length n.triples.keys < 2 ^ 32
  pub numbered : (o : Orders) (order : List ℕ) → AreDealt n o → AreToured n o order → IsNumbered (length (triples_in n.triples.keys)) n.wants.keys n.drafts.items o.triples.items o.page.wants.items order

-- the atom is wanted at a node of the page
abbrev pub IsNodeWant : Needs → ℕ → Type 0
IsNodeWant n i = (w : Want) × (v : List ℕ) × (slice_get n.wants.keys i ≡ Some w) × (slice_get (paths_in n.nodes.keys) (node_of w.spot) ≡ Some v)

-- the path of the page's node at which an atom is wanted
abbrev pub place_of : List Want → List (List ℕ) → ℕ → List ℕ
place_of wants nodes i = unwrap_or (option_map (path_at nodes) (slice_get wants i)) []

module _ (n : Needs) (order : List ℕ) where
  abbrev pub item_of : ℕ → ProofItem
  item_of i = item_at n.wants.keys n.drafts.items (number_in order) i

  abbrev pub page_item_of : ℕ → PageItem
  page_item_of i = record { at = place_of n.wants.keys (paths_in n.nodes.keys) i; item = item_of i }

  pub record IsMade (wants : List ℕ) (m : ℕ) (entry : Entry) : Type 0 where
    pub kind : (t : Triple) → slice_get (triples_in n.triples.keys) m ≡ Some t → entry.kind ≡ t.kind
    pub parent : (tie : Tie) → slice_get n.ties.items m ≡ Some tie → entry.parent ≡ tie.above
    pub items : entry.items ≡ map item_of wants

  -- the first entries, of those that the order has
  pub record AreEntries (s : System) (orders : List Order) (count : ℕ) (entries : List Entry) : Type 0 where
    pub long : length entries ≡ count
    pub made : (e m : ℕ) (entry : Entry) → slice_get order e ≡ Some m → slice_get entries e ≡ Some entry → IsMade (wants_of orders m) m entry
    pub steps : (e : ℕ) (entry : Entry) → slice_get entries e ≡ Some entry → entry.steps ≡ min (items_count s (kept_steps (take e entries)) entry.items) MOST_STEPS

pub record IsProofOf (s : System) (n : Needs) (p : Proof) : Type 0 where
  pub orders : Orders
  pub dealt : AreDealt n orders
  pub order : List ℕ
  pub toured : AreToured n orders order
  pub entries : AreEntries n order s orders.triples.items (length order) p.entries
  pub page : p.page ≡ map (page_item_of n order) orders.page.wants.items

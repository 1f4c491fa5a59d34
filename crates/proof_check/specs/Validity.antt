-- Valid proofs.
--     IsValid system page proof target       the proof shows that the page's root gets the target
use Rattle.std.specs.Prelude.{◌≡◌, ◌⊎◌, ℕ, suc, ◌<◌, min, ◌==◌, IsTrue, IsSome, IsSomeAnd, List, [], ◌∷◌, ◌++◌, map, length, find, filter, All, Contains, Option, Some, None, option_map, unwrap_or, slice_get, bytes_eq}
use Rattle.tree_sem.specs.Trees.{LabelTree, node_at, label_at}
use Rattle.tree_sem.specs.Paths.{parent_of}
use Rattle.simple_core.specs.declared.rules.Kind.{Kind}
use Rattle.simple_core.specs.declared.rules.Link.{Link}
use Rattle.simple_core.specs.declared.rules.Local as rule
use Rattle.simple_core.specs.declared.rules.Spawn.{Spawn}
use Rattle.simple_core.specs.declared.system.System.{System}
use Rattle.proof_check.specs.declared.proofs.Below.TheVariants.{Real, Grown}
use Rattle.proof_check.specs.declared.proofs.Reason.{Reason}
use Rattle.proof_check.specs.declared.proofs.Reason.TheVariants.{Start, Local, Up, Down}
use Rattle.proof_check.specs.declared.proofs.ProofItem.{ProofItem}
use Rattle.proof_check.specs.declared.proofs.Entry.{Entry}
use Rattle.proof_check.specs.declared.proofs.PageItem.{PageItem}
use Rattle.proof_check.specs.declared.proofs.Proof.{Proof}
use Rattle.simple_core.specs.Systems.{kind_label}
use Rattle.proof_check.specs.Unfolding.{entry_count}

abbrev pub MOST_STEPS : ℕ
MOST_STEPS = 18446744073709551615

abbrev pub atoms_of : List ProofItem → List ℕ
atoms_of items = map (λ i. i.atom) items

-- the items at one node
abbrev pub items_at : List ℕ → List PageItem → List ProofItem
items_at v items = map (λ i. i.item) (filter (λ i. bytes_eq i.at v) items)

abbrev pub IsDown : Reason → Type 0
IsDown (Down l b) = Unit {0}
IsDown r = ⊥

-- Where an item stands: a page node, or a grown node of a kind.
pub record Place : Type 0 where
  pub label : List ℕ  -- the node's label at the start
  pub kind : Option ℕ  -- the kind; a page node has none
  pub lower : ℕ  -- how many entries may be named
  pub here : List ProofItem  -- the items before it at this node
  pub above : List ℕ  -- the atoms that are known at the parent
  pub child : ℕ → List ℕ  -- the atoms that are known at a real child

-- the entry of number e stands below the place, by the spawn rule, and gives `from`
pub record IsBelow (place : Place) (from : ℕ) (spawn : Spawn) (kind : Kind) (e : ℕ) (entry : Entry) : Type 0 where
  pub lower : e < place.lower
  pub its_kind : entry.kind ≡ spawn.kind
  pub gives : Contains (atoms_of entry.items) from
  pub parent : All (Contains (atoms_of place.here)) entry.parent
  pub spawns : Contains (atoms_of place.here) spawn.needs
  -- an inner kind stands only below the kind above it
  pub inner : (kind.above ≡ None) ⊎ (IsSome kind.above × kind.above ≡ place.kind)
  -- for a top kind that comes beside a child, the child is named
  pub beside : kind.above ≡ None → IsTrue kind.beside → IsSomeAnd (find (λ i. i.atom == spawn.needs) place.here) (λ i. IsDown i.reason)

-- at a page node, after these items of the page
abbrev pub at_page : LabelTree → ℕ → List PageItem → List ℕ → Place
at_page page n before v = record {
  label = unwrap_or (label_at v page) [];
  kind = None;
  lower = n;
  here = items_at v before;
  above = unwrap_or (option_map (λ p. atoms_of (items_at p before)) (parent_of v)) [];
  child = λ k. atoms_of (items_at (v ++ k ∷ []) before);
}

module _ (system : System) where
  -- an item's reason gives its atom, from premises that are known at its place
  abbrev pub IsSound : List Entry → Place → ℕ → Reason → Type 0
  IsSound entries place atom Start = Contains place.label atom
  IsSound entries place atom (Local l) =
      (rule : rule.Local) × (slice_get system.local l ≡ Some rule) × (rule.gives ≡ atom) × All (Contains (atoms_of place.here)) rule.needs
  IsSound entries place atom (Up l) = (link : Link) × (slice_get system.up l ≡ Some link) × (link.to ≡ atom) × Contains place.above link.from
  IsSound entries place atom (Down l (Real k)) =
      (link : Link) × (slice_get system.down l ≡ Some link) × (link.to ≡ atom) × Contains (place.child k) link.from
  IsSound entries place atom (Down l (Grown c e)) =
      (link : Link) × (slice_get system.down l ≡ Some link) × (link.to ≡ atom)
      × (spawn : Spawn) × (slice_get system.child c ≡ Some spawn) × (kind : Kind) × (slice_get system.kinds spawn.kind ≡ Some kind)
      × (entry : Entry) × (slice_get entries e ≡ Some entry) × IsBelow place link.from spawn kind e entry

  -- the items of an entry from one on, with those before it
  abbrev pub AreSound : List Entry → Place → List ProofItem → Type 0
  AreSound entries place [] = Unit {0}
  AreSound entries place (i ∷ items) =
      IsSound entries place i.atom i.reason × AreSound entries (record place { here = place.here ++ i ∷ [] }) items

  -- where the items of the entry n begin: no child is real
  abbrev pub in_entry : ℕ → Entry → Place
  in_entry n entry = record {
    label = kind_label system entry.kind;
    kind = Some entry.kind;
    lower = n;
    here = [];
    above = entry.parent;
    child = λ k. [];
  }

  abbrev pub ArePlaced : List Entry → LabelTree → List PageItem → List PageItem → Type 0
  ArePlaced entries page before [] = Unit {0}
  ArePlaced entries page before (i ∷ items) =
      IsSome (node_at i.at page) × IsSound entries (at_page page (length entries) before i.at) i.item.atom i.item.reason
      × ArePlaced entries page (before ++ i ∷ []) items

  pub record IsValid (page : LabelTree) (proof : Proof) (target : ℕ) : Type 0 where
    pub entries : (n : ℕ) (entry : Entry) → slice_get proof.entries n ≡ Some entry → AreSound proof.entries (in_entry n entry) entry.items
    pub page_items : ArePlaced proof.entries page [] proof.page
    pub counts : (n : ℕ) (entry : Entry) → slice_get proof.entries n ≡ Some entry → entry.steps ≡ min (entry_count system proof.entries (suc n) n) MOST_STEPS
    pub root : Contains (atoms_of (items_at [] proof.page)) target

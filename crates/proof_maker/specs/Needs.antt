-- The canonical proof of an atom at the root: what it needs, and nothing else.
--     Needed s page target spot a the proof of the target needs the atom a at the spot
--     Used s page target t        it uses the triple
--     IsCanonical                 the proof has exactly what is needed, in its order, and one entry for each triple that is named
use Rattle.std.specs.Prelude.{◌≡◌, ◌⊎◌, ◌↔◌, ℕ, suc, ◌<◌, ◌-◌, min, List, [], ◌∷◌, ◌++◌, length, Contains, Some, option_map, unwrap_or, slice_get}
use Rattle.std.specs.List.{flat_map}
use Rattle.std.specs.List.Sorted.{IsStrictlyIncreasing}
use Rattle.tree_sem.specs.Trees.{LabelTree}
use Rattle.tree_sem.specs.Order.{Before}
use Rattle.tree_sem.specs.Paths.{parent_of}
use Rattle.simple_core.specs.declared.system.System.{System}
use Rattle.simple_core.specs.Labels.{visible_in}
use Rattle.simple_core.specs.Rounds.{IsFirst}
use Rattle.proof_check.specs.declared.proofs.Below.TheVariants.{Real, Grown}
use Rattle.proof_check.specs.declared.proofs.Reason.{Reason}
use Rattle.proof_check.specs.declared.proofs.Reason.TheVariants.{Start, Local, Up, Down}
use Rattle.proof_check.specs.declared.proofs.ProofItem.{ProofItem}
use Rattle.proof_check.specs.declared.proofs.Entry.{Entry}
use Rattle.proof_check.specs.declared.proofs.PageItem.{PageItem}
use Rattle.proof_check.specs.declared.proofs.Proof.{Proof}
use Rattle.proof_check.specs.Unfolding.{entry_count}
use Rattle.proof_check.specs.Validity.{MOST_STEPS}
use Rattle.proof_needs.specs.Triples.{Triple, Spot, page_node, added}
use Rattle.proof_needs.specs.Choices.{Setting, on_page, on_added, Choice, at_start, by_local, by_up, by_real, by_spawn, from_up, from_down, needs_of, spawn_needs, spawn_kind, chosen}

module _ (s : System) (page : LabelTree) where
  abbrev pub setting_at : Spot → Setting
  setting_at (page_node v) = on_page s page
  setting_at (added t) = on_added s t.kind t.parent

  abbrev pub path_at : Spot → List ℕ
  path_at (page_node v) = v
  path_at (added t) = []

  -- the label at the spot, round by round
  abbrev pub labels_at : Spot → ℕ → List ℕ
  labels_at spot k = (setting_at spot).label k (path_at spot)

  -- the atom's first round at the spot is r, and w the reason that is chosen for it
  pub record IsChosen (spot : Spot) (a r : ℕ) (w : Choice) : Type 0 where
    pub first : IsFirst (labels_at spot) a (Some r)
    pub choice : chosen s (setting_at spot) (path_at spot) a r ≡ w

  -- the triple that a spawn below the spot names, for an atom of first round r
  abbrev pub triple_by : Spot → ℕ → ℕ → ℕ → Triple
  triple_by spot r l c = record { kind = spawn_kind s c; parent = visible_in s (labels_at spot (r - 1)); atom = from_down s l }

-- The target is needed at the root, and a triple's atom at its node. With an atom all premises of its chosen reason are needed: of a spawn
-- they are the spawn's atom, and what the triple's node needs of its parent.
pub data Needed (s : System) (page : LabelTree) (target : ℕ) : Spot → ℕ → Type 0 where
  goal : Needed s page target (page_node []) target
  top : (t : Triple) → Needed s page target (added t) t.atom
  by_rule : (spot : Spot) (a r l b : ℕ) → Needed s page target spot a → IsChosen s page spot a r (by_local l) → Contains (needs_of s l) b → Needed s page target spot b
  by_parent : (v p : List ℕ) (a r l : ℕ) → Needed s page target (page_node v) a → IsChosen s page (page_node v) a r (by_up l) → parent_of v ≡ Some p → Needed s page target (page_node p) (from_up s l)
  by_child : (v : List ℕ) (a r l n : ℕ) → Needed s page target (page_node v) a → IsChosen s page (page_node v) a r (by_real l n) → Needed s page target (page_node (v ++ n ∷ [])) (from_down s l)
  by_spawner : (spot : Spot) (a r l c : ℕ) → Needed s page target spot a → IsChosen s page spot a r (by_spawn l c) → Needed s page target spot (spawn_needs s c)
  by_entry : (spot : Spot) (a r l c b m k : ℕ) → Needed s page target spot a → IsChosen s page spot a r (by_spawn l c)
      → Needed s page target (added (triple_by s page spot r l c)) b → IsChosen s page (added (triple_by s page spot r l c)) b m (by_up k) → Needed s page target spot (from_up s k)

-- Each entry is numbered after those that its items name, these in their order, and no entry has two numbers. `Walks names n es m`: with n
-- entries there, the walk through es leaves m.
pub data Walks (names : ℕ → List ℕ) : ℕ → List ℕ → ℕ → Type 0 where
  done : (n : ℕ) → Walks names n [] n
  seen : (n e m : ℕ) (es : List ℕ) → e < n → Walks names n es m → Walks names n (e ∷ es) m
  new : (n e m : ℕ) (es : List ℕ) → Walks names n (names e) e → Walks names (suc e) es m → Walks names n (e ∷ es) m

abbrev pub named_by : Reason → List ℕ
named_by (Down l (Grown c e)) = e ∷ []
named_by reason = []

abbrev pub entry_names : List Entry → ℕ → List ℕ
entry_names entries e = unwrap_or (option_map (λ (entry : Entry). flat_map (λ (i : ProofItem). named_by i.reason) entry.items) (slice_get entries e)) []

module _ (s : System) (page : LabelTree) (target : ℕ) where
  -- the reason as the proof writes it, with the numbers of triples as entries
  abbrev pub IsReason : List Triple → Spot → ℕ → Choice → Reason → Type 0
  IsReason triples spot r at_start reason = reason ≡ Start
  IsReason triples spot r (by_local l) reason = reason ≡ Local l
  IsReason triples spot r (by_up l) reason = reason ≡ Up l
  IsReason triples spot r (by_real l n) reason = reason ≡ Down l (Real n)
  IsReason triples spot r (by_spawn l c) reason = (e : ℕ) × (slice_get triples e ≡ Some (triple_by s page spot r l c)) × (reason ≡ Down l (Grown c e))

  pub record IsItem (triples : List Triple) (spot : Spot) (i : ProofItem) : Type 0 where
    pub needed : Needed s page target spot i.atom
    pub round : ℕ
    pub first : IsFirst (labels_at s page spot) i.atom (Some round)
    pub reason : IsReason triples spot round (chosen s (setting_at s page spot) (path_at s page spot) i.atom round) i.reason

  -- an atom comes before another: by first round, and then as Tie says
  abbrev pub Comes : Spot → ℕ → Spot → ℕ → Type 0 → Type 0
  Comes p a q b Tie = (m : ℕ) × (n : ℕ) × IsFirst (labels_at s page p) a (Some m) × IsFirst (labels_at s page q) b (Some n) × ((m < n) ⊎ ((m ≡ n) × Tie))

  abbrev pub IsNeededAbove : Spot → ℕ → Type 0
  IsNeededAbove spot b = (a : ℕ) × (r : ℕ) × (l : ℕ) × Needed s page target spot a × IsChosen s page spot a r (by_up l) × (from_up s l ≡ b)

  pub record IsEntryOf (triples : List Triple) (t : Triple) (entry : Entry) : Type 0 where
    pub kind : entry.kind ≡ t.kind
    pub each : (i : ℕ) (x : ProofItem) → slice_get entry.items i ≡ Some x → IsItem triples (added t) x
    pub all : (a : ℕ) → Needed s page target (added t) a → (i : ℕ) × (x : ProofItem) × (slice_get entry.items i ≡ Some x) × (x.atom ≡ a)
    pub ordered : (i j : ℕ) (x y : ProofItem) → i < j → slice_get entry.items i ≡ Some x → slice_get entry.items j ≡ Some y → Comes (added t) x.atom (added t) y.atom (x.atom < y.atom)
    pub parent : (b : ℕ) → Contains entry.parent b ↔ IsNeededAbove (added t) b
    pub parent_rises : IsStrictlyIncreasing entry.parent

  pub record IsCanonical (proof : Proof) : Type 0 where
    pub triples : List Triple
    pub count : length proof.entries ≡ length triples
    pub different : (i j : ℕ) (t : Triple) → slice_get triples i ≡ Some t → slice_get triples j ≡ Some t → i ≡ j
    pub entries : (n : ℕ) (t : Triple) (entry : Entry) → slice_get triples n ≡ Some t → slice_get proof.entries n ≡ Some entry → IsEntryOf triples t entry
    pub steps : (n : ℕ) (entry : Entry) → slice_get proof.entries n ≡ Some entry → entry.steps ≡ min (entry_count s proof.entries (suc n) n) MOST_STEPS
    pub each : (i : ℕ) (x : PageItem) → slice_get proof.page i ≡ Some x → IsItem triples (page_node x.at) x.item
    pub all : (v : List ℕ) (a : ℕ) → Needed s page target (page_node v) a → (i : ℕ) × (x : PageItem) × (slice_get proof.page i ≡ Some x) × (x.at ≡ v) × (x.item.atom ≡ a)
    pub ordered : (i j : ℕ) (x y : PageItem) → i < j → slice_get proof.page i ≡ Some x → slice_get proof.page j ≡ Some y
        → Comes (page_node x.at) x.item.atom (page_node y.at) y.item.atom (Before x.at y.at ⊎ ((x.at ≡ y.at) × (x.item.atom < y.item.atom)))
    pub walked : Walks (entry_names proof.entries) 0 (flat_map (λ (x : PageItem). named_by x.item.reason) proof.page) (length proof.entries)

-- the triples that the proof of the target uses
pub data Used (s : System) (page : LabelTree) (target : ℕ) : Triple → Type 0 where
  by_page : (v : List ℕ) (a r l c : ℕ) → Needed s page target (page_node v) a → IsChosen s page (page_node v) a r (by_spawn l c) → Used s page target (triple_by s page (page_node v) r l c)
  by_triple : (t : Triple) (a r l c : ℕ) → Used s page target t → Needed s page target (added t) a → IsChosen s page (added t) a r (by_spawn l c) → Used s page target (triple_by s page (added t) r l c)

-- it uses more than n different triples
pub record UsesMore (s : System) (page : LabelTree) (target n : ℕ) : Type 0 where
  pub triples : List Triple
  pub different : (i j : ℕ) (t : Triple) → slice_get triples i ≡ Some t → slice_get triples j ≡ Some t → i ≡ j
  pub used : (t : Triple) → Contains triples t → Used s page target t
  pub more : n < length triples

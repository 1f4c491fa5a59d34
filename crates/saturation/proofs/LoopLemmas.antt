-- One round more.
use Rattle.std.proofs.Common.{◌≡◌, ◌≢◌, ℕ, suc, ◌<◌, ◌≤◌, List, [], ◌∷◌, ◌++◌, length, All, Contains, refl, sym, ap, subst, ◌∙◌, arith, inl, inr, ◌⊎◌}
use Rattle.std.proofs.lemmas.Bool.{cases_order, cases_lt, lt-ltb, le-ltb}
use Rattle.std.proofs.lemmas.List.Elements.{All-contains, All-append, All-head, All-tail}
use Rattle.tp_base.proofs.Rising.{Contains-here, Contains-behind, Contains-cons, Contains-none, All-from_Contains}
use Rattle.tp_base.specs.declared.atoms.TheConstants.{MOST_ATOMS}
use Rattle.class_diagrams.specs.References.{Reference}
use Rattle.class_diagrams.specs.Trees.{Tree}
use Rattle.class_diagrams.specs.Arena.{StartsWith, tree_at, IsIn, Arena}
use Rattle.class_diagrams.proofs.ArenaLemmas.{tree_at-further, IsIn-further}
use Rattle.diagram_ops.proofs.HeldLemmas.{covered_right}
use Rattle.diagram_ops.proofs.StepLemmas.{brings_then}
use Rattle.simple_core.specs.declared.system.System.{System}
use Rattle.simple_core.specs.Systems.{IsSound}
use Rattle.pushdown_sym.specs.Terms.{partial_results}
use Rattle.pushdown_sym.specs.Rounds.{cell, given_atoms, of_each_cell, work, IsAtRest, IsReached}
use Rattle.saturation.specs.Histories.{Change, place_from, place_after, AreInOrder, IsHistory}
use Rattle.saturation.specs.Waking.{CellName, Fits, AreReaders}
use Rattle.saturation.specs.Saturation.{Histories, empty, IsChange, IsRound, AreChanges}
use Rattle.saturation.proofs.HistoryLemmas.{place_from-push}
use Rattle.saturation.proofs.SkipLemmas.{skipped}
use Rattle.saturation.proofs.BudgetLemmas.{work_later}

-- ### a cell is among the changes or is not

pub same_name : (i b j a : ℕ) → (◌≡◌ {A = CellName} (i, b) (j, a)) ⊎ ((◌≡◌ {A = CellName} (i, b) (j, a)) → ⊥)
same_name i b j a = elim (cases_order i j) [
  | inr apart ↦ inr (λ same. let kinds : i ≡ j = ap (λ (c : CellName). c.0) same in elim apart [ inl less ↦ omega arith | inr more ↦ omega arith ])
  | inl kinds ↦ elim (cases_order b a) [
    | inl atoms ↦ inl (λ n. (kinds n, atoms n))
    | inr apart ↦ inr (λ same. let atoms : b ≡ a = ap (λ (c : CellName). c.1) same in elim apart [ inl less ↦ omega arith | inr more ↦ omega arith ])
  ]
]

pub is_listed : (cs : List CellName) (j a : ℕ) → Contains cs (j, a) ⊎ (Contains cs (j, a) → ⊥)
is_listed [] j a = inr (λ there. Contains-none (j, a) there)
is_listed (c ∷ cs) j a = elim (same_name j a c.0 c.1) [
  | inl here ↦ inl (Contains-here (j, a) c cs here)
  | inr other ↦ elim (is_listed cs j a) [
    | inl behind ↦ inl (Contains-behind (j, a) c cs behind)
    | inr none ↦ inr (λ there. elim ((Contains-cons (j, a) c cs).0 there) [ inl here ↦ other here | inr behind ↦ none behind ])
  ]
]

pub is_changed : (changes : List (CellName × Reference)) (j a : ℕ) → ((f : Reference) × Contains changes ((j, a), f)) ⊎ ((f : Reference) → Contains changes ((j, a), f) → ⊥)
is_changed [] j a = inr (λ f there. Contains-none {X = CellName × Reference} ((j, a), f) there)
is_changed (c ∷ cs) j a = elim (same_name j a c.0.0 c.0.1) [
  | inl here ↦ inl (c.1, Contains-here {X = CellName × Reference} ((j, a), c.1) c cs (λ n. (here n, c.1)))
  | inr other ↦ elim (is_changed cs j a) [
    | inl behind ↦ inl (behind.0, Contains-behind {X = CellName × Reference} ((j, a), behind.0) c cs behind.1)
    | inr none ↦ inr (λ f there. elim ((Contains-cons {X = CellName × Reference} ((j, a), f) c cs).0 there) [
      | inl here ↦ other (ap (λ (e : CellName × Reference). e.0) here)
      | inr behind ↦ none f behind
    ])
  ]
]

-- ### a history goes on

pub all_one : {X : Type 0} (P : X → Type 0) (x : X) → P x → All P (x ∷ [])
all_one P x holds = All-from_Contains P (x ∷ []) (λ e there. elim ((Contains-cons e x []).0 there) [ inl same ↦ subst P (sym same) holds | inr none ↦ absurd (Contains-none e none) ])

order_push : (cs : List Change) (d : Change) → AreInOrder cs → All (λ c. c.0 < d.0) cs → AreInOrder (cs ++ d ∷ [])
order_push [] d order before = (λ k e less. absurd (omega arith), tt)
order_push (c ∷ cs) d order before = (
  All-append (λ (e : Change). c.0 < e.0) cs (d ∷ []) order.0 (all_one (λ (e : Change). c.0 < e.0) d (All-head (λ (e : Change). e.0 < d.0) c cs before)),
  order_push cs d order.1 (All-tail (λ (e : Change). e.0 < d.0) c cs before),
)

-- nothing changes behind the last change
pub settled : (cs : List Change) (f : Reference) (n m : ℕ) → n ≤ m → All (λ c. c.0 ≤ n) cs → place_from f cs m ≡ place_from f cs n
settled [] f n m le past = refl
settled (c ∷ cs) f n m le past =
    let here : c.0 ≤ n = All-head (λ (e : Change). e.0 ≤ n) c cs past in
    rw (le-ltb m c.0 (omega arith), le-ltb n c.0 here) (settled cs c.1 n m le (All-tail (λ (e : Change). e.0 ≤ n) c cs past))

pub place_inside : (ts : List Tree) (cs : List Change) (f : Reference) (m : ℕ) → IsIn ts f → All (λ c. IsIn ts c.1) cs → IsIn ts (place_from f cs m)
place_inside ts [] f m within each = within
place_inside ts (c ∷ cs) f m within each =
    place_inside ts cs (place_from f (c ∷ []) m) m
    (elim (cases_lt m c.0) [
      | inl early ↦ rw (lt-ltb m c.0 early) within
      | inr late ↦ rw (le-ltb m c.0 late) (All-head (λ (c : Change). IsIn ts c.1) c cs each)
    ])
    (All-tail (λ (c : Change). IsIn ts c.1) c cs each)

module _ (s : System) (ts us : List Tree) (stays : StartsWith ts us) (k : ℕ) (history : List Change) (j a : ℕ) (told : IsHistory s ts k history j a) where
  place_then : (m : ℕ) → m ≤ k → tree_at us (place_after s j a history m) ≡ cell s m j a
  place_then m le = tree_at-further ts us (place_after s j a history m) stays (place_inside ts history _ m tt told.inside) ∙ told.cells m le

  -- the same in a larger arena
  pub history_further : IsHistory s us k history j a
  history_further = record {
    order = told.order;
    past = told.past;
    inside = λ i d within. IsIn-further ts us _ stays (told.inside i d within);
    cells = place_then;
  }

  pub history_kept : cell s (suc k) j a ≡ cell s k j a → IsHistory s us (suc k) history j a
  history_kept same = record {
    order = told.order;
    past = λ i d within. let before = told.past i d within in omega arith;
    inside = λ i d within. IsIn-further ts us _ stays (told.inside i d within);
    cells = λ m le. elim (cases_lt k m) [
      | inr within ↦ place_then m within
      | inl past ↦
          let last : suc k ≡ m = omega arith in
          subst (λ z. tree_at us (place_after s j a history z) ≡ cell s z j a) last
          (ap (tree_at us) (settled history _ k (suc k) (omega arith) told.past) ∙ place_then k (omega arith) ∙ sym same)
    ];
  }

  pub history_pushed : (f : Reference) → IsIn us f → tree_at us f ≡ cell s (suc k) j a → IsHistory s us (suc k) (history ++ (suc k, f) ∷ []) j a
  history_pushed f inside tree = record {
    order = order_push history (suc k, f) told.order (λ i d within. let before = told.past i d within in omega arith);
    past = All-append (λ (c : Change). c.0 ≤ suc k) history ((suc k, f) ∷ []) (λ i d within. let before = told.past i d within in omega arith) (all_one (λ (c : Change). c.0 ≤ suc k) (suc k, f) (omega arith));
    inside = All-append (λ (c : Change). IsIn us c.1) history ((suc k, f) ∷ []) (λ i d within. IsIn-further ts us _ stays (told.inside i d within)) (all_one (λ (c : Change). IsIn us c.1) (suc k, f) inside);
    cells = λ m le. elim (cases_lt k m) [
      | inr within ↦ rw (place_from-push history _ (suc k, f) m, lt-ltb m (suc k) (omega arith)) (place_then m within)
      | inl past ↦
          let last : suc k ≡ m = omega arith in
          subst (λ z. tree_at us (place_after s j a (history ++ (suc k, f) ∷ []) z) ≡ cell s z j a) last
          (rw (place_from-push history _ (suc k, f) (suc k), le-ltb (suc k) (suc k) (omega arith)) tree)
    ];
  }

-- ### the invariant goes on

change_further : (s : System) (ts us : List Tree) (m : ℕ) → StartsWith ts us → IsChange s ts (length s.kinds) MOST_ATOMS m → IsChange s us (length s.kinds) MOST_ATOMS m
change_further s ts us m stays c = record {
  kind = c.kind;
  atom = c.atom;
  place = c.place;
  kind_below = c.kind_below;
  atom_below = c.atom_below;
  inside = IsIn-further ts us c.place stays c.inside;
  tree = tree_at-further ts us c.place stays c.inside ∙ c.tree;
  differs = c.differs;
}

module _ (s : System) (sound : IsSound s) (atoms : (a : ℕ) → Contains (given_atoms s) a → a < MOST_ATOMS) (nodes k : ℕ) (old new : Arena) (before : Histories)
    (todo next : List CellName) (changes : List (CellName × Reference))
    (round : IsRound s nodes k old before todo) (done : AreChanges s k old new todo changes) where
  -- what is not among the changes stays
  pub stays_same : (j a : ℕ) → j < length s.kinds → ((f : Reference) → Contains changes ((j, a), f) → ⊥) → cell s (suc k) j a ≡ cell s k j a
  stays_same j a kind none = elim (round.others j a kind) [
    | inr same ↦ same
    | inl listed ↦ elim (done.others j a listed) [ inl there ↦ absurd (none there.0 there.1) | inr same ↦ same ]
  ]

  -- where nothing changed, the round is at rest
  pub at_rest : changes ≡ [] → IsAtRest s k
  at_rest none j a kind = stays_same j a kind (λ f there. Contains-none {X = CellName × Reference} ((j, a), f) (subst (λ (cs : List (CellName × Reference)). Contains cs ((j, a), f)) none there))

  change_here : (c : CellName × Reference) → Contains changes c → IsChange s new.branches (length s.kinds) MOST_ATOMS k
  change_here c there =
      let listed = All-contains (λ (c : CellName × Reference). Contains todo c.0) changes c done.listed there in
      let fits = All-contains (Fits s) todo c.0 round.cells listed in
      record {
        kind = c.0.0;
        atom = c.0.1;
        place = c.1;
        kind_below = fits.0;
        atom_below = atoms c.0.1 fits.1;
        inside = All-contains (λ (c : CellName × Reference). IsIn new.branches c.1) changes c done.inside there;
        tree = All-contains (λ (c : CellName × Reference). tree_at new.branches c.1 ≡ cell s (suc k) c.0.0 c.0.1) changes c done.trees there;
        differs = All-contains (λ (c : CellName × Reference). cell s (suc k) c.0.0 c.0.1 ≢ cell s k c.0.0 c.0.1) changes c done.differ there;
      }

  pub next_round : (after : Histories) → ((j a : ℕ) → j < length s.kinds → IsHistory s new.branches (suc k) (after j a) j a)
      → (c : CellName × Reference) → Contains changes c → AreReaders s (cell s (suc k)) changes next → IsRound s nodes (suc k) new after next
  next_round after told c first reads = record {
    told = told;
    others = λ j a kind. elim (is_listed next j a) [
      | inl listed ↦ inl listed
      | inr unlisted ↦ inr (skipped s sound k j a kind (λ i b other read.
          stays_same i b other (λ f there. unlisted (reads.readers i b j a f there kind read))))
    ];
    cells = reads.cells;
    changed = λ m less. elim (cases_lt m k) [
      | inl earlier ↦ change_further s old.branches new.branches m done.brings.stays (round.changed m earlier)
      | inr here ↦ subst (λ z. IsChange s new.branches (length s.kinds) MOST_ATOMS z) {x = k} (omega arith) (change_here c first)
    ];
    work = brings_then (empty nodes) old new (of_each_cell s (partial_results s (cell s k))) (work s (suc k))
        (covered_right (work s k) (of_each_cell s (partial_results s (cell s k)))) (work_later s k nodes old round.work) done.brings;
  }

  -- each round so far changed something, so this one is reached
  pub reached : IsReached s (suc k)
  reached m less rest = let c = round.changed m (omega arith) in c.differs (rest c.kind c.atom c.kind_below)

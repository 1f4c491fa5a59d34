-- Which cells are among those that are calculated again.
use Rattle.std.proofs.Common.{◌≡◌, ◌≢◌, ◌⊎◌, ℕ, ◌+◌, ◌<◌, ◌≤◌, Bool, true, false, List, [], ◌∷◌, ◌++◌, take, length, ◌&&◌, slice_get, Some, append_assoc, append-nil, get_or, nat_eq, All, Contains, refl, sym, ap, subst, ◌∙◌, arith, inl, inr}
use Rattle.std.proofs.lemmas.Bool.{cases_lt, both_ways, eqb-true, and_parts}
use Rattle.std.proofs.lemmas.List.{take_all, map-append, get_or_past}
use Rattle.std.specs.Cmp.{IsEquivalence}
use Rattle.std.specs.List.Retain.{IsFiltered, DiffersFromLast}
use Rattle.std.proofs.lemmas.Cmp.{nat_eq_equiv, on_equiv, and_equiv}
use Rattle.std.specs.List.Sorted.{IsSorted, IsStrictlySortedBy}
use Rattle.std.specs.Ordering.{eq_by_cmp, nat_cmp}
use Rattle.std.specs.Cmp.{IsTotalOrder, nat_cmp_total, on_total, then_total, both_tied, unsigned_ties}
use Rattle.std.proofs.lemmas.List.Filters.{dedup_is}
use Rattle.std.proofs.lemmas.List.Kept.{Contains-dedup, Contains-from_dedup, IsStrictlySortedBy-dedup}
use Rattle.std.proofs.lemmas.List.Elements.{All-contains, All-append, Contains-append_left, Contains-append_right, Contains-append_cases}
use Rattle.std.proofs.lemmas.List.Concat.{flat_map-append}
use Rattle.tp_base.proofs.ClassLemmas.{has_class-Contains}
use Rattle.tp_base.proofs.Rising.{Contains-here, Contains-none, All-from_Contains}
use Rattle.tp_base.proofs.Lists.{take_next, Contains-flat_map, flat_map-Contains}
use Rattle.tree_sem.proofs.NodeLemmas.{Contains-map, map-Contains}
use Rattle.class_diagrams.specs.References.{Reference, leaf_reference}
use Rattle.class_diagrams.specs.Arena.{tree_at}
use Rattle.pushdown_sym.specs.CellMap.{Entries, place_in, trees_in}
use Rattle.class_diagrams.specs.Trees.{Tree, leaf}
use Rattle.simple_core.specs.declared.rules.Link.{Link}
use Rattle.simple_core.specs.declared.rules.Spawn.{Spawn}
use Rattle.simple_core.specs.declared.system.System.{System}
use Rattle.pushdown_sym.specs.Terms.{CellTrees}
use Rattle.pushdown_sym.specs.Rounds.{given_atoms}
use Rattle.saturation.specs.Reads.{IsRead, by_rule, by_own, by_child}
use Rattle.pushdown_sym.specs.Ends.{AreEndsNoted}
use Rattle.saturation.specs.Tables.{AreReads}
use Rattle.saturation.specs.Waking.{CellName, cell_cmp, Fits, named, named_each, by_rules, by_makers, of_each, with_atom, AreAllMarked, AreMakers, AreAbove, AreSeen, AreEnds, HaveChanged, AreReaders}
use Rattle.saturation.proofs.GivenLemmas.{given_local, given_down}
use Rattle.saturation.proofs.NoteLemmas.{last_cases}
use Rattle.saturation.proofs.LoopLemmas.{all_one}

-- ### lists of cells

pub named_one : (i j a : ℕ) (atoms : List ℕ) → i ≡ j → Contains atoms a → Contains {X = CellName} (named i atoms) (j, a)
named_one i j a atoms same there = subst (λ (k : ℕ). Contains {X = CellName} (named i atoms) (k, a)) same (Contains-map {X = ℕ} {Y = CellName} (λ b. (i, b)) atoms a there)

pub one_named : (i : ℕ) (atoms : List ℕ) (c : CellName) → Contains (named i atoms) c → (c.0 ≡ i) × Contains atoms c.1
one_named i atoms c there =
    let found = map-Contains {X = ℕ} {Y = CellName} (λ b. (i, b)) atoms c there in
    (ap (λ (d : CellName). d.0) found.2, subst (λ b. Contains atoms b) (sym (ap (λ (d : CellName). d.1) found.2)) found.1)

pub named_there : (kinds atoms : List ℕ) (j a : ℕ) → Contains kinds j → Contains atoms a → Contains {X = CellName} (named_each kinds atoms) (j, a)
named_there kinds atoms j a kind there = Contains-flat_map {X = ℕ} {Y = CellName} (λ k. named k atoms) kinds j (j, a) kind (named_one j j a atoms refl there)

pub there_named : (kinds atoms : List ℕ) (c : CellName) → Contains (named_each kinds atoms) c → Contains kinds c.0 × Contains atoms c.1
there_named kinds atoms c there =
    let found = flat_map-Contains {X = ℕ} {Y = CellName} (λ k. named k atoms) kinds c there in
    let one = one_named found.0 atoms c found.2 in
    (subst (λ k. Contains kinds k) (sym one.0) found.1, one.1)

-- ### the cells that read those that changed

pub each_of_more : {X : Type 0} (f : CellName → List X) (changes : List (CellName × Reference)) (i : ℕ) (c : CellName × Reference) (now new : List X) → slice_get changes i ≡ Some c
    → now ≡ of_each f (take i changes) → new ≡ now ++ f c.0 → new ≡ of_each f (take (i + 1) changes)
each_of_more {X} f changes i c now new at before more =
    more
    ∙ ap (λ (xs : List X). xs ++ f c.0) before
    ∙ sym (ap (of_each f) (take_next changes i c at)
    ∙ flat_map-append (λ (d : CellName × Reference). f d.0) (take i changes) (c ∷ [])
    ∙ ap (λ (xs : List X). of_each f (take i changes) ++ xs) (append-nil (f c.0)))

module _ (s : System) (spawned : (c : Spawn) → Contains s.child c → c.kind < length s.kinds) (by_needs by_link makers : ℕ → List ℕ) (needed looked : List ℕ) (reads : AreReads s by_needs by_link makers needed looked)
    (before now : CellTrees) (changes : List (CellName × Reference)) (below : All (λ c. c.0.0 < length s.kinds) changes) (changed_from : HaveChanged s before now changes)
    (cells : List CellName) (cells_are : cells ≡ of_each (by_rules by_needs) changes)
    (marks : List Bool) (marked : AreAllMarked (length s.kinds) looked changes marks)
    (pairs : List CellName) (pairs_kept : (c : CellName) → Contains (of_each (by_makers makers by_link) changes) c → Contains pairs c)
    (pairs_only : (c : CellName) → Contains pairs c → Contains (of_each (by_makers makers by_link) changes) c)
    (old_ends ends : ℕ → List ℕ) (are_ends : AreEnds s before old_ends) (noted : AreEndsNoted pairs old_ends ends)
    (more todo : List CellName) (above : AreAbove now (length s.kinds) pairs cells more) (seen : AreSeen now marks needed ends more todo) where
  changed : {X : Type 0} (f : CellName → List X) (c : CellName) (g : Reference) (x : X) → Contains changes (c, g) → Contains (f c) x → Contains (of_each f changes) x
  changed f c g x there found = Contains-flat_map (λ (d : CellName × Reference). f d.0) changes (c, g) x there found

  below_one : (d : CellName × Reference) → Contains changes d → d.0.0 < length s.kinds
  below_one d there = All-contains (λ (c : CellName × Reference). c.0.0 < length s.kinds) changes d below there

  -- what links may give by a child that changed
  pair_there : (i b : ℕ) (f : Reference) → Contains changes ((i, b), f) → (l : Link) → Contains s.down l → l.from ≡ b → (c : Spawn) → Contains s.child c → c.kind ≡ i → Contains {X = CellName} pairs (c.needs, l.to)
  pair_there i b f there l listed from c in_child kind_is = pairs_kept (c.needs, l.to) (changed (by_makers makers by_link) (i, b) f (c.needs, l.to) there
      (named_there (makers i) (by_link b) c.needs l.to (reads.spawns.whole c in_child i kind_is) (reads.child.whole l listed b from)))

  pair_link : (m a : ℕ) → Contains {X = CellName} pairs (m, a) → (l : Link) × Contains s.down l × (a ≡ l.to)
  pair_link m a there =
      let found = flat_map-Contains (λ (d : CellName × Reference). by_makers makers by_link d.0) changes (m, a) (pairs_only (m, a) there) in
      let both = there_named (makers found.0.0.0) (by_link found.0.0.1) (m, a) found.2 in
      let link = reads.child.only found.0.0.1 a both.1 in
      (link.0, link.1, link.3)

  pub ends_now : AreEnds s now ends
  ends_now = record {
    whole = λ l listed c in_child some. elim (changed_from c.kind l.from (spawned c in_child) some) [
      | inl earlier ↦ noted.kept c.needs l.to (are_ends.whole l listed c in_child earlier)
      | inr there ↦ noted.noted c.needs l.to (pair_there c.kind l.from there.0 there.1 l listed refl c in_child refl)
    ];
    only = λ m a there. elim (noted.only m a there) [ inl earlier ↦ are_ends.only m a earlier | inr pair ↦ pair_link m a pair ];
  }

  looks : (c : Spawn) → Contains s.child c → (b : ℕ) → (c.needs ≡ b) ⊎ Contains s.visible b → Contains looked b
  looks c in_child b of = elim of [
    | inl needs ↦ subst (λ x. Contains looked x) needs (reads.making c in_child)
    | inr sees ↦ reads.visible b sees
  ]

  reader : (i b j a : ℕ) (f : Reference) → Contains changes ((i, b), f) → j < length s.kinds → IsRead s now i b j a → Contains {X = CellName} todo (j, a)
  reader i b j a f there kind (by_rule r listed gives needed_there same) =
      seen.kept (j, a) (above.kept (j, a)
      (subst (λ (cs : List CellName). Contains cs (j, a)) (sym cells_are) (changed (by_rules by_needs) (i, b) f (j, a) there
      (named_one i j a (by_needs b) same (subst (λ x. Contains (by_needs b) x) gives (reads.needs.whole r listed b needed_there))))))
  reader i b j a f there kind (by_own l listed to c in_child maker child of same) =
      let mark : get_or marks i false ≡ true = marked.marked ((i, b), f) there (has_class-Contains b looked (looks c in_child b of)) (below_one ((i, b), f) there) in
      seen.whole c.needs a j (reads.all_needed c in_child) maker (subst (λ z. get_or marks z false ≡ true) same mark)
      (subst (λ x. Contains (ends c.needs) x) to (ends_now.whole l listed c in_child child))
  reader i b j a f there kind (by_child l listed to c in_child kind_is from can) =
      seen.kept (j, a) (above.whole c.needs a j (subst (λ x. Contains {X = CellName} pairs (c.needs, x)) to (pair_there i b f there l listed from c in_child kind_is)) kind can)

  link_given : (a : ℕ) → (l : Link) × Contains s.down l × (a ≡ l.to) → Contains (given_atoms s) a
  link_given a l = subst (λ x. Contains (given_atoms s) x) (sym l.2) (given_down s l.0 l.1)

  fits_ruled : (c : CellName) → Contains cells c → Fits s c
  fits_ruled c there =
      let found = flat_map-Contains (λ (d : CellName × Reference). by_rules by_needs d.0) changes c (subst (λ (cs : List CellName). Contains cs c) cells_are there) in
      let one = one_named found.0.0.0 (by_needs found.0.0.1) c found.2 in
      let r = reads.needs.only found.0.0.1 c.1 one.1 in
      (subst (λ k. k < length s.kinds) (sym one.0) (below_one found.0 found.1), subst (λ x. Contains (given_atoms s) x) (sym r.3) (given_local s r.0 r.1))

  marked_below : (j : ℕ) → get_or marks j false ≡ true → j < length s.kinds
  marked_below j is = elim (cases_lt j (length marks)) [
    | inl within ↦ omega (arith, within, marked.long)
    | inr past ↦ absurd (both_ways (get_or marks j false) (get_or_past marks j false past) is)
  ]

  fits : (c : CellName) → Contains todo c → Fits s c
  fits c there = elim (seen.only c there) [
    | inr own ↦ (marked_below c.0 own.0, link_given c.1 (ends_now.only own.1 c.1 own.2))
    | inl rest ↦ elim (above.only c rest) [
      | inl first ↦ fits_ruled c first
      | inr up ↦ (up.2, link_given c.1 (pair_link up.0 c.1 up.1))
    ]
  ]

  pub readers_are : AreReaders s now changes todo
  readers_are = record {
    readers = λ i b j a f there kind read. reader i b j a f there kind read;
    cells = All-from_Contains (Fits s) todo fits;
  }

-- the same cells in another order
pub readers_kept : (s : System) (now : CellTrees) (changes : List (CellName × Reference)) (todo sorted : List CellName) → AreReaders s now changes todo
    → ((c : CellName) → Contains todo c → Contains sorted c) → ((c : CellName) → Contains sorted c → Contains todo c) → AreReaders s now changes sorted
readers_kept s now changes todo sorted before kept only = record {
  readers = λ i b j a f there kind read. kept (j, a) (before.readers i b j a f there kind read);
  cells = All-from_Contains (Fits s) sorted (λ c there. All-contains (Fits s) todo c before.cells (only c there));
}

-- cells that agree are read by the same ones
module _ (s : System) (spawned : (c : Spawn) → Contains s.child c → c.kind < length s.kinds) (now other : CellTrees) (same : (j a : ℕ) → j < length s.kinds → now j a ≡ other j a) where
  read_same : (i b j a : ℕ) → j < length s.kinds → IsRead s other i b j a → IsRead s now i b j a
  read_same i b j a kind (by_rule r listed gives there is) = by_rule r listed gives there is
  read_same i b j a kind (by_own l listed to c in_child maker child of is) =
      by_own l listed to c in_child (λ none. maker (sym (same j c.needs kind) ∙ none)) (λ none. child (sym (same c.kind l.from (spawned c in_child)) ∙ none)) of is
  read_same i b j a kind (by_child l listed to c in_child kind_is from can) =
      by_child l listed to c in_child kind_is from (λ none. can (sym (same j c.needs kind) ∙ none))

  pub readers_same : (changes : List (CellName × Reference)) (todo : List CellName) → AreReaders s now changes todo → AreReaders s other changes todo
  readers_same changes todo before = record {
    readers = λ i b j a f there kind read. before.readers i b j a f there kind (read_same i b j a kind read);
    cells = before.cells;
  }

-- ### the kinds whose nodes may have an atom

-- one kind more
module _ (kinds : List ℕ) (i kind count : ℕ) (makers : List ℕ) (at : slice_get kinds i ≡ Some kind)
    (before : ((j : ℕ) → Contains (take i kinds) j → j < count → Contains makers j) × All (λ j. j < count) makers) where
  pub maker_pushed : kind < count → (more : List ℕ) → more ≡ makers ++ kind ∷ [] → ((j : ℕ) → Contains (take (i + 1) kinds) j → j < count → Contains more j) × All (λ j. j < count) more
  maker_pushed below more is = (
    λ j there less. subst (λ (ks : List ℕ). Contains ks j) (sym is) (elim (last_cases (take i kinds) kind j (subst (λ (ks : List ℕ). Contains ks j) (take_next kinds i kind at) there)) [
      | inl earlier ↦ Contains-append_left makers (kind ∷ []) j (before.0 j earlier less)
      | inr last ↦ Contains-append_right makers (kind ∷ []) j (Contains-here j kind [] last)
    ]),
    subst (λ (ks : List ℕ). All (λ j. j < count) ks) (sym is) (All-append (λ j. j < count) makers (kind ∷ []) before.1 (all_one (λ j. j < count) kind below)),
  )

  pub maker_skipped : count ≤ kind → ((j : ℕ) → Contains (take (i + 1) kinds) j → j < count → Contains makers j) × All (λ j. j < count) makers
  maker_skipped past = (
    λ j there less. elim (last_cases (take i kinds) kind j (subst (λ (ks : List ℕ). Contains ks j) (take_next kinds i kind at) there)) [
      | inl earlier ↦ before.0 j earlier less
      | inr last ↦ absurd (omega (arith, last, less, past))
    ],
    before.1,
  )

pub makers_are : (branches : List Tree) (cells : Entries) (count a : ℕ) (kinds makers : List ℕ) (i : ℕ) → length kinds ≤ i
    → ((j : ℕ) → place_in cells j a ≢ leaf_reference false → Contains kinds j) → ((j : ℕ) → Contains (take i kinds) j → j < count → Contains makers j) × All (λ j. j < count) makers
    → AreMakers (trees_in branches cells) count a makers
makers_are branches cells count a kinds makers i past whole all = record {
  whole = λ j less some. all.0 j
      (subst (λ (ks : List ℕ). Contains ks j) (sym (take_all i kinds past)) (whole j (λ none. some (ap (tree_at branches) none)))) less;
  below = all.1;
}

-- ### the cells of those that can make a child

pub with_atom_more : (old now new : List CellName) (atom : ℕ) (kinds : List ℕ) (i kind : ℕ) → slice_get kinds i ≡ Some kind → now ≡ old ++ with_atom atom (take i kinds) → new ≡ now ++ (kind, atom) ∷ []
    → new ≡ old ++ with_atom atom (take (i + 1) kinds)
with_atom_more old now new atom kinds i kind at before more =
    more
    ∙ ap (λ (cs : List CellName). cs ++ (kind, atom) ∷ []) before
    ∙ append_assoc old (with_atom atom (take i kinds)) ((kind, atom) ∷ [])
    ∙ ap (λ (cs : List CellName). old ++ cs) (sym (ap (with_atom atom) (take_next kinds i kind at) ∙ map-append {A = ℕ} {B = CellName} (λ k. (k, atom)) (take i kinds) (kind ∷ [])))

pub above_none : (now : CellTrees) (count : ℕ) (cells : List CellName) → AreAbove now count [] cells cells
above_none now count cells = record {
  kept = λ c there. there;
  whole = λ m a j listed kind some. absurd (Contains-none {X = CellName} (m, a) listed);
  only = λ c there. inl there;
}

module _ (now : CellTrees) (count : ℕ) (done : List CellName) (pair : CellName) (kinds : List ℕ) (makers : AreMakers now count pair.0 kinds) (old cells new : List CellName)
    (is : new ≡ cells ++ with_atom pair.1 kinds) (before : AreAbove now count done old cells) where
  earlier_there : (c : CellName) → Contains cells c → Contains new c
  earlier_there c there = subst (λ (cs : List CellName). Contains cs c) (sym is) (Contains-append_left cells (with_atom pair.1 kinds) c there)

  pub above_more : AreAbove now count (done ++ pair ∷ []) old new
  above_more = record {
    kept = λ c there. earlier_there c (before.kept c there);
    whole = λ m a j listed kind some. elim (last_cases {X = CellName} done pair (m, a) listed) [
      | inl earlier ↦ earlier_there (j, a) (before.whole m a j earlier kind some)
      | inr last ↦
          let maker : m ≡ pair.0 = ap (λ (c : CellName). c.0) last in
          let atom : a ≡ pair.1 = ap (λ (c : CellName). c.1) last in
          subst (λ (cs : List CellName). Contains cs (j, a)) (sym is) (Contains-append_right cells (with_atom pair.1 kinds) (j, a)
          (subst (λ (b : ℕ). Contains {X = CellName} (with_atom pair.1 kinds) (j, b)) (sym atom)
          (Contains-map {X = ℕ} {Y = CellName} (λ k. (k, pair.1)) kinds j (makers.whole j kind (subst (λ b. now j b ≢ leaf false) maker some)))))
    ];
    only = λ c there. elim (Contains-append_cases cells (with_atom pair.1 kinds) c (subst (λ (cs : List CellName). Contains cs c) is there)) [
      | inl earlier ↦ elim (before.only c earlier) [
        | inl first ↦ inl first
        | inr up ↦ inr (up.0, Contains-append_left done (pair ∷ []) (up.0, c.1) up.1, up.2)
      ]
      | inr last ↦
          let found = map-Contains {X = ℕ} {Y = CellName} (λ k. (k, pair.1)) kinds c last in
          let kind : c.0 ≡ found.0 = ap (λ (d : CellName). d.0) found.2 in
          let atom : c.1 ≡ pair.1 = ap (λ (d : CellName). d.1) found.2 in
          inr (
            pair.0,
            Contains-append_right done (pair ∷ []) (pair.0, c.1) (Contains-here {X = CellName} (pair.0, c.1) pair [] (λ n. (pair.0, atom n))),
            subst (λ k. k < count) (sym kind) (All-contains (λ k. k < count) kinds found.0 makers.below found.1),
          )
    ];
  }

-- ### each cell once

abbrev same_cell : CellName → CellName → Bool
same_cell x y = nat_eq x.0 y.0 && nat_eq x.1 y.1

same_cell_equiv : IsEquivalence same_cell
same_cell_equiv = and_equiv (on_equiv (λ (c : CellName). c.0) nat_eq_equiv) (on_equiv (λ (c : CellName). c.1) nat_eq_equiv)

same_is : (x y : CellName) → same_cell x y ≡ true → x ≡ y
same_is x y same =
    let both = and_parts (nat_eq x.0 y.0) (nat_eq x.1 y.1) same in
    let kinds : x.0 ≡ y.0 = eqb-true x.0 y.0 both.0 in
    let atoms : x.1 ≡ y.1 = eqb-true x.1 y.1 both.1 in
    λ n. (kinds n, atoms n)

pub once_kept : (xs ys : List CellName) → IsFiltered (DiffersFromLast same_cell) [] xs ys → (c : CellName) → Contains xs c → Contains ys c
once_kept xs ys filtered c there =
    subst (λ (zs : List CellName). Contains zs c) (sym (dedup_is same_cell xs ys filtered)) (Contains-dedup same_cell_equiv same_is xs c there)

pub once_only : (xs ys : List CellName) → IsFiltered (DiffersFromLast same_cell) [] xs ys → (c : CellName) → Contains ys c → Contains xs c
once_only xs ys filtered c there =
    Contains-from_dedup same_cell xs c (subst (λ (zs : List CellName). Contains zs c) (dedup_is same_cell xs ys filtered) there)

cell_total : IsTotalOrder cell_cmp
cell_total = then_total (on_total (λ (c : CellName). c.0) nat_cmp_total) (on_total (λ (c : CellName). c.1) nat_cmp_total)

same_tied : (x y : CellName) → same_cell x y ≡ eq_by_cmp cell_cmp x y
same_tied x y = both_tied (nat_eq x.0 y.0) (nat_eq x.1 y.1) (nat_cmp x.0 y.0) (nat_cmp x.1 y.1) (unsigned_ties x.0 y.0) (unsigned_ties x.1 y.1)

pub once_ordered : (xs ys : List CellName) → IsFiltered (DiffersFromLast same_cell) [] xs ys → IsSorted cell_cmp xs → IsStrictlySortedBy cell_cmp ys
once_ordered xs ys filtered order =
    subst (IsStrictlySortedBy cell_cmp) (sym (dedup_is same_cell xs ys filtered)) (IsStrictlySortedBy-dedup cell_total same_tied xs order)

-- The list of the nodes is cut in two by each of them: what comes before it, and what comes after it.
use Rattle.std.proofs.Common.{◌≡◌, ◌⊎◌, ℕ, zero, suc, ◌+◌, ◌-◌, List, [], ◌∷◌, ◌++◌, length, map, All, AllPairs, slice_get, Contains, Some, None, IsSome, option_map, option_and_then, unwrap_or, refl, sym, ap, ◌∙◌, subst, inl, inr, append_assoc, arith}
use Rattle.std.proofs.lemmas.Bool.{cases_order}
use Rattle.std.proofs.lemmas.List.{map-append}
use Rattle.std.proofs.lemmas.List.Kept.{AllPairs-cons}
use Rattle.std.proofs.lemmas.List.Elements.{All-append, All-map, All-weaker, Contains-append_left, Contains-append_right, Contains-append_cases}
use Rattle.tp_base.proofs.Rising.{Contains-here, Contains-behind, All-from_Contains}
use Rattle.tree_sem.specs.Trees.{Row, no_nodes, node, LabelTree, tree_of, node_at}
use Rattle.tree_sem.specs.Order.{Before, paths_from, paths_of, trees_after, rest_of}
use Rattle.tree_sem.proofs.NodeLemmas.{Contains-map, map-Contains, Contains-paths_from, paths_from-Contains}

-- the order is one: nothing comes before itself, and of two paths one comes first
pub Before-irreflexive : (v : List ℕ) → Before v v → ⊥
Before-irreflexive [] b = b
Before-irreflexive (k ∷ v) b = elim b [ inl lt ↦ omega arith | inr deeper ↦ Before-irreflexive v deeper.1 ]

pub Before-transitive : (u v w : List ℕ) → Before u v → Before v w → Before u w
Before-transitive u [] w a b = elim a [ ]
Before-transitive u (l ∷ v) [] a b = b
Before-transitive [] (l ∷ v) (m ∷ w) a b = tt
Before-transitive (k ∷ u) (l ∷ v) (m ∷ w) a b = elim a [
  | inl lt ↦ elim b [
    | inl lt' ↦ inl (omega arith)
    | inr deeper' ↦ let same : l ≡ m = deeper'.0 in inl (omega arith)
  ]
  | inr deeper ↦ elim b [
    | inl lt' ↦ let same : k ≡ l = deeper.0 in inl (omega arith)
    | inr deeper' ↦ inr (deeper.0 ∙ deeper'.0, Before-transitive u v w deeper.1 deeper'.1)
  ]
]

pub Before-total : (v w : List ℕ) → (v ≡ w) ⊎ Before v w ⊎ Before w v
Before-total [] [] = inl refl
Before-total [] (l ∷ w) = inr (inl tt)
Before-total (k ∷ v) [] = inr (inr tt)
Before-total (k ∷ v) (l ∷ w) = elim (cases_order k l) [
  | inr (inl less) ↦ inr (inl (inl less))
  | inr (inr more) ↦ inr (inr (inl more))
  | inl same ↦ elim (Before-total v w) [
    | inl rest ↦ inl (λ i. same i ∷ rest i)
    | inr (inl before) ↦ inr (inl (inr (same, before)))
    | inr (inr after) ↦ inr (inr (inr (sym same, after)))
  ]
]

-- what was listed before v
pub record IsCutAt (t : LabelTree) (v : List ℕ) : Type 0 where
  pub done : List (List ℕ)
  pub cut : paths_of t ≡ done ++ v ∷ rest_of v t

pub record IsRowCutAt (f : Row) (d k c : ℕ) (q : List ℕ) (s : LabelTree) : Type 0 where
  pub done : List (List ℕ)
  pub cut : paths_from d f ≡ done ++ (c ∷ q) ∷ (map (λ r. c ∷ r) (rest_of q s) ++ paths_from (suc c) (trees_after f k))

cut_below : (d : ℕ) (ps done rest later : List (List ℕ)) (q : List ℕ) → ps ≡ done ++ q ∷ rest
    → map (λ p. d ∷ p) ps ++ later ≡ map (λ p. d ∷ p) done ++ (d ∷ q) ∷ (map (λ p. d ∷ p) rest ++ later)
cut_below d ps done rest later q is =
    rw (is, map-append (λ (p : List ℕ). d ∷ p) done (q ∷ rest)) (append_assoc (map (λ (p : List ℕ). d ∷ p) done) (map (λ (p : List ℕ). d ∷ p) (q ∷ rest)) later)

cut_later : (before ps done rest : List (List ℕ)) → ps ≡ done ++ rest → before ++ ps ≡ (before ++ done) ++ rest
cut_later before ps done rest is = rw is (sym (append_assoc before done rest))

row_cut : (f : Row) (d k c : ℕ) (q : List ℕ) (s : LabelTree) → c ≡ k + d → tree_of f k ≡ Some s → IsSome (node_at q s) → IsRowCutAt f d k c q s
row_cut no_nodes d k c q s number at is = cc
row_cut (node l below next) d zero c q s number at is =
    let first : LabelTree = record { label = l; below = below } in
    let same : first ≡ s = cc in
    let is' : IsSome (node_at q first) = subst (λ (z : LabelTree). IsSome (node_at q z)) (sym same) is in
    let inner : IsCutAt first q =
    elim q as (λ q. IsSome (node_at q first) → IsCutAt first q) [
      | [] ↦ λ is. record { done = []; cut = refl }
      | m ∷ r ↦ λ is.
          elim (tree_of below m) as (λ o. tree_of below m ≡ o → IsSome (option_and_then (node_at r) o) → IsCutAt first (m ∷ r)) [
            | None ↦ λ e is. cc
            | Some u ↦ λ e is. let there = row_cut below 0 m m r u (omega arith) e is in record { done = [] ∷ there.done; cut = ap (λ z. [] ∷ z) (there.cut ∙ rw e) }
          ] refl is
    ] is' in
    let at_d : IsRowCutAt (node l below next) d zero d q first =
    record {
      done = map (λ (p : List ℕ). d ∷ p) inner.done;
      cut = cut_below d (paths_of first) inner.done (rest_of q first) (paths_from (suc d) next) q inner.cut;
    } in
    subst (λ (z : LabelTree). IsRowCutAt (node l below next) d zero c q z) same (subst (λ e. IsRowCutAt (node l below next) d zero e q first) {x = d} (omega arith) at_d)
row_cut (node l below next) d (suc k) c q s number at is =
    let there = row_cut next (suc d) k c q s (omega arith) at is in
    record {
      done = map (λ (p : List ℕ). d ∷ p) ([] ∷ paths_from 0 below) ++ there.done;
      cut = cut_later (map (λ (p : List ℕ). d ∷ p) ([] ∷ paths_from 0 below)) (paths_from (suc d) next) there.done ((c ∷ q) ∷ (map (λ (r : List ℕ). c ∷ r) (rest_of q s) ++ paths_from (suc c) (trees_after next k))) there.cut;
    }

-- each node cuts the list
pub paths_of-cut : (t : LabelTree) (v : List ℕ) → IsSome (node_at v t) → IsCutAt t v
paths_of-cut t [] is = record { done = []; cut = refl }
paths_of-cut t (m ∷ r) is =
    elim (tree_of t.below m) as (λ o. tree_of t.below m ≡ o → IsSome (option_and_then (node_at r) o) → IsCutAt t (m ∷ r)) [
      | None ↦ λ e is. cc
      | Some u ↦ λ e is. let there = row_cut t.below 0 m m r u (omega arith) e is in record { done = [] ∷ there.done; cut = ap (λ z. [] ∷ z) (there.cut ∙ rw e) }
    ] refl is

tree_of-trees_after : (f : Row) (k m : ℕ) → tree_of (trees_after f k) m ≡ tree_of f (suc (m + k))
tree_of-trees_after no_nodes k m = refl
tree_of-trees_after (node l below next) zero m = ap (λ j. tree_of next j) (omega arith)
tree_of-trees_after (node l below next) (suc k) m = tree_of-trees_after next k m ∙ ap (λ j. tree_of next j) (omega arith)

-- what comes after v are the nodes that it is before
pub Contains-rest_of : (v : List ℕ) (t : LabelTree) (w : List ℕ) → IsSome (node_at v t) → IsSome (node_at w t) → Before v w → Contains (rest_of v t) w
Contains-rest_of v t [] here is b = elim b [ ]
Contains-rest_of [] t (l ∷ w) here is b =
    elim (tree_of t.below l) as (λ o. tree_of t.below l ≡ o → IsSome (option_and_then (node_at w) o) → Contains (paths_from 0 t.below) (l ∷ w)) [
      | None ↦ λ e is. cc
      | Some u ↦ λ e is. Contains-paths_from t.below 0 l l w u (omega arith) e is
    ] refl is
Contains-rest_of (k ∷ v) t (l ∷ w) here is b =
    let inner = map (λ (q : List ℕ). k ∷ q) (unwrap_or (option_map (rest_of v) (tree_of t.below k)) []) in
    let later = paths_from (suc k) (trees_after t.below k) in
    elim b [
      | inl lt ↦
          elim (tree_of t.below l) as (λ o. tree_of t.below l ≡ o → IsSome (option_and_then (node_at w) o) → Contains (inner ++ later) (l ∷ w)) [
            | None ↦ λ e is. cc
            | Some u ↦ λ e is.
                let at : tree_of (trees_after t.below k) (l - suc k) ≡ Some u = tree_of-trees_after t.below k (l - suc k) ∙ ap (λ j. tree_of t.below j) (omega arith) ∙ e in
                Contains-append_right inner later (l ∷ w) (Contains-paths_from (trees_after t.below k) (suc k) (l - suc k) l w u (omega arith) at is)
          ] refl is
      | inr deeper ↦
          let same : l ≡ k = sym deeper.0 in
          let is' : IsSome (node_at (k ∷ w) t) = subst (λ q. IsSome (node_at (q ∷ w) t)) same is in
          subst (λ q. Contains (inner ++ later) (q ∷ w)) deeper.0 (Contains-append_left inner later (k ∷ w) (Contains-map (λ (q : List ℕ). k ∷ q) (unwrap_or (option_map (rest_of v) (tree_of t.below k)) []) w
          (elim (tree_of t.below k) as (λ o. IsSome (option_and_then (node_at v) o) → IsSome (option_and_then (node_at w) o) → Contains (unwrap_or (option_map (rest_of v) o) []) w) [
            | None ↦ λ here is. cc
            | Some u ↦ λ here is. Contains-rest_of v u w here is deeper.1
          ] here is')))
    ]

pub rest_of-Contains : (v : List ℕ) (t : LabelTree) (w : List ℕ) → IsSome (node_at v t) → Contains (rest_of v t) w → IsSome (node_at w t) × Before v w
rest_of-Contains [] t w here is =
    let found = paths_from-Contains t.below 0 w is in
    let at : tree_of t.below found.c ≡ Some found.tree = subst (λ q. tree_of t.below q ≡ Some found.tree) {x = found.k} (omega (arith, found.number)) found.here in
    subst (λ q. IsSome (node_at q t) × Before [] q) (sym found.split) (rw at found.node, tt)
rest_of-Contains (k ∷ v) t w here is =
    let inner = map (λ (q : List ℕ). k ∷ q) (unwrap_or (option_map (rest_of v) (tree_of t.below k)) []) in
    let later = paths_from (suc k) (trees_after t.below k) in
    elim (Contains-append_cases inner later w is) [
      | inl deeper ↦
          let path = map-Contains (λ (q : List ℕ). k ∷ q) (unwrap_or (option_map (rest_of v) (tree_of t.below k)) []) w deeper in
          let both = elim (tree_of t.below k) as (λ o. IsSome (option_and_then (node_at v) o) → Contains (unwrap_or (option_map (rest_of v) o) []) path.0 → IsSome (option_and_then (node_at path.0) o) × Before v path.0) [
            | None ↦ λ here is. cc
            | Some u ↦ λ here is. rest_of-Contains v u path.0 here is
          ] here path.1 in
          subst (λ q. IsSome (node_at q t) × Before (k ∷ v) q) (sym path.2) (both.0, inr (refl, both.1))
      | inr after ↦
          let found = paths_from-Contains (trees_after t.below k) (suc k) w after in
          let at : tree_of t.below found.c ≡ Some found.tree =
          ap (λ j. tree_of t.below j) (omega (arith, found.number)) ∙ sym (tree_of-trees_after t.below k found.k) ∙ found.here in
          subst (λ q. IsSome (node_at q t) × Before (k ∷ v) q) (sym found.split) (rw at found.node, inl (omega (arith, found.number)))
    ]

-- each path comes before all that are listed after it
abbrev Rises : List (List ℕ) → Type 0
Rises [] = Unit {0}
Rises (v ∷ vs) = All (Before v) vs × Rises vs

rises_both : (xs ys : List (List ℕ)) → Rises xs → Rises ys → ((x y : List ℕ) → Contains xs x → Contains ys y → Before x y) → Rises (xs ++ ys)
rises_both [] ys a b cross = b
rises_both (x ∷ xs) ys a b cross =
    (All-append (Before x) xs ys a.0 (All-from_Contains (Before x) ys (λ y there. cross x y (Contains-here x x xs refl) there)), rises_both xs ys a.1 b (λ z y there. cross z y (Contains-behind z x xs there)))

rises_under : (k : ℕ) (vs : List (List ℕ)) → Rises vs → Rises (map (λ q. k ∷ q) vs)
rises_under k [] a = tt
rises_under k (v ∷ vs) a =
    (All-map (Before (k ∷ v)) (λ (q : List ℕ). k ∷ q) vs (All-weaker (Before v) (λ q. Before (k ∷ v) (k ∷ q)) (λ q b. inr (refl, b)) vs a.0), rises_under k vs a.1)

rises_from : (f : Row) (d : ℕ) → Rises (paths_from d f)
rises_from no_nodes d = tt
rises_from (node l below next) d =
    let first : LabelTree = record { label = l; below = below } in
    let inner : Rises (paths_of first) = (All-from_Contains (Before []) (paths_from 0 below) (λ v there. let found = paths_from-Contains below 0 v there in subst (Before []) (sym found.split) tt), rises_from below 0) in
    rises_both (map (λ (q : List ℕ). d ∷ q) (paths_of first)) (paths_from (suc d) next) (rises_under d (paths_of first) inner) (rises_from next (suc d))
    (λ x y here there.
    let path = map-Contains (λ (q : List ℕ). d ∷ q) (paths_of first) x here in
    let found = paths_from-Contains next (suc d) y there in
    subst (λ z. Before z y) (sym path.2) (subst (λ z. Before (d ∷ path.0) z) (sym found.split) (inl (omega (arith, found.number)))))

all_pairs : (vs : List (List ℕ)) → Rises vs → AllPairs Before vs
all_pairs [] a = λ i j d lt within. absurd (omega arith)
all_pairs (v ∷ vs) a = AllPairs-cons Before v vs a.0 (all_pairs vs a.1)

-- the list is in order
pub AllPairs-paths_of : (t : LabelTree) → AllPairs Before (paths_of t)
AllPairs-paths_of t =
    all_pairs (paths_of t)
    (All-from_Contains (Before []) (paths_from 0 t.below) (λ v there. let found = paths_from-Contains t.below 0 v there in subst (Before []) (sym found.split) tt), rises_from t.below 0)

slice_get-behind : (done rest : List (List ℕ)) (j k : ℕ) → j ≡ length done + k → slice_get (done ++ rest) j ≡ slice_get rest k
slice_get-behind [] rest j k at = ap (slice_get rest) (omega arith)
slice_get-behind (x ∷ done) rest zero k at = absurd (omega arith)
slice_get-behind (x ∷ done) rest (suc j) k at = slice_get-behind done rest j k (omega arith)

-- a node's place in the list, and the place of what comes next
pub slice_get-paths_of : (t : LabelTree) (v : List ℕ) (cut : IsCutAt t v) → slice_get (paths_of t) (length cut.done) ≡ Some v
slice_get-paths_of t v cut = rw cut.cut (slice_get-behind cut.done (v ∷ rest_of v t) (length cut.done) 0 (omega arith))

pub slice_get-paths_of_next : (t : LabelTree) (v w : List ℕ) (cut : IsCutAt t v) → rest_of v t ≡ w ∷ rest_of w t → slice_get (paths_of t) (length cut.done + 1) ≡ Some w
slice_get-paths_of_next t v w cut next = rw (cut.cut, next) (slice_get-behind cut.done (v ∷ w ∷ rest_of w t) (length cut.done + 1) 1 refl)

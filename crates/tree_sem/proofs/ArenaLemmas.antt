-- What a table of nodes says of its tree.
use Rattle.std.proofs.Common.{◌≡◌, ◌≢◌, ◌⊎◌, ℕ, zero, suc, ◌+◌, ◌≤◌, List, [], ◌∷◌, ◌++◌, length, Option, Some, None, option_map, option_and_then, slice_get, reverse, refl, sym, ap, ◌∙◌, subst, inl, inr, arith}
use Rattle.std.proofs.lemmas.List.{reverse-append, reverse-reverse}
use Rattle.tree_sem.specs.Trees.{node, LabelTree, tree_of, edit_tree, node_at, edit_at, push_tree, length_of}
use Rattle.tree_sem.specs.Arena.{row_by, tree_to, place_from, IsArena}

-- two functions that agree on the numbers give the same trees
pub row_by-same : (f g : ℕ → LabelTree) (cs : List ℕ) → ((k c : ℕ) → slice_get cs k ≡ Some c → f c ≡ g c) → row_by f cs ≡ row_by g cs
row_by-same f g [] same = refl
row_by-same f g (c ∷ cs) same =
    let first : f c ≡ g c = same 0 c refl in
    let rest = row_by-same f g cs (λ k d at. same (suc k) d at) in
    λ i. node (first i).label (first i).below (rest i)

pub tree_of-row_by : (f : ℕ → LabelTree) (cs : List ℕ) (k : ℕ) → tree_of (row_by f cs) k ≡ option_map f (slice_get cs k)
tree_of-row_by f [] k = refl
tree_of-row_by f (c ∷ cs) zero = refl
tree_of-row_by f (c ∷ cs) (suc k) = tree_of-row_by f cs k

-- where h takes f's tree of the number at place k to g's, and f and g agree on the others, an edit of the trees of f gives those of g
pub edit_tree-row_by : (f g : ℕ → LabelTree) (h : LabelTree → LabelTree) (cs : List ℕ) (k c : ℕ) → slice_get cs k ≡ Some c → g c ≡ h (f c)
    → ((l d : ℕ) → l ≢ k → slice_get cs l ≡ Some d → g d ≡ f d) → row_by g cs ≡ edit_tree h (row_by f cs) k
edit_tree-row_by f g h [] k c at is others = cc
edit_tree-row_by f g h (d ∷ cs) zero c at is others =
    let same : d ≡ c = cc in
    let first : g d ≡ h (f d) = rw same is in
    let rest = row_by-same g f cs (λ l e there. others (suc l) e (λ z. cc) there) in
    λ i. node (first i).label (first i).below (rest i)
edit_tree-row_by f g h (d ∷ cs) (suc k) c at is others =
    let first : g d ≡ f d = others 0 d (λ z. cc) refl in
    let rest = edit_tree-row_by f g h cs k c at is (λ l e ne there. others (suc l) e (λ z. ne (cc)) there) in
    λ i. node (first i).label (first i).below (rest i)

pub length_of-row_by : (f : ℕ → LabelTree) (cs : List ℕ) → length_of (row_by f cs) ≡ length cs
length_of-row_by f [] = refl
length_of-row_by f (c ∷ cs) = ap suc (length_of-row_by f cs)

pub row_by-push : (f : ℕ → LabelTree) (cs : List ℕ) (c : ℕ) → row_by f (cs ++ c ∷ []) ≡ push_tree (row_by f cs) (f c)
row_by-push f [] c = refl
row_by-push f (d ∷ cs) c = ap (λ rest. node (f d).label (f d).below rest) (row_by-push f cs c)

module _ (label kids : ℕ → List ℕ) (parent : ℕ → Option ℕ) (n : ℕ) (arena : IsArena n kids parent) where
  -- levels past the last change nothing
  pub deep_enough : (a b i : ℕ) → n ≤ arena.depth i + a → n ≤ arena.depth i + b → tree_to label kids a i ≡ tree_to label kids b i
  deep_enough zero b i la lb = absurd (omega (arith, arena.shallow i))
  deep_enough (suc a) zero i la lb = absurd (omega (arith, arena.shallow i))
  deep_enough (suc a) (suc b) i la lb =
      let below = row_by-same (tree_to label kids a) (tree_to label kids b) (kids i) (λ k c at.
      let deeper = arena.deeper i k c at in
      deep_enough a b c (omega (arith, deeper)) (omega (arith, deeper))) in
      ap (λ f. record { label = label i; below = f }) below

  -- the tree of a node is its label over its children's trees
  pub unrolled : (i : ℕ) → tree_to label kids n i ≡ record { label = label i; below = row_by (tree_to label kids n) (kids i) }
  unrolled = by n refl
    where
      by : (m : ℕ) → m ≡ n → (i : ℕ) → tree_to label kids m i ≡ record { label = label i; below = row_by (tree_to label kids n) (kids i) }
      by zero e i = absurd (omega (arith, arena.shallow i))
      by (suc m) e i =
          ap (λ f. record { label = label i; below = f }) (row_by-same (tree_to label kids m) (tree_to label kids n) (kids i) (λ k c at.
          let deeper = arena.deeper i k c at in
          deep_enough m n c (omega (arith, deeper)) (omega arith)))

  -- the node at a path is the one that the table finds there
  pub node_at-tree_to : (p : List ℕ) (i : ℕ) → node_at p (tree_to label kids n i) ≡ option_map (tree_to label kids n) (place_from kids i p)
  node_at-tree_to [] i = refl
  node_at-tree_to (k ∷ p) i =
      rw (unrolled i, tree_of-row_by (tree_to label kids n) (kids i) k)
      (elim (slice_get (kids i) k)
      as (λ o. slice_get (kids i) k ≡ o → option_and_then (node_at p) (option_map (tree_to label kids n) o) ≡ option_map (tree_to label kids n) (option_and_then (λ c. place_from kids c p) o)) [
        | None ↦ λ e. refl
        | Some c ↦ λ e. node_at-tree_to p c
      ] refl)

  -- each number of a path is one level
  pub place_depth : (p : List ℕ) (i j : ℕ) → place_from kids i p ≡ Some j → arena.depth j ≡ arena.depth i + length p
  place_depth [] i j at = let e : i ≡ j = cc in let same = ap arena.depth e in omega (arith, same)
  place_depth (k ∷ p) i j at =
      elim (slice_get (kids i) k) as (λ o. slice_get (kids i) k ≡ o → option_and_then (λ c. place_from kids c p) o ≡ Some j → arena.depth j ≡ arena.depth i + length (k ∷ p)) [
        | None ↦ λ e at. cc
        | Some c ↦ λ e at. omega (arith, arena.deeper i k c e, place_depth p c j at)
      ] refl at

  -- a node that a path leads to is where it begins, or a child
  pub last_step : (p : List ℕ) (i j : ℕ) → place_from kids i p ≡ Some j → (i ≡ j) ⊎ ((m : ℕ) × (k : ℕ) × (slice_get (kids m) k ≡ Some j))
  last_step [] i j at = inl (cc)
  last_step (k ∷ p) i j at =
      elim (slice_get (kids i) k) as (λ o. slice_get (kids i) k ≡ o → option_and_then (λ c. place_from kids c p) o ≡ Some j → (i ≡ j) ⊎ ((m : ℕ) × (l : ℕ) × (slice_get (kids m) l ≡ Some j))) [
        | None ↦ λ e at. cc
        | Some c ↦ λ e at. elim (last_step p c j at) [
          | inl same ↦ inr (i, k, e ∙ ap Some same)
          | inr found ↦ inr found
        ]
      ] refl at

  -- a walk down from i by the steps r, last step first, ends at j
  abbrev Walk : ℕ → List ℕ → ℕ → Type 0
  Walk i [] j = i ≡ j
  Walk i (k ∷ r) j = (m : ℕ) × Walk i r m × (slice_get (kids m) k ≡ Some j)

  walk_depth : (i : ℕ) (r : List ℕ) (j : ℕ) → Walk i r j → arena.depth j ≡ arena.depth i + length r
  walk_depth i [] j w = let same = ap arena.depth w in omega (arith, same)
  walk_depth i (k ∷ r) j (m, w, at) = omega (arith, walk_depth i r m w, arena.deeper m k j at)

  -- a child has one parent, and one number there
  pub one_parent : (i j k l c : ℕ) → slice_get (kids i) k ≡ Some c → slice_get (kids j) l ≡ Some c → (i ≡ j) × (k ≡ l)
  one_parent i j k l c at at' =
      let both : Some i ≡ Some j = sym (arena.up i k c at) ∙ arena.up j l c at' in
      let same : i ≡ j = cc in
      (same, arena.once i k l c at (ap (λ m. slice_get (kids m) l) same ∙ at'))

  -- there is one walk at most to each node
  one_walk : (i : ℕ) (r s : List ℕ) (j : ℕ) → Walk i r j → Walk i s j → r ≡ s
  one_walk i [] [] j v w = refl
  one_walk i [] (k ∷ s) j v (m, w, at) = let same = ap arena.depth v in absurd (omega (arith, same, walk_depth i s m w, arena.deeper m k j at))
  one_walk i (k ∷ r) [] j (m, v, at) w = let same = ap arena.depth w in absurd (omega (arith, same, walk_depth i r m v, arena.deeper m k j at))
  one_walk i (k ∷ r) (l ∷ s) j (m, v, at) (m', w, at') =
      let same = one_parent m m' k l j at at' in
      let rest = one_walk i r s m v (subst (λ q. Walk i s q) (sym same.0) w) in
      λ x. same.1 x ∷ rest x

  -- a first step before a walk
  walk_from : (i k c : ℕ) → slice_get (kids i) k ≡ Some c → (r : List ℕ) (j : ℕ) → Walk c r j → Walk i (r ++ k ∷ []) j
  walk_from i k c at [] j w = (i, refl, subst (λ q. slice_get (kids i) k ≡ Some q) w at)
  walk_from i k c at (l ∷ r) j (m, w, last) = (m, walk_from i k c at r m w, last)

  walk_of : (p : List ℕ) (i j : ℕ) → place_from kids i p ≡ Some j → Walk i (reverse p) j
  walk_of [] i j at = cc
  walk_of (k ∷ p) i j at =
      elim (slice_get (kids i) k) as (λ o. slice_get (kids i) k ≡ o → option_and_then (λ c. place_from kids c p) o ≡ Some j → Walk i (reverse (k ∷ p)) j) [
        | None ↦ λ e at. cc
        | Some c ↦ λ e at. rw (reverse-append (k ∷ []) p) (walk_from i k c e (reverse p) j (walk_of p c j at))
      ] refl at

  -- there is one path at most to each node
  pub one_path : (i : ℕ) (p q : List ℕ) (j : ℕ) → place_from kids i p ≡ Some j → place_from kids i q ≡ Some j → p ≡ q
  one_path i p q j at at' =
      sym (reverse-reverse p) ∙ ap reverse (one_walk i (reverse p) (reverse q) j (walk_of p i j at) (walk_of q i j at')) ∙ reverse-reverse q

-- Two tables, which differ at one node only, or in what no old one leads to.
pub record IsChangedAt (n : ℕ) (Old : ℕ → Type 0) (label kids : ℕ → List ℕ) (parent : ℕ → Option ℕ) (label' kids' : ℕ → List ℕ) (parent' : ℕ → Option ℕ) (j : ℕ) : Type 0 where
  pub old : IsArena n kids parent
  pub new : IsArena n kids' parent'
  pub stays : (i k c : ℕ) → Old i → slice_get (kids i) k ≡ Some c → Old c
  pub labels : (i : ℕ) → Old i → i ≢ j → label' i ≡ label i
  pub children : (i : ℕ) → Old i → i ≢ j → kids' i ≡ kids i

module _ (n : ℕ) (Old : ℕ → Type 0) (label kids : ℕ → List ℕ) (parent : ℕ → Option ℕ) (label' kids' : ℕ → List ℕ) (parent' : ℕ → Option ℕ) (j : ℕ) (change : IsChangedAt n Old label kids parent label' kids' parent' j) where
  abbrev old_tree : ℕ → LabelTree
  old_tree = tree_to label kids n

  abbrev new_tree : ℕ → LabelTree
  new_tree = tree_to label' kids' n

  -- a tree that the changed node is not in stays
  pub away : (m i : ℕ) → Old i → n ≤ change.old.depth i + m → ((q : List ℕ) → place_from kids i q ≡ Some j → ⊥) → new_tree i ≡ old_tree i
  away zero i is le none = absurd (omega (arith, change.old.shallow i))
  away (suc m) i is le none =
      let other : i ≢ j = λ e. none [] (ap Some e) in
      let trees = row_by-same new_tree old_tree (kids i) (λ k c at.
      away m c (change.stays i k c is at) (omega (arith, change.old.deeper i k c at)) (λ q there. none (k ∷ q) (rw at there))) in
      rw (unrolled label' kids' parent' n change.new i, unrolled label kids parent n change.old i, change.labels i is other, change.children i is other)
      (ap (λ f. record { label = label i; below = f }) trees)

  -- where f makes the new tree of the changed node of its old one, the tree above is edited at the path to it
  pub edited : (f : LabelTree → LabelTree) → new_tree j ≡ f (old_tree j) → (p : List ℕ) (i : ℕ) → Old i → place_from kids i p ≡ Some j → new_tree i ≡ edit_at p f (old_tree i)
  edited f is [] i here at = let e : i ≡ j = cc in rw e is
  edited f is (k ∷ p) i here at =
      elim (slice_get (kids i) k) as (λ o. slice_get (kids i) k ≡ o → option_and_then (λ c. place_from kids c p) o ≡ Some j → new_tree i ≡ edit_at (k ∷ p) f (old_tree i)) [
        | None ↦ λ e at'. cc
        | Some c ↦ λ e at'.
            let deep = place_depth label kids parent n change.old (k ∷ p) i j at in
            let other : i ≢ j = λ same. let level = ap change.old.depth same in omega (arith, deep, level) in
            let trees = edit_tree-row_by old_tree new_tree (edit_at p f) (kids i) k c e (edited f is p c (change.stays i k c here e) at') (λ l d ne there.
            away n d (change.stays i l d here there) (omega arith) (λ q found.
            let same : l ∷ q ≡ k ∷ p = one_path label kids parent n change.old i (l ∷ q) (k ∷ p) j (rw there found) at in
            ne (cc))) in
            rw (unrolled label' kids' parent' n change.new i, unrolled label kids parent n change.old i, change.labels i here other, change.children i here other)
            (ap (λ g. record { label = label i; below = g }) trees)
      ] refl at

  -- the trees below the changed node stay
  pub below_changed : Old j → (cs : List ℕ) → ((k c : ℕ) → slice_get cs k ≡ Some c → (l : ℕ) × (slice_get (kids j) l ≡ Some c)) → row_by new_tree cs ≡ row_by old_tree cs
  below_changed is cs of =
      row_by-same new_tree old_tree cs (λ k c at.
      let found = of k c at in
      let deeper = change.old.deeper j found.0 c found.1 in
      away n c (change.stays j found.0 c is found.1) (omega arith) (λ q there. omega (arith, deeper, place_depth label kids parent n change.old q c j there)))

  -- as does the tree of a node of which the changed one is no child, nor of any other
  pub apart : ((m k : ℕ) → slice_get (kids m) k ≡ Some j → ⊥) → (i : ℕ) → Old i → i ≢ j → new_tree i ≡ old_tree i
  apart none i is other = away n i is (omega arith) (λ q there. elim (last_step label kids parent n change.old q i j there) [
    | inl same ↦ other same
    | inr found ↦ none found.0 found.1 found.2
  ])

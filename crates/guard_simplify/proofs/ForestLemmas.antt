-- The nodes of forests, their kinds, and the spawns of the system.
use Rattle.std.proofs.Common.{◌≡◌, ◌⊎◌, ℕ, zero, suc, ◌+◌, ◌<◌, nat_lt, Bool, true, false, if◌then◌else◌, List, [], ◌∷◌, ◌++◌, map, filter, Option, Some, option_map, unwrap_or, Contains, All, refl, sym, ap, ◌∙◌, subst, inl, inr, arith}
use Rattle.std.specs.Prelude.{slice_get}
use Rattle.std.specs.List.{flat_map, range_with_len}
use Rattle.std.proofs.lemmas.Bool.{cases_Bool, lt-ltb}
use Rattle.std.proofs.lemmas.List.Elements.{All-contains_itself, Contains-append_left, Contains-append_right, Contains-append_cases}
use Rattle.tp_base.specs.Classes.{with_class}
use Rattle.tp_base.proofs.ClassLemmas.{with_class-there}
use Rattle.tp_base.proofs.Rising.{Contains-behind, Contains-cons, Contains-none}
use Rattle.tp_base.proofs.Lists.{Contains-flat_map, flat_map-Contains}
use Rattle.tree_sem.specs.Trees.{Row, no_nodes, node, LabelTree, tree_of, length_of, node_at, label_at}
use Rattle.tree_sem.proofs.RowLemmas.{there, tree_of-within, child_node_at}
use Rattle.tree_sem.proofs.WithinLemmas.{All-with_class}
use Rattle.tree_sem.proofs.NodeLemmas.{Contains-map, map-Contains, Contains-paths_of}
use Rattle.simple_core.specs.declared.rules.Spawn.{Spawn}
use Rattle.simple_core.specs.declared.rules.Kind.{Kind}
use Rattle.simple_core.specs.declared.system.System.{System}
use Rattle.simple_core.specs.Systems.{kind_label}
use Rattle.simple_core.proofs.Members.{Contains-filter, Contains-range, range-Contains}
use Rattle.guard_sem.specs.Guards.{Guard}
use Rattle.guard_sem.specs.declared.rules.Rule.{Rule}
use Rattle.guard_sem.specs.Guards.{same_guard}
use Rattle.guard_simplify.specs.Firsts.{place_of, different}
use Rattle.guard_simplify.specs.Auxiliaries.{forest_of, nodes_of, children_in, Place, same_place, by_rule, places, owners, formulas, formula, owner, seen, auxiliaries}
use Rattle.guard_simplify.specs.Simplified.{atom_for, atom_of, kind_at, spawns_below, action_spawns, label_in, kind_of, system}
use Rattle.guard_simplify.proofs.Following.{Spawned}
use Rattle.guard_simplify.proofs.NumberLemmas.{same_place-sound, same_place-itself}
use Rattle.tree_sem.specs.Nodes.{IsNode}

-- what is in the list by rules
pub by_rule-Contains : {X : Type 0} (f : ℕ → Rule → List X) (i : ℕ) (rules : List Rule) (x : X) → Contains (by_rule f i rules) x → (j : ℕ) × (r : Rule) × (slice_get rules j ≡ Some r) × Contains (f (i + j) r) x
by_rule-Contains f i [] x is = absurd (Contains-none x is)
by_rule-Contains f i (r ∷ rules) x is = elim (Contains-append_cases (f i r) (by_rule f (suc i) rules) x is) [
  | inl here ↦ (0, r, refl, subst (λ k. Contains (f k r) x) {x = i} (omega arith) here)
  | inr later ↦
      let rest = by_rule-Contains f (suc i) rules x later in
      (suc rest.0, rest.1, rest.2, subst (λ k. Contains (f k rest.1) x) {x = suc i + rest.0} (omega arith) rest.3)
]

pub Contains-by_rule : {X : Type 0} (f : ℕ → Rule → List X) (i : ℕ) (rules : List Rule) (j : ℕ) (r : Rule) (x : X) → slice_get rules j ≡ Some r → Contains (f (i + j) r) x → Contains (by_rule f i rules) x
Contains-by_rule f i [] j r x at is = cc
Contains-by_rule f i (r' ∷ rules) zero r x at is =
    let same : r' ≡ r = cc in
    Contains-append_left (f i r') (by_rule f (suc i) rules) x (subst (λ z. Contains (f i z) x) (sym same) (subst (λ k. Contains (f k r) x) {x = i + zero} (omega arith) is))
Contains-by_rule f i (r' ∷ rules) (suc j) r x at is =
    Contains-append_right (f i r') (by_rule f (suc i) rules) x (Contains-by_rule f (suc i) rules j r x at (subst (λ k. Contains (f k r) x) {x = i + suc j} (omega arith) is))

-- a place of a list
pub slice_get-place : {X : Type 0} (same : X → X → Bool) (sound : (x y : X) → same x y ≡ true → x ≡ y) (itself : (x : X) → same x x ≡ true) (xs : List X) (x : X) → Contains xs x → slice_get xs (place_of same x xs) ≡ Some x
slice_get-place same sound itself [] x is = absurd (Contains-none x is)
slice_get-place same sound itself (y ∷ xs) x is = elim (cases_Bool (same x y)) [
  | inl here ↦ rw here (ap Some (sym (sound x y here)))
  | inr other ↦ elim ((Contains-cons x y xs).0 is) [
    | inl first ↦ let is_first : same x y ≡ true = ap (same x) (sym first) ∙ itself x in absurd (cc)
    | inr behind ↦ rw other (slice_get-place same sound itself xs x behind)
  ]
]

-- two lists side by side
abbrev pub Beside : {X Y : Type 0} → (X → Y → Type 0) → List X → List Y → Type 0
Beside R [] [] = Unit {0}
Beside R [] (y ∷ ys) = ⊥
Beside R (x ∷ xs) [] = ⊥
Beside R (x ∷ xs) (y ∷ ys) = R x y × Beside R xs ys

beside_append : {X Y : Type 0} (R : X → Y → Type 0) (xs xs' : List X) (ys ys' : List Y) → Beside R xs ys → Beside R xs' ys' → Beside R (xs ++ xs') (ys ++ ys')
beside_append R [] xs' [] ys' b b' = b'
beside_append R [] xs' (y ∷ ys) ys' b b' = absurd b
beside_append R (x ∷ xs) xs' [] ys' b b' = absurd b
beside_append R (x ∷ xs) xs' (y ∷ ys) ys' b b' = (b.0, beside_append R xs xs' ys ys' b.1 b')

beside_maps : {X Y Z : Type 0} (R : X → Y → Type 0) (f : Z → X) (g : Z → Y) (zs : List Z) → ((z : Z) → R (f z) (g z)) → Beside R (map f zs) (map g zs)
beside_maps R f g [] each = tt
beside_maps R f g (z ∷ zs) each = (each z, beside_maps R f g zs each)

pub beside_get : {X Y : Type 0} (R : X → Y → Type 0) (xs : List X) (ys : List Y) (j : ℕ) (x : X) → Beside R xs ys → slice_get xs j ≡ Some x → (y : Y) × (slice_get ys j ≡ Some y) × R x y
beside_get R [] ys j x b at = cc
beside_get R (x' ∷ xs) [] j x b at = absurd b
beside_get R (x' ∷ xs) (y ∷ ys) zero x b at = let same : x' ≡ x = cc in (y, refl, subst (λ z. R z y) same b.0)
beside_get R (x' ∷ xs) (y ∷ ys) (suc j) x b at = beside_get R xs ys j x b.1 at

module _ (rules : List Rule) (guards : List Guard) (n : ℕ) where
  abbrev s : System
  s = system rules guards n

  -- the kind of a place is that of its node
  abbrev pub IsKindOf : Place → Kind → Type 0
  IsKindOf p k = (r : Rule) × (slice_get rules p.0 ≡ Some r) × (k ≡ kind_of rules guards n p.0 r p.1)

  pub kinds_beside : (i : ℕ) (rest : List Rule) → ((j : ℕ) (r : Rule) → slice_get rest j ≡ Some r → slice_get rules (i + j) ≡ Some r)
      → Beside IsKindOf (by_rule (λ i r. map (λ q. (i, q)) (nodes_of r)) i rest) (by_rule (λ i r. map (kind_of rules guards n i r) (nodes_of r)) i rest)
  kinds_beside i [] are = tt
  kinds_beside i (r ∷ rest) are =
      let mine : slice_get rules i ≡ Some r = subst (λ k. slice_get rules k ≡ Some r) {x = i + 0} (omega arith) (are 0 r refl) in
      beside_append IsKindOf (map (λ q. (i, q)) (nodes_of r)) (by_rule (λ i r. map (λ q. (i, q)) (nodes_of r)) (suc i) rest) (map (kind_of rules guards n i r) (nodes_of r)) (by_rule (λ i r. map (kind_of rules guards n i r) (nodes_of r)) (suc i) rest)
      (beside_maps IsKindOf (λ q. (i, q)) (kind_of rules guards n i r) (nodes_of r) (λ q. (r, mine, refl)))
      (kinds_beside (suc i) rest (λ j r' at. subst (λ k. slice_get rules k ≡ Some r') {x = i + suc j} (omega arith) (are (suc j) r' at)))

  -- a node of a forest
  pub node_is : (r : Rule) (q : List ℕ) → Contains (nodes_of r) q → IsNode (forest_of r) q
  node_is r q is = (Contains-paths_of (forest_of r) q).0 (Contains-behind q [] (nodes_of r) is)

  pub is_node : (r : Rule) (q : List ℕ) (k : ℕ) → IsNode (forest_of r) (q ++ k ∷ []) → Contains (nodes_of r) (q ++ k ∷ [])
  is_node r q k is = elim ((Contains-cons (q ++ k ∷ []) [] (nodes_of r)).0 ((Contains-paths_of (forest_of r) (q ++ k ∷ [])).1 is)) [
    | inl root ↦ absurd (not_root q root)
    | inr below ↦ below
  ]
    where
      not_root : (q : List ℕ) → q ++ k ∷ [] ≡ [] → ⊥
      not_root [] e = cc
      not_root (x ∷ q) e = cc

  pub place_there : (i : ℕ) (r : Rule) (q : List ℕ) → slice_get rules i ≡ Some r → Contains (nodes_of r) q → slice_get {X = Place} (places rules) (kind_at rules guards n (i, q)) ≡ Some (i, q)
  place_there i r q rule is =
      let listed : Contains (places rules) (i, q) = Contains-by_rule (λ i r. map (λ q. (i, q)) (nodes_of r)) 0 rules i r (i, q) rule (subst (λ k. Contains {X = Place} (map (λ q. (k, q)) (nodes_of r)) (i, q)) {x = i} (omega arith) (Contains-map (λ q. (i, q)) (nodes_of r) q is)) in
      slice_get-place same_place same_place-sound same_place-itself (places rules) (i, q) listed

  pub label_of_kind : (i : ℕ) (r : Rule) (q : List ℕ) → slice_get rules i ≡ Some r → Contains (nodes_of r) q → kind_label s (kind_at rules guards n (i, q)) ≡ label_in rules guards n i r q
  label_of_kind i r q rule is =
      let listed : Contains (places rules) (i, q) = Contains-by_rule (λ i r. map (λ q. (i, q)) (nodes_of r)) 0 rules i r (i, q) rule (subst (λ k. Contains {X = Place} (map (λ q. (k, q)) (nodes_of r)) (i, q)) {x = i} (omega arith) (Contains-map (λ q. (i, q)) (nodes_of r) q is)) in
      let at = slice_get-place same_place same_place-sound same_place-itself (places rules) (i, q) listed in
      let found = beside_get IsKindOf (places rules) s.kinds (kind_at rules guards n (i, q)) (i, q) (kinds_beside 0 rules (λ j r' at'. subst (λ k. slice_get rules k ≡ Some r') {x = j} (omega arith) at')) at in
      let same : found.2.0 ≡ r = cc in
      rw found.1 (ap (λ (k : Kind). k.label) found.2.2 ∙ ap (λ z. label_in rules guards n i z q) same)

  -- a node has its children's numbers
  child_count : (r : Rule) (q : List ℕ) (t : LabelTree) → node_at q (forest_of r) ≡ Some t → children_in r q ≡ length_of t.below
  child_count r q t at = ap (λ (o : Option LabelTree). unwrap_or (option_map (λ n. length_of n.below) o) 0) at

  spawn_below : (i : ℕ) (r : Rule) (a : ℕ) (q : List ℕ) (k : ℕ) → k < children_in r q → Contains (spawns_below rules guards n i r a q) (record { needs = a; kind = kind_at rules guards n (i, q ++ k ∷ []) })
  spawn_below i r a q k less = Contains-map (λ k. record { needs = a; kind = kind_at rules guards n (i, q ++ k ∷ []) }) (range_with_len 0 (children_in r q)) k (Contains-range (children_in r q) k less)

  is_child : (r : Rule) (q : List ℕ) (k : ℕ) → IsNode (forest_of r) q → k < children_in r q → Contains (nodes_of r) (q ++ k ∷ [])
  is_child r q k is less =
      let here = there (node_at q (forest_of r)) is in
      let less' : k < length_of here.0.below = rw (child_count r q here.0 here.1) at less in
      let child = there (tree_of here.0.below k) (tree_of-within here.0.below k less') in
      is_node r q k (rw (child_node_at q k (forest_of r) here.0 child.0 here.1 child.1) refl)

  -- a spawn of a rule is that of a top node, or of a child of a node of the forest
  pub spawn_cases : (i : ℕ) (r : Rule) (c : Spawn) → Contains (action_spawns rules guards n i r) c
      → ((k : ℕ) × Contains (nodes_of r) (k ∷ []) × (c ≡ record { needs = atom_of rules guards n r.guard; kind = kind_at rules guards n (i, k ∷ []) }))
      ⊎ ((q : List ℕ) × (k : ℕ) × Contains (nodes_of r) q × (k < children_in r q) × Contains (nodes_of r) (q ++ k ∷ [])
      × (c ≡ record { needs = atom_for rules guards n (owner (i, q)); kind = kind_at rules guards n (i, q ++ k ∷ []) }))
  spawn_cases i r c is = elim (Contains-append_cases (spawns_below rules guards n i r (atom_of rules guards n r.guard) []) (flat_map (λ q. spawns_below rules guards n i r (atom_for rules guards n (owner (i, q))) q) (nodes_of r)) c is) [
    | inl top ↦
        let of = map-Contains _ (range_with_len 0 (children_in r [])) c top in
        let less = range-Contains (children_in r []) of.0 of.1 in
        inl (of.0, is_child r [] of.0 refl less, of.2)
    | inr inner ↦
        let at = flat_map-Contains (λ q. spawns_below rules guards n i r (atom_for rules guards n (owner (i, q))) q) (nodes_of r) c inner in
        let q = at.0 in
        let of = map-Contains _ (range_with_len 0 (children_in r q)) c at.2 in
        let less = range-Contains (children_in r q) of.0 of.1 in
        inr (q, of.0, at.1, less, is_child r q of.0 (node_is r q at.1) less, of.2)
  ]

  module _ (i : ℕ) (r : Rule) (rule : slice_get rules i ≡ Some r) where
    in_child : (c : Spawn) → Contains (action_spawns rules guards n i r) c → Contains s.child c
    in_child c is = Contains-by_rule (action_spawns rules guards n) 0 rules i r c rule (subst (λ k. Contains (action_spawns rules guards n k r) c) {x = i} (omega arith) is)

    -- the spawns of the children of a node q
    pub top_spawn : (k : ℕ) → k < children_in r [] → Contains s.child (record { needs = atom_of rules guards n r.guard; kind = kind_at rules guards n (i, k ∷ []) })
    top_spawn k less = in_child _ (Contains-append_left (spawns_below rules guards n i r (atom_of rules guards n r.guard) []) (flat_map (λ q. spawns_below rules guards n i r (atom_for rules guards n (owner (i, q))) q) (nodes_of r)) _ (spawn_below i r (atom_of rules guards n r.guard) [] k less))

    pub inner_spawn : (q : List ℕ) (k : ℕ) → Contains (nodes_of r) q → k < children_in r q → Contains s.child (record { needs = atom_for rules guards n (owner (i, q)); kind = kind_at rules guards n (i, q ++ k ∷ []) })
    inner_spawn q k is less = in_child _ (Contains-append_right (spawns_below rules guards n i r (atom_of rules guards n r.guard) []) (flat_map (λ q. spawns_below rules guards n i r (atom_for rules guards n (owner (i, q))) q) (nodes_of r)) _
        (Contains-flat_map (λ q. spawns_below rules guards n i r (atom_for rules guards n (owner (i, q))) q) (nodes_of r) q _ is (spawn_below i r (atom_for rules guards n (owner (i, q))) q k less)))

    -- the label of a kind has that of its node, and its own atom where there are nodes below it
    label_all : (l : List ℕ) (own : ℕ) (more : Bool) (o : Option (List ℕ)) → o ≡ Some l → All (Contains (let label = unwrap_or o [] in if more then with_class own label else label)) l
    label_all l own true o same = subst (λ (z : Option (List ℕ)). All (Contains (with_class own (unwrap_or z []))) l) (sym same) (All-with_class own l)
    label_all l own false o same = subst (λ (z : Option (List ℕ)). All (Contains (unwrap_or z [])) l) (sym same) (All-contains_itself l)

    own_there : (below : Row) (p : List ℕ) → kind_label s (kind_at rules guards n (i, p)) ≡ label_in rules guards n i r p → children_in r p ≡ length_of below
        → (below ≡ no_nodes) ⊎ Contains (kind_label s (kind_at rules guards n (i, p))) (atom_for rules guards n (owner (i, p)))
    own_there no_nodes p label count = inl refl
    own_there (node l below next) p label count =
        let more : nat_lt 0 (children_in r p) ≡ true = rw count (lt-ltb 0 (suc (length_of next)) (omega arith)) in
        inr (rw (label, more) (with_class-there (atom_for rules guards n (owner (i, p))) (unwrap_or (label_at p (forest_of r)) [])))

    -- the part of a node's row from the m-th child on is spawned by a
    spawned_from : (row : Row) (q : List ℕ) (a m : ℕ) → ((k : ℕ) → k < length_of row → Contains s.child (record { needs = a; kind = kind_at rules guards n (i, q ++ (m + k) ∷ []) }))
        → ((k : ℕ) (t : LabelTree) → tree_of row k ≡ Some t → node_at (q ++ (m + k) ∷ []) (forest_of r) ≡ Some t) → Spawned s (atom_of rules guards n) row a
    spawned_from no_nodes q a m spawns nodes = tt
    spawned_from (node l below next) q a m spawns nodes =
        let p = q ++ m ∷ [] in
        let whole : LabelTree = record { label = l; below = below } in
        let here : node_at p (forest_of r) ≡ Some whole = subst (λ k. node_at (q ++ k ∷ []) (forest_of r) ≡ Some whole) {x = m + 0} (omega arith) (nodes 0 whole refl) in
        let listed : Contains (nodes_of r) p = is_node r q m (rw here refl) in
        let label : kind_label s (kind_at rules guards n (i, p)) ≡ label_in rules guards n i r p = label_of_kind i r p rule listed in
        let count : children_in r p ≡ length_of below = child_count r p whole here in
        let own = atom_for rules guards n (owner (i, p)) in
        let mine : label_at p (forest_of r) ≡ Some l = ap (option_map (λ (t : LabelTree). t.label)) here in (
          (
            kind_at rules guards n (i, p),
            own,
            subst (λ k. Contains s.child (record { needs = a; kind = kind_at rules guards n (i, q ++ k ∷ []) })) {x = m + 0} (omega arith) (spawns 0 (omega arith)),
            rw label (label_all l own (nat_lt 0 (children_in r p)) (label_at p (forest_of r)) mine),
            own_there below p label count,
            spawned_from below p own 0
                (λ k less. subst (λ z. Contains s.child (record { needs = own; kind = kind_at rules guards n (i, p ++ z ∷ []) })) {x = k} (omega arith) (inner_spawn p k listed (rw count less)))
                (λ k t at. subst (λ z. node_at (p ++ z ∷ []) (forest_of r) ≡ Some t) {x = k} (omega arith) (child_node_at p k (forest_of r) whole t here at)),
          ),
          spawned_from next q a (suc m)
              (λ k less. subst (λ z. Contains s.child (record { needs = a; kind = kind_at rules guards n (i, q ++ z ∷ []) })) {x = m + suc k} (omega arith) (spawns (suc k) (omega arith)))
              (λ k t at. subst (λ z. node_at (q ++ z ∷ []) (forest_of r) ≡ Some t) {x = m + suc k} (omega arith) (nodes (suc k) t at)),
        )

    pub forest_spawned : Spawned s (atom_of rules guards n) (forest_of r).below (atom_of rules guards n r.guard)
    forest_spawned = spawned_from (forest_of r).below [] (atom_of rules guards n r.guard) 0
        (λ k less. subst (λ z. Contains s.child (record { needs = atom_of rules guards n r.guard; kind = kind_at rules guards n (i, z ∷ []) })) {x = k} (omega arith) (top_spawn k (rw (child_count r [] (forest_of r) refl) less)))
        (λ k t at. subst (λ z. node_at (z ∷ []) (forest_of r) ≡ Some t) {x = k} (omega arith) (rw at refl))

  pub owner_is : (i : ℕ) (r : Rule) (q : List ℕ) → slice_get rules i ≡ Some r → Contains (nodes_of r) q → nat_lt 0 (children_in r q) ≡ true → Contains (auxiliaries rules guards) (owner (i, q))
  owner_is i r q rule is more =
      Contains-append_left (map formula (formulas rules guards) ++ map owner (owners rules)) (map seen (different same_guard guards)) (owner (i, q))
      (Contains-append_right (map formula (formulas rules guards)) (map owner (owners rules)) (owner (i, q))
      (Contains-map owner (owners rules) (i, q) (Contains-by_rule (λ i r. map (λ q. (i, q)) (filter (λ q. nat_lt 0 (children_in r q)) (nodes_of r))) 0 rules i r (i, q) rule
      (subst (λ k. Contains {X = Place} (map (λ q. (k, q)) (filter (λ q. nat_lt 0 (children_in r q)) (nodes_of r))) (i, q)) {x = i} (omega arith)
      (Contains-map (λ q. (i, q)) (filter (λ q. nat_lt 0 (children_in r q)) (nodes_of r)) q (Contains-filter (λ q. nat_lt 0 (children_in r q)) (nodes_of r) q is more))))))

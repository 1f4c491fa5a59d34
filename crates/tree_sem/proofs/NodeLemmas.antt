-- The list of a tree's nodes in the order of the document.
use Rattle.std.proofs.Common.{◌≡◌, ◌↔◌, ℕ, zero, suc, ◌+◌, List, [], ◌∷◌, ◌++◌, length, take, map, Contains, Some, None, IsSome, IsSomeAnd, All, option_map, option_and_then, refl, sym, ap, ◌∙◌, subst, inl, inr, arith, length-append}
use Rattle.std.proofs.Math.Seq.{take-length}
use Rattle.std.proofs.lemmas.List.{length-map, get_or-map, take-append-le}
use Rattle.std.proofs.lemmas.List.Elements.{All-nil, Contains-append_left, Contains-append_right, Contains-append_cases, Contains-push_cases}
use Rattle.tree_sem.specs.Trees.{Row, no_nodes, node, LabelTree, tree_of, nodes_of, count_of, node_at}
use Rattle.tree_sem.specs.Nodes.{IsNode, HasAtom, HasAtoms}
use Rattle.tree_sem.specs.Order.{paths_from, paths_of}
use Rattle.tree_sem.proofs.PathLemmas.{IsSome-take}

pub Contains-map : {X Y : Type 0} (f : X → Y) (xs : List X) (x : X) → Contains xs x → Contains (map f xs) (f x)
Contains-map f xs x (i, within, at) = (i, omega (arith, length-map xs f), get_or-map f xs i x (f x) within ∙ ap f at)

-- an element of a mapped list is the image of one
pub map-Contains : {X Y : Type 0} (f : X → Y) (xs : List X) (y : Y) → Contains (map f xs) y → (x : X) × Contains xs x × (y ≡ f x)
map-Contains f [] y (i, within, at) = absurd (omega arith)
map-Contains f (x ∷ xs) y is = elim (Contains-append_cases (f x ∷ []) (map f xs) y is) [
  | inl first ↦ elim (Contains-push_cases [] (f x) y first) [
    | inl (i, within, at) ↦ absurd (omega arith)
    | inr same ↦ (x, (0, omega arith, refl), sym same)
  ]
  | inr later ↦ let rest = map-Contains f xs y later in (rest.0, Contains-append_right (x ∷ []) xs rest.0 rest.1, rest.2)
]

-- there are as many as nodes
pub length-paths_from : (f : Row) (k : ℕ) → length (paths_from k f) ≡ nodes_of f
length-paths_from no_nodes k = refl
length-paths_from (node l below next) k =
    omega (arith, length-append (map (λ (p : List ℕ). k ∷ p) (paths_from 0 below)) (paths_from (suc k) next), length-map (paths_from 0 below) (λ (p : List ℕ). k ∷ p), length-paths_from below 0, length-paths_from next (suc k))

pub length-paths_of : (t : LabelTree) → length (paths_of t) ≡ count_of t
length-paths_of t = ap suc (length-paths_from t.below 0)

-- a path of the row from the child d on: the number c of its tree, whose number in the row is k, and the path there
pub record IsInRow (f : Row) (d : ℕ) (v : List ℕ) : Type 0 where
  pub k : ℕ
  pub c : ℕ
  pub rest : List ℕ
  pub tree : LabelTree
  pub split : v ≡ c ∷ rest
  pub number : c ≡ k + d
  pub here : tree_of f k ≡ Some tree
  pub node : IsSome (node_at rest tree)

-- the nodes of a row are in the list
pub Contains-paths_from : (f : Row) (d k c : ℕ) (q : List ℕ) (s : LabelTree) → c ≡ k + d → tree_of f k ≡ Some s → IsSome (node_at q s) → Contains (paths_from d f) (c ∷ q)
Contains-paths_from no_nodes d k c q s number at is = cc
Contains-paths_from (node l below next) d zero c q s number at is =
    let first : LabelTree = record { label = l; below = below } in
    let same : first ≡ s = cc in
    let is' : IsSome (node_at q first) = subst (λ (z : LabelTree). IsSome (node_at q z)) (sym same) is in
    let inner : Contains (paths_of first) q =
    elim q as (λ q. IsSome (node_at q first) → Contains (paths_of first) q) [
      | [] ↦ λ is. (0, omega arith, refl)
      | m ∷ r ↦ λ is.
          elim (tree_of below m) as (λ o. tree_of below m ≡ o → IsSome (option_and_then (node_at r) o) → Contains (paths_of first) (m ∷ r)) [
            | None ↦ λ e is. cc
            | Some u ↦ λ e is. Contains-append_right ([] ∷ []) (paths_from 0 below) (m ∷ r) (Contains-paths_from below 0 m m r u (omega arith) e is)
          ] refl is
    ] is' in
    subst (λ e. Contains (paths_from d (node l below next)) (e ∷ q)) {x = d} (omega arith)
    (Contains-append_left (map (λ (p : List ℕ). d ∷ p) (paths_of first)) (paths_from (suc d) next) (d ∷ q) (Contains-map (λ (p : List ℕ). d ∷ p) (paths_of first) q inner))
Contains-paths_from (node l below next) d (suc k) c q s number at is =
    Contains-append_right (map (λ (p : List ℕ). d ∷ p) ([] ∷ paths_from 0 below)) (paths_from (suc d) next) (c ∷ q) (Contains-paths_from next (suc d) k c q s (omega arith) at is)

-- and nothing else is
pub paths_from-Contains : (f : Row) (d : ℕ) (v : List ℕ) → Contains (paths_from d f) v → IsInRow f d v
paths_from-Contains no_nodes d v (i, within, at) = absurd (omega arith)
paths_from-Contains (node l below next) d v is =
    let first : LabelTree = record { label = l; below = below } in
    elim (Contains-append_cases (map (λ (p : List ℕ). d ∷ p) (paths_of first)) (paths_from (suc d) next) v is) [
      | inl here ↦
          let path = map-Contains (λ (p : List ℕ). d ∷ p) (paths_of first) v here in
          record {
            k = 0;
            c = d;
            rest = path.0;
            tree = first;
            split = path.2;
            number = omega arith;
            here = refl;
            node = elim (Contains-append_cases ([] ∷ []) (paths_from 0 below) path.0 path.1) [
              | inl root ↦ elim (Contains-push_cases [] [] path.0 root) [
                | inl (i, within, at) ↦ absurd (omega arith)
                | inr same ↦ subst (λ q. IsSome (node_at q first)) same refl
              ]
              | inr deeper ↦
                  let inner = paths_from-Contains below 0 path.0 deeper in
                  let at : tree_of below inner.c ≡ Some inner.tree = subst (λ q. tree_of below q ≡ Some inner.tree) {x = inner.k} (omega (arith, inner.number)) inner.here in
                  subst (λ q. IsSome (node_at q first)) (sym inner.split) (rw at inner.node)
            ];
          }
      | inr later ↦
          let rest = paths_from-Contains next (suc d) v later in
          record { k = suc rest.k; c = rest.c; rest = rest.rest; tree = rest.tree; split = rest.split; number = omega (arith, rest.number); here = rest.here; node = rest.node }
    ]

-- the list has exactly the nodes
pub Contains-paths_of : (t : LabelTree) (v : List ℕ) → Contains (paths_of t) v ↔ IsSome (node_at v t)
Contains-paths_of t v = (to v, from v)
  where
    to : (v : List ℕ) → Contains (paths_of t) v → IsSome (node_at v t)
    to v is = elim (Contains-append_cases ([] ∷ []) (paths_from 0 t.below) v is) [
      | inl root ↦ elim (Contains-push_cases [] [] v root) [
        | inl (i, within, at) ↦ absurd (omega arith)
        | inr same ↦ subst (λ q. IsSome (node_at q t)) same refl
      ]
      | inr deeper ↦
          let inner = paths_from-Contains t.below 0 v deeper in
          let at : tree_of t.below inner.c ≡ Some inner.tree = subst (λ q. tree_of t.below q ≡ Some inner.tree) {x = inner.k} (omega (arith, inner.number)) inner.here in
          subst (λ q. IsSome (node_at q t)) (sym inner.split) (rw at inner.node)
    ]

    from : (v : List ℕ) → IsSome (node_at v t) → Contains (paths_of t) v
    from [] is = (0, omega arith, refl)
    from (m ∷ r) is =
        elim (tree_of t.below m) as (λ o. tree_of t.below m ≡ o → IsSome (option_and_then (node_at r) o) → Contains (paths_of t) (m ∷ r)) [
          | None ↦ λ e is. cc
          | Some u ↦ λ e is. Contains-append_right ([] ∷ []) (paths_from 0 t.below) (m ∷ r) (Contains-paths_from t.below 0 m m r u (omega arith) e is)
        ] refl is

-- a node with an atom is one
pub HasAtom-node : (t : LabelTree) (v : List ℕ) (a : ℕ) → HasAtom t v a → IsNode t v
HasAtom-node t v a has =
    elim (node_at v t) as (λ o. IsSomeAnd (option_map (λ (n : LabelTree). n.label) o) (λ l. Contains l a) → IsSome o) [
      | None ↦ λ has. absurd has
      | Some s ↦ λ has. refl
    ] has

-- a node with all of some atoms is one
pub HasAtoms-node : (t : LabelTree) (v wanted : List ℕ) → HasAtoms t v wanted → IsNode t v
HasAtoms-node t v wanted has =
    elim (node_at v t) as (λ o. IsSomeAnd (option_map (λ (n : LabelTree). n.label) o) (λ l. All (Contains l) wanted) → IsSome o) [
      | None ↦ λ has. absurd has
      | Some s ↦ λ has. refl
    ] has

-- each node has all of no atoms
pub HasAtoms-none : (t : LabelTree) (v : List ℕ) → IsNode t v → HasAtoms t v []
HasAtoms-none t v is =
    elim (node_at v t) as (λ o. IsSome o → IsSomeAnd (option_map (λ (n : LabelTree). n.label) o) (λ l. All (Contains l) [])) [
      | None ↦ λ is. cc
      | Some s ↦ λ is. All-nil (Contains s.label)
    ] is

-- a front of a node's path is a node's
pub IsNode-front : (t : LabelTree) (p q : List ℕ) → IsNode t (p ++ q) → IsNode t p
IsNode-front t p q is =
    let front : take (length p) (p ++ q) ≡ p = take-append-le (length p) p q (omega arith) ∙ take-length p in
    rw front at (IsSome-take (length p) (p ++ q) t is)

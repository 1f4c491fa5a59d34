-- What comes after a node in the order of a document.
use Rattle.std.proofs.Common.{◌≡◌, ℕ, suc, ◌≤◌, List, [], ◌∷◌, ◌++◌, map, Some, None, option_map, option_and_then, unwrap_or, refl, sym, ap, ◌∙◌, append_assoc, append-nil, arith}
use Rattle.std.proofs.lemmas.List.{map-append}
use Rattle.tree_sem.specs.Trees.{Row, no_nodes, node, LabelTree, tree_of, length_of, node_at}
use Rattle.tree_sem.specs.Order.{paths_from, trees_after, rest_of}
use Rattle.tree_sem.proofs.RowLemmas.{child_node_at, trees_after-next, trees_after-last, row_first}

-- the paths after a path
abbrev pub under : List ℕ → List (List ℕ) → List (List ℕ)
under a qs = map (λ q. a ++ q) qs

pub under-root : (qs : List (List ℕ)) → under [] qs ≡ qs
under-root [] = refl
under-root (q ∷ qs) = ap (λ z. q ∷ z) (under-root qs)

pub under-child : (k : ℕ) (a : List ℕ) (qs : List (List ℕ)) → map (λ q. k ∷ q) (under a qs) ≡ under (k ∷ a) qs
under-child k a [] = refl
under-child k a (q ∷ qs) = ap (λ z. (k ∷ a ++ q) ∷ z) (under-child k a qs)

pub under-last : (a : List ℕ) (k : ℕ) (qs : List (List ℕ)) → under a (map (λ q. k ∷ q) qs) ≡ under (a ++ k ∷ []) qs
under-last a k [] = refl
under-last a k (q ∷ qs) = λ i. sym (append_assoc a (k ∷ []) q) i ∷ under-last a k qs i

-- the paths of the nodes after the node of a path and all that is below it
abbrev pub after_of : List ℕ → LabelTree → List (List ℕ)
after_of [] t = []
after_of (k ∷ p) t = map (λ q. k ∷ q) (unwrap_or (option_map (after_of p) (tree_of t.below k)) []) ++ paths_from (suc k) (trees_after t.below k)

-- after a node comes what is below it, and then the rest
pub rest_of-after_of : (a : List ℕ) (t s : LabelTree) → node_at a t ≡ Some s → rest_of a t ≡ under a (paths_from 0 s.below) ++ after_of a t
rest_of-after_of [] t s at =
    let same : t ≡ s = cc in
    ap (λ (z : LabelTree). paths_from 0 z.below) same ∙ sym (under-root (paths_from 0 s.below)) ∙ sym (append-nil (under [] (paths_from 0 s.below)))
rest_of-after_of (k ∷ a) t s at =
    elim (tree_of t.below k) as (λ o. option_and_then (node_at a) o ≡ Some s → map (λ q. k ∷ q) (unwrap_or (option_map (rest_of a) o) []) ++ paths_from (suc k) (trees_after t.below k)
    ≡ under (k ∷ a) (paths_from 0 s.below) ++ (map (λ q. k ∷ q) (unwrap_or (option_map (after_of a) o) []) ++ paths_from (suc k) (trees_after t.below k))) [
      | None ↦ λ at'. cc
      | Some u ↦ λ at'.
          rw (rest_of-after_of a u s at', map-append (λ (q : List ℕ). k ∷ q) (under a (paths_from 0 s.below)) (after_of a u), under-child k a (paths_from 0 s.below))
          (append_assoc (under (k ∷ a) (paths_from 0 s.below)) (map (λ (q : List ℕ). k ∷ q) (after_of a u)) (paths_from (suc k) (trees_after t.below k)))
    ] at

-- after a child and all below it come its later siblings with what is below them, and then what comes after the parent
pub after_of-child : (a : List ℕ) (k : ℕ) (t s : LabelTree) → node_at a t ≡ Some s → after_of (a ++ k ∷ []) t ≡ under a (paths_from (suc k) (trees_after s.below k)) ++ after_of a t
after_of-child [] k t s at =
    let same : t ≡ s = cc in
    let later = paths_from (suc k) (trees_after t.below k) in
    let none : map (λ (q : List ℕ). k ∷ q) (unwrap_or (option_map (after_of []) (tree_of t.below k)) []) ++ later ≡ later =
    elim (tree_of t.below k) as (λ o. map (λ (q : List ℕ). k ∷ q) (unwrap_or (option_map (after_of []) o) []) ++ later ≡ later) [ None ↦ refl | Some u ↦ refl ] in
    none ∙ ap (λ (z : LabelTree). paths_from (suc k) (trees_after z.below k)) same ∙ sym (under-root (paths_from (suc k) (trees_after s.below k)))
    ∙ sym (append-nil (under [] (paths_from (suc k) (trees_after s.below k))))
after_of-child (l ∷ a) k t s at =
    elim (tree_of t.below l) as (λ o. option_and_then (node_at a) o ≡ Some s → map (λ q. l ∷ q) (unwrap_or (option_map (after_of (a ++ k ∷ [])) o) []) ++ paths_from (suc l) (trees_after t.below l)
    ≡ under (l ∷ a) (paths_from (suc k) (trees_after s.below k)) ++ (map (λ q. l ∷ q) (unwrap_or (option_map (after_of a) o) []) ++ paths_from (suc l) (trees_after t.below l))) [
      | None ↦ λ at'. cc
      | Some u ↦ λ at'.
          rw (after_of-child a k u s at', map-append (λ (q : List ℕ). l ∷ q) (under a (paths_from (suc k) (trees_after s.below k))) (after_of a u), under-child l a (paths_from (suc k) (trees_after s.below k)))
          (append_assoc (under (l ∷ a) (paths_from (suc k) (trees_after s.below k))) (map (λ (q : List ℕ). l ∷ q) (after_of a u)) (paths_from (suc l) (trees_after t.below l)))
    ] at

-- the row from the child k on, and then what comes after its parent: that child first, and then what comes after it
turns_off : (a : List ℕ) (k : ℕ) (t s u : LabelTree) → node_at a t ≡ Some s → tree_of s.below k ≡ Some u
    → under a (paths_from k (node u.label u.below (trees_after s.below k))) ++ after_of a t ≡ (a ++ k ∷ []) ∷ rest_of (a ++ k ∷ []) t
turns_off a k t s u at here =
    let later = paths_from (suc k) (trees_after s.below k) in
    let after = after_of-child a k t s at in
    let rest = rest_of-after_of (a ++ k ∷ []) t u (child_node_at a k t s u at here) in
    rw (map-append (λ (q : List ℕ). a ++ q) (map (λ q. k ∷ q) (paths_from 0 u.below)) later, under-last a k (paths_from 0 u.below), rest, after) (ap (λ z. (a ++ k ∷ []) ∷ z) (append_assoc (under (a ++ k ∷ []) (paths_from 0 u.below)) (under a later) (after_of a t)))

-- after a node with a child comes the first child
pub rest_of-first_child : (a : List ℕ) (t s u : LabelTree) → node_at a t ≡ Some s → tree_of s.below 0 ≡ Some u → rest_of a t ≡ (a ++ 0 ∷ []) ∷ rest_of (a ++ 0 ∷ []) t
rest_of-first_child a t s u at here =
    rest_of-after_of a t s at ∙ ap (λ f. under a (paths_from 0 f) ++ after_of a t) (row_first s.below u here) ∙ turns_off a 0 t s u at here

-- after a node without children comes what comes after all below it
pub rest_of-leaf : (a : List ℕ) (t s : LabelTree) → node_at a t ≡ Some s → length_of s.below ≡ 0 → rest_of a t ≡ after_of a t
rest_of-leaf a t s at none = rest_of-after_of a t s at ∙ ap (λ f. under a (paths_from 0 f) ++ after_of a t) (no_trees s.below none)
  where
    no_trees : (f : Row) → length_of f ≡ 0 → f ≡ no_nodes
    no_trees no_nodes none = refl
    no_trees (node l below next) none = absurd (omega arith)

-- after a child and all below it comes the next child
pub after_of-next : (a : List ℕ) (k : ℕ) (t s u : LabelTree) → node_at a t ≡ Some s → tree_of s.below (suc k) ≡ Some u
    → after_of (a ++ k ∷ []) t ≡ (a ++ suc k ∷ []) ∷ rest_of (a ++ suc k ∷ []) t
after_of-next a k t s u at here =
    after_of-child a k t s at ∙ ap (λ f. under a (paths_from (suc k) f) ++ after_of a t) (trees_after-next s.below k u here) ∙ turns_off a (suc k) t s u at here

-- after the last child and all below it comes what comes after the parent and all below it
pub after_of-last : (a : List ℕ) (k : ℕ) (t s : LabelTree) → node_at a t ≡ Some s → length_of s.below ≤ suc k → after_of (a ++ k ∷ []) t ≡ after_of a t
after_of-last a k t s at last = after_of-child a k t s at ∙ ap (λ f. under a (paths_from (suc k) f) ++ after_of a t) (trees_after-last s.below k last)

-- Paths of the nodes above one, and what a join asks of these.
use Rattle.std.proofs.Common.{◌≡◌, ◌⊎◌, ℕ, ◌+◌, ◌-◌, ◌<◌, ◌≤◌, List, [], ◌∷◌, length, take, Some, None, option_map, refl, sym, ap, ◌∙◌, subst, inl, inr, arith}
use Rattle.std.proofs.Math.Seq.{take-length}
use Rattle.std.proofs.lemmas.Bool.{cases_eq}
use Rattle.std.proofs.lemmas.List.{length-take-le}
use Rattle.tree_sem.specs.Trees.{LabelTree, node_at}
use Rattle.tree_sem.specs.Paths.{parent_of, IsAncestor}
use Rattle.tree_sem.specs.TreeNodes.{TreeNode, node_of, parent_node}
use Rattle.tree_sem.proofs.PathLemmas.{take_take, parent_of-none, parent_of-take}
use Rattle.tree_sem.specs.Nodes.{HasAtoms}
use Rattle.sel_text.specs.declared.selectors.Compound.{Compound}
use Rattle.sel_text.specs.declared.selectors.Join.TheVariants.{Inside, Child}
use Rattle.sel_core.specs.Selectors.{IsAbove, Above, Matches}
use Rattle.sel_text.specs.Selectors.{Selector, Join, Outer, child, inside}
use Rattle.sel_text.specs.Parts.{and_then}
use Rattle.sel_core.specs.Places.{IsUpTo}

pub up_to_itself : (v : List ℕ) → IsUpTo v v
up_to_itself v = (length v, omega arith, sym (take-length v))

-- a parent is one number shorter
pub parent_take : (v p : List ℕ) → parent_of v ≡ Some p → (0 < length v) × (p ≡ take (length v - 1) v) × (length p + 1 ≡ length v)
parent_take [] p up = cc
parent_take (k ∷ v) p up =
    let whole = k ∷ v in
    let both : Some (take (length whole - 1) whole) ≡ Some p = sym (parent_of-take whole (omega arith)) ∙ up in
    let same : take (length whole - 1) whole ≡ p = cc in
    let size = length-take-le (length whole - 1) whole (omega arith) in
    let long = ap length same in
    (omega arith, sym same, omega (arith, size, long))

pub parent_above : (v p : List ℕ) → parent_of v ≡ Some p → IsAncestor p v
parent_above v p up = let is = parent_take v p up in (length v - 1, omega (arith, is.0), is.1)

-- what is above a node is its parent, or above that
pub above_parent : (v p u : List ℕ) → parent_of v ≡ Some p → IsAncestor u v → IsUpTo u p
above_parent v p u up (n, less, is) =
    let higher = parent_take v p up in
    (n, omega (arith, higher.2), is ∙ sym (take_take n (length v - 1) v (omega arith)) ∙ ap (take n) (sym higher.1))

-- the root has no node above it
pub above_root : (v u : List ℕ) → parent_of v ≡ None → IsAncestor u v → ⊥
above_root v u none (n, less, is) = let long = ap length (parent_of-none v none) in omega (arith, less, long)

-- a node above one above
pub above_up_to : (u v w : List ℕ) → IsAncestor u v → IsUpTo v w → IsAncestor u w
above_up_to u v w (m, less, is) (n, within, at) =
    let long : length v ≡ n = ap length at ∙ length-take-le n w within in
    (m, omega (arith, long), is ∙ ap (take m) at ∙ take_take m n w (omega (arith, long)))

pub above_within : (u v : List ℕ) → IsAncestor u v → IsUpTo u v
above_within u v (n, less, is) = (n, omega (arith, less), is)

-- a node that is up to another is that one or above it
pub up_to_cases : (u v : List ℕ) → IsUpTo u v → (u ≡ v) ⊎ IsAncestor u v
up_to_cases u v (n, within, is) = elim (cases_eq n (length v)) [
  | inl same ↦ inl (is ∙ ap (λ m. take m v) same ∙ take-length v)
  | inr other ↦ inr (n, omega arith, is)
]

-- the parents of two such
pub parents_up_to : (u v p q : List ℕ) → IsUpTo u v → parent_of u ≡ Some p → parent_of v ≡ Some q → IsUpTo p q
parents_up_to u v p q up of_u of_v = above_parent v q p of_v (above_up_to p u v (parent_above u p of_u) up)

-- what is asked above a level is the same for a path that ends there
level_within : (j : Join) (m n k : ℕ) → n ≤ k → IsAbove j m n → m ≤ k
level_within child m n k le is = omega (arith, is)
level_within inside m n k le is = omega (arith, is)

above_take : (t : LabelTree) (v : List ℕ) (k n : ℕ) → n ≤ k → (outer : List Outer) → Above t v n outer → Above t (take k v) n outer
above_take t v k n le [] above = tt
above_take t v k n le (o ∷ outer) (m, is, fits, above) =
    let within = level_within o.join m n k le is in
    (m, is, subst (λ p. HasAtoms t p o.atoms) (sym (take_take m k v within)) fits, above_take t v k m within outer above)

take_above : (t : LabelTree) (v : List ℕ) (k n : ℕ) → n ≤ k → (outer : List Outer) → Above t (take k v) n outer → Above t v n outer
take_above t v k n le [] above = tt
take_above t v k n le (o ∷ outer) (m, is, fits, above) =
    let within = level_within o.join m n k le is in
    (m, is, subst (λ p. HasAtoms t p o.atoms) (take_take m k v within) fits, take_above t v k m within outer above)

-- a selector matches a node above where its last compound fits, and the others match above that level
matches_take : (t : LabelTree) (v : List ℕ) (m : ℕ) → m ≤ length v → (s : Selector) → HasAtoms t (take m v) s.subject → Above t v m s.outer → Matches t (take m v) s
matches_take t v m le s fits above = (fits, subst (λ n. Above t (take m v) n s.outer) (sym (length-take-le m v le)) (above_take t v m m (omega arith) s.outer above))

take_matches : (t : LabelTree) (v : List ℕ) (m : ℕ) → m ≤ length v → (s : Selector) → Matches t (take m v) s → HasAtoms t (take m v) s.subject × Above t v m s.outer
take_matches t v m le s (fits, above) = (fits, take_above t v m m (omega arith) s.outer (subst (λ n. Above t (take m v) n s.outer) (length-take-le m v le) above))

module _ (t : LabelTree) (v : List ℕ) (front : Selector) (c : Compound) where
  -- behind a `>`, the front matches the parent
  pub child_matches : (p : List ℕ) → parent_of v ≡ Some p → HasAtoms t v c.atoms → Matches t p front → Matches t v (and_then front Child c)
  child_matches p up fits matches =
      let is = parent_take v p up in
      let parts = take_matches t v (length v - 1) (omega arith) front (subst (λ u. Matches t u front) is.1 matches) in
      (fits, (length v - 1, omega (arith, is.0), parts.0, parts.1))

  pub matches_child : (p : List ℕ) → parent_of v ≡ Some p → Matches t v (and_then front Child c) → Matches t p front
  matches_child p up (fits, (m, is, last, above)) =
      let top = parent_take v p up in
      let same : m ≡ length v - 1 = omega (arith, is) in
      subst (λ u. Matches t u front) (ap (λ n. take n v) same ∙ sym top.1) (matches_take t v m (omega (arith, is)) front last above)

  pub root_matches : parent_of v ≡ None → Matches t v (and_then front Child c) → ⊥
  root_matches none (fits, (m, is, last, above)) = let long = ap length (parent_of-none v none) in omega (arith, is, long)

  -- behind a join that is no `>`, some node above
  pub inside_matches : (u : List ℕ) → IsAncestor u v → HasAtoms t v c.atoms → Matches t u front → Matches t v (and_then front Inside c)
  inside_matches u (n, less, is) fits matches =
      let parts = take_matches t v n (omega (arith, less)) front (subst (λ w. Matches t w front) is matches) in
      (fits, (n, less, parts.0, parts.1))

  pub matches_inside : Matches t v (and_then front Inside c) → (u : List ℕ) × IsAncestor u v × Matches t u front
  matches_inside (fits, (m, less, last, above)) = (take m v, (m, less, refl), matches_take t v m (omega (arith, less)) front last above)

-- what is said of a parent
pub parent_is : (n m : TreeNode) → Some m ≡ parent_node n → (p : List ℕ) × (parent_of n.path ≡ Some p) × (m.tree ≡ n.tree) × (m.path ≡ p)
parent_is n m is = elim (parent_of n.path) as (λ o. parent_of n.path ≡ o → Some m ≡ option_map (λ v. let q : TreeNode = record { tree = n.tree; path = v } in q) o → (p : List ℕ) × (parent_of n.path ≡ Some p) × (m.tree ≡ n.tree) × (m.path ≡ p)) [
  | None ↦ λ e is. cc
  | Some p ↦ λ e is. let q : TreeNode = record { tree = n.tree; path = p } in let same : m ≡ q = cc in (p, e, ap (λ (z : TreeNode). z.tree) same, ap (λ (z : TreeNode). z.path) same)
] refl is

pub parent_none : (n : TreeNode) → None ≡ parent_node n → parent_of n.path ≡ None
parent_none n none = elim (parent_of n.path) as (λ o. None ≡ option_map (λ v. let q : TreeNode = record { tree = n.tree; path = v } in q) o → o ≡ None) [
  | None ↦ λ is. refl
  | Some p ↦ λ is. cc
] none

-- and of a node that was found
pub node_is : (t : LabelTree) (v : List ℕ) (n : TreeNode) → Some n ≡ node_of t v → (n.tree ≡ t) × (n.path ≡ v)
node_is t v n is = elim (node_at v t) as (λ o. Some n ≡ option_map (λ s. let q : TreeNode = record { tree = t; path = v } in q) o → (n.tree ≡ t) × (n.path ≡ v)) [
  | None ↦ λ is. cc
  | Some s ↦ λ is. let q : TreeNode = record { tree = t; path = v } in let same : n ≡ q = cc in (ap (λ (z : TreeNode). z.tree) same, ap (λ (z : TreeNode). z.path) same)
] is

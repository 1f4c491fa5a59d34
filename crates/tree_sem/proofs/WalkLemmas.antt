-- A step of a walk in the order of the document: down to the first child, or up to a node that has a later child.
use Rattle.std.proofs.Common.{◌≡◌, ℕ, zero, suc, ◌+◌, ◌<◌, ◌≤◌, List, [], ◌∷◌, ◌++◌, length, take, Some, IsSome, option_map, unwrap_or, Result, Ok, Err, OnErr, refl, ap, ◌∙◌, add-one, arith}
use Rattle.tree_sem.specs.Trees.{LabelTree, tree_of, length_of, node_at}
use Rattle.tree_sem.specs.Order.{rest_of}
use Rattle.tree_sem.proofs.RowLemmas.{tree_of-within, tree_of-number, there, node_at-child, child_node_at}
use Rattle.tree_sem.proofs.OrderLemmas.{after_of, rest_of-first_child, rest_of-leaf, after_of-next, after_of-last}

-- the way up from v has come to a, and all below a is behind it
pub record IsUp (t : LabelTree) (v a : List ℕ) : Type 0 where
  pub rest : rest_of v t ≡ after_of a t
  pub node : IsSome (node_at a t)
  pub len : ℕ
  pub part : a ≡ take len v

-- w is the next node after v
pub record IsNext (t : LabelTree) (v w : List ℕ) : Type 0 where
  pub rest : rest_of v t ≡ w ∷ rest_of w t
  pub node : IsSome (node_at w t)

part_whole : (a : List ℕ) → a ≡ take (length a) a
part_whole [] = refl
part_whole (x ∷ a) = ap (λ z. x ∷ z) (part_whole a)

-- where the first push fails, the path stays whole
pub unmoved : {T E : Type 0} (r : Result T E) (v w : List ℕ) → w ≡ v → OnErr r ((len : ℕ) × (w ≡ take len v))
unmoved (Ok x) v w same = tt
unmoved (Err e) v w same = (length v, same ∙ part_whole v)

part_above : (a v : List ℕ) (k len : ℕ) → a ++ k ∷ [] ≡ take len v → a ≡ take (length a) v
part_above [] v k len is = refl
part_above (x ∷ a) [] k zero is = cc
part_above (x ∷ a) [] k (suc len) is = cc
part_above (x ∷ a) (y ∷ v) k zero is = cc
part_above (x ∷ a) (y ∷ v) k (suc len) is =
    let first : x ≡ y = cc in
    let rest : a ++ k ∷ [] ≡ take len v = cc in
    λ i. first i ∷ part_above a v k len rest i

module _ (t : LabelTree) (a : List ℕ) (n : ℕ) (has : n ≡ unwrap_or (option_map (λ (s : LabelTree). length_of s.below) (node_at a t)) 0) where
  children_of : (s : LabelTree) → node_at a t ≡ Some s → n ≡ length_of s.below
  children_of s at = has ∙ ap (λ o. unwrap_or (option_map (λ (s : LabelTree). length_of s.below) o) 0) at

  child_next : (v : List ℕ) (k : ℕ) (s : LabelTree) → node_at a t ≡ Some s → k < n → ((u : LabelTree) → tree_of s.below k ≡ Some u → rest_of v t ≡ (a ++ k ∷ []) ∷ rest_of (a ++ k ∷ []) t)
      → IsNext t v (a ++ k ∷ [])
  child_next v k s at lt rest =
      let count = children_of s at in
      let child = there (tree_of s.below k) (tree_of-within s.below k (omega arith)) in
      record { rest = rest child.0 child.1; node = rw (child_node_at a k t s child.0 at child.1) refl }

  pub first_child : IsSome (node_at a t) → 0 < n → IsNext t a (a ++ 0 ∷ [])
  first_child is some = let node = there (node_at a t) is in child_next a 0 node.0 node.1 some (λ u at. rest_of-first_child a t node.0 u node.1 at)

  pub leaf_up : IsSome (node_at a t) → n ≤ 0 → IsUp t a a
  leaf_up is none =
      let node = there (node_at a t) is in
      let count = children_of node.0 node.1 in
      record { rest = rest_of-leaf a t node.0 node.1 (omega arith); node = is; len = length a; part = part_whole a }

  module _ (v : List ℕ) (k : ℕ) (up : IsUp t v (a ++ k ∷ [])) where
    pub parent_part : a ≡ take (length a) v
    parent_part = part_above a v k up.len up.part

    -- where a walk is stopped on its way up, it is above the place from which it came
    pub above : {T E : Type 0} (r : Result T E) (w : List ℕ) → w ≡ a → OnErr r ((len : ℕ) × (w ≡ take len v))
    above (Ok x) w same = tt
    above (Err e) w same = (length a, same ∙ parent_part)

    pub child_within : k < n
    child_within =
        let family = node_at-child a k t up.node in
        let count = children_of family.0 family.2 in
        omega (arith, tree_of-number family.0.below k family.1 family.3)

    pub next_child : k + 1 < n → IsNext t v (a ++ (k + 1) ∷ [])
    next_child more =
        let family = node_at-child a k t up.node in
        rw add-one (child_next v (suc k) family.0 family.2 (omega arith) (λ u at. up.rest ∙ after_of-next a k t family.0 u family.2 at))

    pub last_child : n ≤ k + 1 → IsUp t v a
    last_child last =
        let family = node_at-child a k t up.node in
        let count = children_of family.0 family.2 in
        record { rest = up.rest ∙ after_of-last a k t family.0 family.2 (omega arith); node = rw family.2 refl; len = length a; part = parent_part }

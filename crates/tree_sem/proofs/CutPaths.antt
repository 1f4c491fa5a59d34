-- The node at a path is cut off its parent.
use Rattle.std.proofs.Common.{◌≡◌, ◌↔◌, ℕ, zero, suc, ◌-◌, ◌<◌, ◌≤◌, Bool, true, false, List, [], ◌∷◌, ◌++◌, length, take, Some, None, IsSome, IsTrue, option_map, option_and_then, unwrap_or, slice_get, refl, sym, ap, ◌∙◌, subst, length-append, arith}
use Rattle.tp_base.proofs.Lists.{slice_get-push}
use Rattle.tree_sem.specs.Cuts.{drop_tree, drop_child, cut_at}
use Rattle.tree_sem.specs.Nodes.{IsNode}
use Rattle.tree_sem.specs.Paths.{last_number}
use Rattle.tree_sem.specs.Trees.{Row, no_nodes, node, LabelTree, tree_of, length_of, node_at, edit_at}
use Rattle.tree_sem.proofs.EditLemmas.{edit_at-none, edit_at-same}
use Rattle.tree_sem.proofs.PathLemmas.{parent_of-take, child_of_parent, last_number-child}
use Rattle.tree_sem.proofs.RowLemmas.{node_at-append, tree_of-past, tree_of-within}

drop_tree-past : (r : Row) (k : ℕ) → length_of r ≤ k → drop_tree r k ≡ r
drop_tree-past no_nodes k past = refl
drop_tree-past (node l below next) zero past = absurd (omega arith)
drop_tree-past (node l below next) (suc k) past = ap (λ r. node l below r) (drop_tree-past next k (omega arith))

-- what a cut says: whether it was done, and the tree behind it
abbrev pub IsCut : LabelTree → List ℕ → Bool → Type 0
IsCut t v done = IsTrue done ↔ (IsNode t v × 0 < length v)

module _ (t : LabelTree) (v : List ℕ) (k : ℕ) (some : 0 < length v) (last : slice_get v (length v - 1) ≡ Some k) where
  abbrev p : List ℕ
  p = take (length v - 1) v

  split : v ≡ p ++ k ∷ []
  split =
      let found = child_of_parent v p (parent_of-take v some) in
      let long = ap length found.1 in
      let number : length v - 1 ≡ length p = omega (arith, long, length-append p (found.0 ∷ [])) in
      let both : Some found.0 ≡ Some k = sym (slice_get-push p found.0) ∙ ap (λ z. slice_get z (length p)) (sym found.1) ∙ ap (slice_get v) (sym number) ∙ last in
      let same : found.0 ≡ k = cc in
      found.1 ∙ ap (λ z. p ++ z ∷ []) same

  pub cut_is : cut_at v t ≡ edit_at p (drop_child k) t
  cut_is =
      ap (λ o. unwrap_or (option_map (λ q. edit_at q (drop_child (last_number v)) t) o) t) (parent_of-take v some)
      ∙ ap (λ n. edit_at p (drop_child n) t) (ap last_number split ∙ last_number-child p k)

  node_is : node_at v t ≡ option_and_then (node_at (k ∷ [])) (node_at p t)
  node_is = ap (λ z. node_at z t) split ∙ node_at-append p (k ∷ []) t

  pub parent_missing : node_at p t ≡ None → (t ≡ cut_at v t) × IsCut t v false
  parent_missing none =
      let nothing : node_at v t ≡ None = node_is ∙ ap (option_and_then (node_at (k ∷ []))) none in
      (sym (cut_is ∙ edit_at-none p (drop_child k) t none), (λ no. cc, λ both. let never : IsSome {T = LabelTree} None = subst (λ o. IsSome o) nothing both.0 in cc))

  module _ (s : LabelTree) (at : node_at p t ≡ Some s) where
    pub child_missing : length_of s.below ≤ k → (t ≡ cut_at v t) × IsCut t v false
    child_missing past =
        let nothing : node_at v t ≡ None = node_is ∙ ap (option_and_then (node_at (k ∷ []))) at ∙ ap (option_and_then (node_at [])) (tree_of-past s.below k past) in (
          sym (cut_is ∙ edit_at-same p (drop_child k) t (λ z here.
              let both : Some s ≡ Some z = sym at ∙ here in
              let same : s ≡ z = cc in
              let row = drop_tree-past z.below k (omega (arith, past, ap (λ (y : LabelTree). length_of y.below) same)) in
              λ i. record { label = z.label; below = row i })),
          (λ no. cc, λ both. let never : IsSome {T = LabelTree} None = subst (λ o. IsSome o) nothing both.0 in cc),
        )

    pub child_cut : k < length_of s.below → IsCut t v true
    child_cut less =
        let within = tree_of-within s.below k less in
        let is : IsNode t v = subst (λ o. IsSome o) (sym (node_is ∙ ap (option_and_then (node_at (k ∷ []))) at)) (elim (tree_of s.below k) as (λ o. IsSome o → IsSome (option_and_then (node_at []) o)) [ None ↦ λ z. z | Some u ↦ λ z. refl ] within) in
        (λ yes. (is, some), λ both. refl)

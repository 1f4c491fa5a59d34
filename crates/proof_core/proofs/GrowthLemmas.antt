-- Trees that get more classes at a node, or more children below it: what stays, and what is new.
use Rattle.std.proofs.Common.{◌≡◌, ◌≢◌, ℕ, ◌+◌, List, [], ◌∷◌, ◌++◌, fold, Some, None, IsSome, option_and_then, option_map, inl, inr, refl, ap, ◌∙◌, arith}
use Rattle.std.proofs.lemmas.Bool.{cases_order}
use Rattle.tree_sem.specs.Trees.{LabelTree, tree_of, length_of, push_tree, node_at, children_at, edit_at}
use Rattle.tree_sem.specs.Actions.{add_trees}
use Rattle.tree_sem.proofs.EditLemmas.{tree_of-edit_tree, tree_of-edit_tree_other, length_of-edit_tree}
use Rattle.tree_sem.proofs.RowLemmas.{node_at-append, tree_of-past}
use Rattle.tree_sem.proofs.GrowthLemmas.{all_pushed_stay}

-- and at another node, where f leaves those that were below it
pub children_elsewhere : (f : LabelTree → LabelTree) → ((s : LabelTree) (m : ℕ) (r : List ℕ) → IsSome (node_at (m ∷ r) s) → children_at (m ∷ r) (f s) ≡ children_at (m ∷ r) s)
    → (p q : List ℕ) (t : LabelTree) → q ≢ p → IsSome (node_at q t) → children_at q (edit_at p f t) ≡ children_at q t
children_elsewhere f each [] [] t other is = absurd (other refl)
children_elsewhere f each [] (m ∷ q) t other is = each t m q is
children_elsewhere f each (k ∷ p) [] t other is = ap Some (length_of-edit_tree (edit_at p f) t.below k)
children_elsewhere f each (k ∷ p) (m ∷ q) t other is = elim (cases_order m k) [
  | inl same ↦
      rw (same, tree_of-edit_tree (edit_at p f) t.below k)
      (elim (tree_of t.below k) as (λ o. IsSome (option_and_then (node_at q) o) → option_map (λ (n : LabelTree). length_of n.below) (option_and_then (node_at q) (option_map (edit_at p f) o)) ≡ option_map (λ n. length_of n.below) (option_and_then (node_at q) o)) [
        | None ↦ λ h. refl
        | Some c ↦ λ h. children_elsewhere f each p q c (λ e. other (λ i. same i ∷ e i)) h
      ] (rw same at is))
  | inr (inl less) ↦ ap (λ o. option_map (λ (n : LabelTree). length_of n.below) (option_and_then (node_at q) o)) (tree_of-edit_tree_other (edit_at p f) t.below k m (λ e. omega arith))
  | inr (inr more) ↦ ap (λ o. option_map (λ (n : LabelTree). length_of n.below) (option_and_then (node_at q) o)) (tree_of-edit_tree_other (edit_at p f) t.below k m (λ e. omega arith))
]

-- Trees that are added last below the node at v, which is s.
module _ (v : List ℕ) (tops : List LabelTree) (t s : LabelTree) (at : node_at v t ≡ Some s) where
  pub children_at-add_trees_other : (q : List ℕ) → q ≢ v → IsSome (node_at q t) → children_at q (edit_at v (add_trees tops) t) ≡ children_at q t
  children_at-add_trees_other q other is = children_elsewhere (add_trees tops) below v q t other is
    where
      below : (s : LabelTree) (m : ℕ) (r : List ℕ) → IsSome (node_at (m ∷ r) s) → children_at (m ∷ r) (add_trees tops s) ≡ children_at (m ∷ r) s
      below s m r is =
          elim (tree_of s.below m) as (λ o. tree_of s.below m ≡ o → IsSome (option_and_then (node_at r) o) → option_map (λ (n : LabelTree). length_of n.below) (option_and_then (node_at r) (tree_of (fold push_tree s.below tops) m)) ≡ option_map (λ n. length_of n.below) (option_and_then (node_at r) o)) [
            | None ↦ λ e h. cc
            | Some c ↦ λ e h. rw (all_pushed_stay tops s.below m c e)
          ] refl is

  -- no node was there before
  pub node_at-add_trees_none : (n : ℕ) (q : List ℕ) → node_at (v ++ (length_of s.below + n) ∷ q) t ≡ None
  node_at-add_trees_none n q = node_at-append v ((length_of s.below + n) ∷ q) t ∙ ap (option_and_then (node_at ((length_of s.below + n) ∷ q))) at ∙ ap (option_and_then (node_at q)) (tree_of-past s.below (length_of s.below + n) (omega arith))

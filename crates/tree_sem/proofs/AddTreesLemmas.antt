-- What trees that are added below a node leave of the others.
use Rattle.std.proofs.Common.{◌≡◌, ◌≢◌, ℕ, zero, suc, ◌+◌, List, [], ◌∷◌, ◌++◌, length, Some, None, IsSome, option_map, option_and_then, slice_get, fold, refl, ap, ◌∙◌, inl, inr, append-nil, arith}
use Rattle.std.proofs.lemmas.Bool.{cases_order}
use Rattle.tree_sem.specs.Trees.{Row, LabelTree, tree_of, length_of, push_tree, edit_tree, node_at, label_at, children_at, edit_at}
use Rattle.tree_sem.specs.Nodes.{IsNode}
use Rattle.tree_sem.specs.Actions.{add_trees}
use Rattle.tree_sem.proofs.EditLemmas.{tree_of-edit_tree, tree_of-edit_tree_other, length_of-edit_tree, tree_of-push_tree, length_of-push_tree, node_at-edit_at, node_at-edit_at_below}
use Rattle.tree_sem.proofs.GrowthLemmas.{all_pushed_stay}

-- What is seen of each old node stays, if an edit of a row doesn't show, and f leaves it at the paths of P below its node.
module _ {X : Type 0} (see : LabelTree → X) (inner : (h : LabelTree → LabelTree) (k : ℕ) (t : LabelTree) → see (record t { below = edit_tree h t.below k }) ≡ see t)
    (f : LabelTree → LabelTree) (P : List ℕ → Type 0) (keeps : (s : LabelTree) (r : List ℕ) → P r → IsNode s r → option_map see (node_at r (f s)) ≡ option_map see (node_at r s)) where
  seen_still : (p q : List ℕ) (t : LabelTree) → ((r : List ℕ) → q ≡ p ++ r → P r) → IsNode t q → option_map see (node_at q (edit_at p f t)) ≡ option_map see (node_at q t)
  seen_still [] q t apart is = keeps t q (apart q refl) is
  seen_still (k ∷ p) [] t apart is = ap Some (inner (edit_at p f) k t)
  seen_still (k ∷ p) (m ∷ q) t apart is = elim (cases_order m k) [
    | inl same ↦
        rw (same, tree_of-edit_tree (edit_at p f) t.below k)
        (elim (tree_of t.below k) as (λ o. IsSome (option_and_then (node_at q) o) → option_map see (option_and_then (node_at q) (option_map (edit_at p f) o)) ≡ option_map see (option_and_then (node_at q) o)) [
          | None ↦ λ is. refl
          | Some s ↦ λ is. seen_still p q s (λ r e. apart r (λ i. same i ∷ e i)) is
        ] (rw same at is))
    | inr (inl less) ↦ ap (λ o. option_map see (option_and_then (node_at q) o)) (tree_of-edit_tree_other (edit_at p f) t.below k m (λ e. omega arith))
    | inr (inr more) ↦ ap (λ o. option_map see (option_and_then (node_at q) o)) (tree_of-edit_tree_other (edit_at p f) t.below k m (λ e. omega arith))
  ]

-- below the node, what was there stays
old_below : (tops : List LabelTree) (s : LabelTree) (m : ℕ) (r : List ℕ) → IsNode s (m ∷ r) → node_at (m ∷ r) (add_trees tops s) ≡ node_at (m ∷ r) s
old_below tops s m r is = elim (tree_of s.below m) as (λ o. tree_of s.below m ≡ o → IsSome (option_and_then (node_at r) o) → option_and_then (node_at r) (tree_of (fold push_tree s.below tops) m) ≡ option_and_then (node_at r) o) [
  | None ↦ λ e is. cc
  | Some c ↦ λ e is. ap (option_and_then (node_at r)) (all_pushed_stay tops s.below m c e)
] refl is

-- an old node has its label still
pub label_at-add_trees_old : (p q : List ℕ) (tops : List LabelTree) (t : LabelTree) → IsNode t q → label_at q (edit_at p (add_trees tops) t) ≡ label_at q t
label_at-add_trees_old p q tops t is = seen_still (λ n. n.label) (λ h k s. refl) (add_trees tops) (λ r. Unit {0}) (λ s r any is. below s r is) p q t (λ r e. tt) is
  where
    below : (s : LabelTree) (r : List ℕ) → IsNode s r → label_at r (add_trees tops s) ≡ label_at r s
    below s [] is = refl
    below s (m ∷ r) is = ap (option_map (λ (n : LabelTree). n.label)) (old_below tops s m r is)

-- and another than theirs its number of children
pub children_at-add_trees_other : (p q : List ℕ) (tops : List LabelTree) (t : LabelTree) → q ≢ p → IsNode t q → children_at q (edit_at p (add_trees tops) t) ≡ children_at q t
children_at-add_trees_other p q tops t other is =
    seen_still (λ n. length_of n.below) (λ h k s. length_of-edit_tree h s.below k) (add_trees tops) (λ r. r ≢ []) (λ s r more is. below s r more is) p q t
    (λ r e none. other (e ∙ ap (λ z. p ++ z) none ∙ append-nil p)) is
  where
    below : (s : LabelTree) (r : List ℕ) → r ≢ [] → IsNode s r → children_at r (add_trees tops s) ≡ children_at r s
    below s [] more is = absurd (more refl)
    below s (m ∷ r) more is = ap (option_map (λ (n : LabelTree). length_of n.below)) (old_below tops s m r is)

pub length_of-push_trees : (tops : List LabelTree) (r : Row) → length_of (fold push_tree r tops) ≡ length_of r + length tops
length_of-push_trees [] r = omega arith
length_of-push_trees (t ∷ tops) r = omega (arith, length_of-push_trees tops (push_tree r t), length_of-push_tree r t)

pub tree_of-push_trees : (tops : List LabelTree) (r : Row) (i : ℕ) (top : LabelTree) → slice_get tops i ≡ Some top → tree_of (fold push_tree r tops) (length_of r + i) ≡ Some top
tree_of-push_trees [] r i top at = cc
tree_of-push_trees (t ∷ tops) r zero top at =
    let number : length_of r + 0 ≡ length_of r = omega arith in
    rw number (all_pushed_stay tops (push_tree r t) (length_of r) top (tree_of-push_tree r t ∙ at))
tree_of-push_trees (t ∷ tops) r (suc i) top at =
    let number : length_of r + suc i ≡ length_of (push_tree r t) + i = omega (arith, length_of-push_tree r t) in
    rw number (tree_of-push_trees tops (push_tree r t) i top at)

-- the node has the trees behind its children
module _ (p : List ℕ) (tops : List LabelTree) (t s : LabelTree) (at : node_at p t ≡ Some s) where
  pub children_at-add_trees : children_at p (edit_at p (add_trees tops) t) ≡ Some (length_of s.below + length tops)
  children_at-add_trees = rw (node_at-edit_at p (add_trees tops) t, at) (ap Some (length_of-push_trees tops s.below))

  pub node_at-add_trees_new : (i : ℕ) (top : LabelTree) → slice_get tops i ≡ Some top → (q : List ℕ) → node_at (p ++ (length_of s.below + i) ∷ q) (edit_at p (add_trees tops) t) ≡ node_at q top
  node_at-add_trees_new i top here q =
      node_at-edit_at_below p ((length_of s.below + i) ∷ q) (add_trees tops) t s at ∙ ap (option_and_then (node_at q)) (tree_of-push_trees tops s.below i top here)

-- Trees that are taken away again.
use Rattle.std.proofs.Common.{◌≡◌, ℕ, ◌+◌, ◌-◌, ◌<◌, List, [], length, take, get_or, refl, ap, ◌∙◌, arith}
use Rattle.tree_sem.specs.Actions.{add_trees}
use Rattle.tree_sem.specs.Cuts.{drop_tree, drop_last}
use Rattle.tree_sem.specs.Trees.{Row, no_nodes, node, LabelTree, length_of, push_tree, edit_at, add_tree}
use Rattle.tree_sem.proofs.EachLemmas.{add_trees-more}
use Rattle.tree_sem.proofs.EditLemmas.{edit_at-same, edit_at-edit_at, length_of-push_tree}

pub drop_tree-push_tree : (r : Row) (t : LabelTree) → drop_tree (push_tree r t) (length_of r) ≡ r
drop_tree-push_tree no_nodes t = refl
drop_tree-push_tree (node l below next) t = ap (λ z. node l below z) (drop_tree-push_tree next t)

pub drop_tree-none : (r : Row) (k : ℕ) → length_of r ≡ 0 → drop_tree r k ≡ r
drop_tree-none no_nodes k none = refl
drop_tree-none (node l below next) k none = absurd (omega arith)

pub drop_last-none : (t : LabelTree) → length_of t.below ≡ 0 → drop_last t ≡ t
drop_last-none t none = let row = drop_tree-none t.below (length_of t.below - 1) none in λ i. record { label = t.label; below = row i }

pub drop_last-add_tree : (u t : LabelTree) → drop_last (add_tree u t) ≡ t
drop_last-add_tree u t =
    let number : length_of (push_tree t.below u) - 1 ≡ length_of t.below = omega (arith, length_of-push_tree t.below u) in
    let row = ap (drop_tree (push_tree t.below u)) number ∙ drop_tree-push_tree t.below u in
    λ i. record { label = t.label; below = row i }

-- one tree less
pub one_dropped : (p : List ℕ) (t : LabelTree) (tops : List LabelTree) (k : ℕ) (d : LabelTree) → k < length tops → edit_at p drop_last (edit_at p (add_trees (take (k + 1) tops)) t) ≡ edit_at p (add_trees (take k tops)) t
one_dropped p t tops k d within =
    let u = get_or tops k d in
    let mid = edit_at p (add_trees (take k tops)) t in
    ap (edit_at p drop_last) (add_trees-more p t tops k d within) ∙ edit_at-edit_at p drop_last (add_tree u) mid
    ∙ edit_at-same p (λ s. drop_last (add_tree u s)) mid (λ s at. drop_last-add_tree u s)

pub none_added : (p : List ℕ) (t : LabelTree) → edit_at p (add_trees []) t ≡ t
none_added p t = edit_at-same p (add_trees []) t (λ s at. refl)

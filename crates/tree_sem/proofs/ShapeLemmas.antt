-- What depends on the shape of a tree alone, and not on its labels.
use Rattle.std.proofs.Common.{◌≡◌, ℕ, zero, suc, List, [], ◌∷◌, ◌++◌, map, Some, None, option_map, unwrap_or, refl, sym, ap, ◌∙◌}
use Rattle.tree_sem.specs.Trees.{Row, no_nodes, node, LabelTree, tree_of, edit_tree, edit_at, add_class}
use Rattle.tree_sem.specs.Order.{paths_from, paths_of, trees_after, rest_of}

-- the same trees, with empty labels
abbrev pub bare : Row → Row
bare no_nodes = no_nodes
bare (node l below next) = node [] (bare below) (bare next)

abbrev pub bare_tree : LabelTree → LabelTree
bare_tree t = record { label = []; below = bare t.below }

pub paths_from-bare : (f : Row) (k : ℕ) → paths_from k (bare f) ≡ paths_from k f
paths_from-bare no_nodes k = refl
paths_from-bare (node l below next) k = λ i. map (λ (p : List ℕ). k ∷ p) ([] ∷ paths_from-bare below 0 i) ++ paths_from-bare next (suc k) i

tree_of-bare : (f : Row) (k : ℕ) → tree_of (bare f) k ≡ option_map bare_tree (tree_of f k)
tree_of-bare no_nodes k = refl
tree_of-bare (node l below next) zero = refl
tree_of-bare (node l below next) (suc k) = tree_of-bare next k

trees_after-bare : (f : Row) (k : ℕ) → trees_after (bare f) k ≡ bare (trees_after f k)
trees_after-bare no_nodes k = refl
trees_after-bare (node l below next) zero = refl
trees_after-bare (node l below next) (suc k) = trees_after-bare next k

pub rest_of-bare : (v : List ℕ) (t : LabelTree) → rest_of v (bare_tree t) ≡ rest_of v t
rest_of-bare [] t = paths_from-bare t.below 0
rest_of-bare (k ∷ v) t =
    rw (tree_of-bare t.below k, trees_after-bare t.below k, paths_from-bare (trees_after t.below k) (suc k))
    (ap (λ z. map (λ (q : List ℕ). k ∷ q) z ++ paths_from (suc k) (trees_after t.below k))
    (elim (tree_of t.below k) as (λ o. unwrap_or (option_map (rest_of v) (option_map bare_tree o)) [] ≡ unwrap_or (option_map (rest_of v) o) []) [
      | None ↦ refl
      | Some u ↦ rest_of-bare v u
    ]))

bare-edit_tree : (f : LabelTree → LabelTree) → ((s : LabelTree) → bare_tree (f s) ≡ bare_tree s) → (r : Row) (k : ℕ) → bare (edit_tree f r k) ≡ bare r
bare-edit_tree f same no_nodes k = refl
bare-edit_tree f same (node l below next) zero = λ i. node [] (same (record { label = l; below = below }) i).below (bare next)
bare-edit_tree f same (node l below next) (suc k) = ap (λ r. node [] (bare below) r) (bare-edit_tree f same next k)

-- an edit that keeps the shape at its node keeps the tree's
pub bare_tree-edit_at : (p : List ℕ) (f : LabelTree → LabelTree) → ((s : LabelTree) → bare_tree (f s) ≡ bare_tree s) → (t : LabelTree) → bare_tree (edit_at p f t) ≡ bare_tree t
bare_tree-edit_at [] f same t = same t
bare_tree-edit_at (k ∷ p) f same t = let row = bare-edit_tree (edit_at p f) (bare_tree-edit_at p f same) t.below k in λ i. record { label = []; below = row i }

-- where the shape is the same, so are the nodes
pub paths_of-same : (t u : LabelTree) → bare_tree t ≡ bare_tree u → paths_of t ≡ paths_of u
paths_of-same t u same = ap (λ z. [] ∷ z) (sym (paths_from-bare t.below 0) ∙ ap (λ (z : LabelTree). paths_from 0 z.below) same ∙ paths_from-bare u.below 0)

pub rest_of-same : (v : List ℕ) (t u : LabelTree) → bare_tree t ≡ bare_tree u → rest_of v t ≡ rest_of v u
rest_of-same v t u same = sym (rest_of-bare v t) ∙ ap (rest_of v) same ∙ rest_of-bare v u

-- a class changes no shape
pub bare_tree-add_class : (p : List ℕ) (a : ℕ) (t : LabelTree) → bare_tree (edit_at p (add_class a) t) ≡ bare_tree t
bare_tree-add_class p a t = bare_tree-edit_at p (add_class a) (λ s. refl) t

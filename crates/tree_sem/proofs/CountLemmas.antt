-- How many nodes a tree has after an edit.
use Rattle.std.proofs.Common.{◌≡◌, ℕ, zero, suc, ◌+◌, ◌≤◌, List, [], ◌∷◌, length, Some, None, option_and_then, fold, refl, sym, ap, subst, arith}
use Rattle.std.specs.List.{sum_by}
use Rattle.std.proofs.lemmas.List.Sums.{sum_by-cons}
use Rattle.tree_sem.specs.Trees.{Row, no_nodes, node, LabelTree, leaf, tree_of, edit_tree, node_at, edit_at, push_tree, length_of, nodes_of, count_of, add_class, add_child}
use Rattle.tree_sem.specs.Cuts.{drop_tree, drop_child}
use Rattle.tree_sem.specs.Actions.{add_classes, add_trees}
use Rattle.tree_sem.proofs.EditLemmas.{edit_at-none}

pub length_of-nodes_of : (r : Row) → length_of r ≤ nodes_of r
length_of-nodes_of no_nodes = omega arith
length_of-nodes_of (node l below next) = omega (arith, length_of-nodes_of next)

pub nodes_of-push_tree : (f : Row) (t : LabelTree) → nodes_of (push_tree f t) ≡ nodes_of f + count_of t
nodes_of-push_tree no_nodes t = omega arith
nodes_of-push_tree (node l below next) t = omega (arith, nodes_of-push_tree next t)

-- where h adds d nodes to the tree of this number, it adds them to the row
nodes_of-edit_tree : (h : LabelTree → LabelTree) (f : Row) (k : ℕ) (s : LabelTree) (d : ℕ) → tree_of f k ≡ Some s → count_of (h s) ≡ count_of s + d → nodes_of (edit_tree h f k) ≡ nodes_of f + d
nodes_of-edit_tree h no_nodes k s d at more = cc
nodes_of-edit_tree h (node l below next) zero s d at more =
    let first : LabelTree = record { label = l; below = below } in
    let same : first ≡ s = cc in
    let more' : count_of (h first) ≡ count_of first + d = subst (λ (z : LabelTree). count_of (h z) ≡ count_of z + d) (sym same) more in
    omega (arith, more')
nodes_of-edit_tree h (node l below next) (suc k) s d at more = omega (arith, nodes_of-edit_tree h next k s d at more)

-- and to the tree above
pub count_of-edit_at : (p : List ℕ) (f : LabelTree → LabelTree) (t s : LabelTree) (d : ℕ) → node_at p t ≡ Some s → count_of (f s) ≡ count_of s + d → count_of (edit_at p f t) ≡ count_of t + d
count_of-edit_at [] f t s d at more = let same : t ≡ s = cc in subst (λ (z : LabelTree). count_of (f z) ≡ count_of z + d) (sym same) more
count_of-edit_at (k ∷ p) f t s d at more =
    elim (tree_of t.below k) as (λ o. tree_of t.below k ≡ o → option_and_then (node_at p) o ≡ Some s → count_of (edit_at (k ∷ p) f t) ≡ count_of t + d) [
      | None ↦ λ e at'. cc
      | Some u ↦ λ e at'.
          let inner = count_of-edit_at p f u s d at' more in
          omega (arith, nodes_of-edit_tree (edit_at p f) t.below k u d e inner)
    ] refl at

-- the same where it takes d nodes away
nodes_of-edit_tree_less : (h : LabelTree → LabelTree) (f : Row) (k : ℕ) (s : LabelTree) (d : ℕ) → tree_of f k ≡ Some s → count_of (h s) + d ≡ count_of s → nodes_of (edit_tree h f k) + d ≡ nodes_of f
nodes_of-edit_tree_less h no_nodes k s d at less = cc
nodes_of-edit_tree_less h (node l below next) zero s d at less =
    let first : LabelTree = record { label = l; below = below } in
    let same : first ≡ s = cc in
    let less' : count_of (h first) + d ≡ count_of first = subst (λ (z : LabelTree). count_of (h z) + d ≡ count_of z) (sym same) less in
    omega (arith, less')
nodes_of-edit_tree_less h (node l below next) (suc k) s d at less = omega (arith, nodes_of-edit_tree_less h next k s d at less)

count_of-edit_at_less : (p : List ℕ) (f : LabelTree → LabelTree) (t s : LabelTree) (d : ℕ) → node_at p t ≡ Some s → count_of (f s) + d ≡ count_of s → count_of (edit_at p f t) + d ≡ count_of t
count_of-edit_at_less [] f t s d at less = let same : t ≡ s = cc in subst (λ (z : LabelTree). count_of (f z) + d ≡ count_of z) (sym same) less
count_of-edit_at_less (k ∷ p) f t s d at less =
    elim (tree_of t.below k) as (λ o. tree_of t.below k ≡ o → option_and_then (node_at p) o ≡ Some s → count_of (edit_at (k ∷ p) f t) + d ≡ count_of t) [
      | None ↦ λ e at'. cc
      | Some u ↦ λ e at'.
          let inner = count_of-edit_at_less p f u s d at' less in
          omega (arith, nodes_of-edit_tree_less (edit_at p f) t.below k u d e inner)
    ] refl at

nodes_of-drop_tree : (r : Row) (k : ℕ) (u : LabelTree) → tree_of r k ≡ Some u → nodes_of (drop_tree r k) + count_of u ≡ nodes_of r
nodes_of-drop_tree no_nodes k u at = cc
nodes_of-drop_tree (node l below next) zero u at =
    let first : LabelTree = record { label = l; below = below } in
    let same : first ≡ u = cc in
    let count = ap count_of same in
    omega (arith, count)
nodes_of-drop_tree (node l below next) (suc k) u at = omega (arith, nodes_of-drop_tree next k u at)

-- a child that is taken away takes its nodes with it
pub count_of-drop_child : (p : List ℕ) (k : ℕ) (t s u : LabelTree) → node_at p t ≡ Some s → tree_of s.below k ≡ Some u → count_of (edit_at p (drop_child k) t) + count_of u ≡ count_of t
count_of-drop_child p k t s u at below = let less = nodes_of-drop_tree s.below k u below in count_of-edit_at_less p (drop_child k) t s (count_of u) at (omega (arith, less))

-- classes add no node, and a child one
pub count_of-add_class : (p : List ℕ) (a : ℕ) (t : LabelTree) → count_of (edit_at p (add_class a) t) ≡ count_of t
count_of-add_class p a t =
    elim (node_at p t) as (λ o. node_at p t ≡ o → count_of (edit_at p (add_class a) t) ≡ count_of t) [
      | None ↦ λ e. ap count_of (edit_at-none p (add_class a) t e)
      | Some s ↦ λ e. let count = count_of-edit_at p (add_class a) t s 0 e (omega arith) in omega arith
    ] refl

pub count_of-add_classes : (p classes : List ℕ) (t : LabelTree) → count_of (edit_at p (add_classes classes) t) ≡ count_of t
count_of-add_classes p classes t =
    elim (node_at p t) as (λ o. node_at p t ≡ o → count_of (edit_at p (add_classes classes) t) ≡ count_of t) [
      | None ↦ λ e. ap count_of (edit_at-none p (add_classes classes) t e)
      | Some s ↦ λ e. let count = count_of-edit_at p (add_classes classes) t s 0 e (omega arith) in omega arith
    ] refl

pub count_of-add_child : (p l : List ℕ) (t s : LabelTree) → node_at p t ≡ Some s → count_of (edit_at p (add_child l) t) ≡ count_of t + 1
count_of-add_child p l t s at = let one = nodes_of-push_tree s.below (leaf l) in count_of-edit_at p (add_child l) t s 1 at (omega arith)

-- trees add their nodes
pub nodes_of-push_trees : (tops : List LabelTree) (r : Row) → nodes_of (fold push_tree r tops) ≡ nodes_of r + sum_by count_of tops
nodes_of-push_trees [] r = omega arith
nodes_of-push_trees (t ∷ tops) r = omega (arith, nodes_of-push_trees tops (push_tree r t), nodes_of-push_tree r t, sum_by-cons count_of t tops)

pub count_of-add_trees : (p : List ℕ) (tops : List LabelTree) (t s : LabelTree) → node_at p t ≡ Some s → count_of (edit_at p (add_trees tops) t) ≡ count_of t + sum_by count_of tops
count_of-add_trees p tops t s at = let more = nodes_of-push_trees tops s.below in count_of-edit_at p (add_trees tops) t s (sum_by count_of tops) at (omega (arith, more))

nodes_of-tree_of : (r : Row) (k : ℕ) (s : LabelTree) → tree_of r k ≡ Some s → count_of s ≤ nodes_of r
nodes_of-tree_of no_nodes k s at = cc
nodes_of-tree_of (node l below next) zero s at =
    let same : record { label = l; below = below } ≡ s = cc in
    let count : count_of (record { label = l; below = below }) ≡ count_of s = ap count_of same in
    omega arith
nodes_of-tree_of (node l below next) (suc k) s at = omega (arith, nodes_of-tree_of next k s at)

-- a path is shorter than the tree has nodes
pub length-node_at : (p : List ℕ) (t s : LabelTree) → node_at p t ≡ Some s → length p + count_of s ≤ count_of t
length-node_at [] t s at = let same : t ≡ s = cc in let count : count_of t ≡ count_of s = ap count_of same in omega arith
length-node_at (k ∷ p) t s at =
    elim (tree_of t.below k) as (λ o. tree_of t.below k ≡ o → option_and_then (node_at p) o ≡ Some s → length (k ∷ p) + count_of s ≤ count_of t) [
      | None ↦ λ e at'. cc
      | Some u ↦ λ e at'. omega (arith, length-node_at p u s at', nodes_of-tree_of t.below k u e)
    ] refl at

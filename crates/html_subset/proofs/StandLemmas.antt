-- Where the current node of a builder is.
use Rattle.std.proofs.Common.{◌≡◌, ℕ, ◌+◌, ◌≤◌, List, [], ◌∷◌, ◌++◌, Option, Some, None, IsSome, IfSome, Contains, refl, sym, ap, ◌∙◌, subst, arith}
use Rattle.tree_sem.specs.Trees.{LabelTree, leaf, length_of, node_at, edit_at, add_child, count_of}
use Rattle.tree_sem.proofs.RowLemmas.{there}
use Rattle.tree_sem.proofs.EditLemmas.{tree_of-push_tree, node_at-edit_at_below}
use Rattle.tree_sem.specs.Actions.{add_classes}
use Rattle.tree_sem.specs.Order.{paths_of}
use Rattle.tree_sem.proofs.NodeLemmas.{Contains-paths_of}
use Rattle.tree_sem.proofs.ShapeLemmas.{bare_tree-edit_at, paths_of-same}
use Rattle.tree_sem.proofs.CountLemmas.{count_of-add_child}

pub counted_child : (p l : List ℕ) (t : LabelTree) (n : ℕ) → IsSome (node_at p t) → count_of t ≤ n + 1 → count_of (edit_at p (add_child l) t) ≤ n + 1 + 1
counted_child p l t n some le = let s = there (node_at p t) some in omega (arith, count_of-add_child p l t s.0 s.1, le)

numbered : (o : Option LabelTree) (s : LabelTree) (k : ℕ) → o ≡ Some s → IfSome o (λ n. k ≡ length_of n.below) → k ≡ length_of s.below
numbered None s k e is = cc
numbered (Some n) s k e is = let same : n ≡ s = cc in is ∙ ap (λ (x : LabelTree). length_of x.below) same

-- a child that was added last is there
pub child_there : (p l : List ℕ) (t : LabelTree) (k : ℕ) → IsSome (node_at p t) → IfSome (node_at p t) (λ n. k ≡ length_of n.below) → IsSome (node_at (p ++ k ∷ []) (edit_at p (add_child l) t))
child_there p l t k some number =
    let s = there (node_at p t) some in
    let last = numbered (node_at p t) s.0 k s.1 number in
    rw (node_at-edit_at_below p (k ∷ []) (add_child l) t s.0 s.1, last, tree_of-push_tree s.0.below (leaf l)) refl

-- classes leave the nodes
pub there_after_classes : (p q classes : List ℕ) (t : LabelTree) → IsSome (node_at q t) → IsSome (node_at q (edit_at p (add_classes classes) t))
there_after_classes p q classes t is =
    let u = edit_at p (add_classes classes) t in
    let same : paths_of u ≡ paths_of t = paths_of-same u t (bare_tree-edit_at p (add_classes classes) (λ s. refl) t) in
    (Contains-paths_of u q).0 (subst (λ (vs : List (List ℕ)). Contains vs q) (sym same) ((Contains-paths_of t q).1 is))

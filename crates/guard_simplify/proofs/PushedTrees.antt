-- Trees pushed behind a row.
use Rattle.std.proofs.Common.{◌≡◌, ◌⊎◌, ℕ, suc, List, [], ◌∷◌, Some, fold, refl, ap, ◌∙◌, inl, inr}
use Rattle.tree_sem.specs.Trees.{Row, no_nodes, node, LabelTree, tree_of, push_tree}
use Rattle.tree_sem.proofs.GrowthLemmas.{all_pushed_stay}
use Rattle.tree_sem.proofs.BothLemmas.{push_cases}

-- behind the first tree
pub shifted : (tops : List LabelTree) (l : List ℕ) (below r : Row) (m : ℕ) → tree_of (fold push_tree (node l below r) tops) (suc m) ≡ tree_of (fold push_tree r tops) m
shifted [] l below r m = refl
shifted (t ∷ tops) l below r m = shifted tops l below (push_tree r t) m

-- the trees of a row, and then more trees: an old one or a new one
pub pushed_cases : (tops : List LabelTree) (r : Row) (j : ℕ) (y : LabelTree) → tree_of (fold push_tree r tops) j ≡ Some y
    → (tree_of r j ≡ Some y) ⊎ ((m : ℕ) × (tree_of (fold push_tree no_nodes tops) m ≡ Some y))
pushed_cases [] r j y at = inl at
pushed_cases (t ∷ tops) r j y at = elim (pushed_cases tops (push_tree r t) j y at) [
  | inl here ↦ elim (push_cases r t j y here) [ inl old ↦ inl old | inr same ↦ inr (0, all_pushed_stay tops (node t.label t.below no_nodes) 0 y (ap Some same)) ]
  | inr later ↦ inr (suc later.0, shifted tops t.label t.below no_nodes later.0 ∙ later.1)
]

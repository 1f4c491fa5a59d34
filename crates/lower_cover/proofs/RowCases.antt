-- The trees of a row with one more.
use Rattle.std.proofs.Common.{◌≡◌, ◌⊎◌, ℕ, zero, suc, Some, inl, inr}
use Rattle.tree_sem.specs.Trees.{Row, no_nodes, node, LabelTree, tree_of}
use Rattle.lower_cover.specs.Edits.{insert_tree}

-- that one, or an old one
pub insert_cases : (r : Row) (k : ℕ) (y : LabelTree) (m : ℕ) (z : LabelTree) → tree_of (insert_tree r k y) m ≡ Some z → (y ≡ z) ⊎ ((j : ℕ) × (tree_of r j ≡ Some z))
insert_cases no_nodes k y zero z at = let same : y ≡ z = cc in inl same
insert_cases no_nodes k y (suc m) z at = cc
insert_cases (node l below next) zero y zero z at = let same : y ≡ z = cc in inl same
insert_cases (node l below next) zero y (suc m) z at = inr (m, at)
insert_cases (node l below next) (suc k) y zero z at = inr (zero, at)
insert_cases (node l below next) (suc k) y (suc m) z at = elim (insert_cases next k y m z at) [ inl same ↦ inl same | inr (j, old) ↦ inr (suc j, old) ]

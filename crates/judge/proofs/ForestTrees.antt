-- The trees of a forest, below the root that stands for the node that takes them.
use Rattle.std.proofs.Common.{◌≡◌, ◌⊎◌, ℕ, zero, suc, ◌+◌, List, [], ◌∷◌, ◌++◌, fold, Contains, refl, ap, ◌∙◌, inl, inr}
use Rattle.std.specs.Prelude.{slice_get}
use Rattle.tree_sem.specs.Trees.{no_nodes, node, LabelTree, tree_of, push_tree}
use Rattle.tree_sem.proofs.GrowthLemmas.{all_pushed_stay}
use Rattle.guard_sem.specs.declared.rules.Rule.{Rule}
use Rattle.guard_simplify.specs.Auxiliaries.{forest_of, nodes_of}
use Rattle.guard_simplify.proofs.PushedTrees.{shifted}
use Rattle.guard_simplify.proofs.Soundness.{no_root, split_last}

pub row_get : (tops : List LabelTree) (k : ℕ) → tree_of (fold push_tree no_nodes tops) k ≡ slice_get tops k
row_get [] zero = refl
row_get [] (suc k) = refl
row_get (t ∷ tops) zero = all_pushed_stay tops (node t.label t.below no_nodes) 0 t refl
row_get (t ∷ tops) (suc k) = shifted tops t.label t.below no_nodes k ∙ row_get tops k

-- a node of a forest is a top one, or a child of another
pub path_cases : (r : Rule) (q : List ℕ) → Contains (nodes_of r) q → ((k : ℕ) × (q ≡ k ∷ [])) ⊎ ((x : ℕ) × (p : List ℕ) × (m : ℕ) × (q ≡ (x ∷ p) ++ m ∷ []))
path_cases r [] is = absurd (no_root 0 (forest_of r).below is)
path_cases r (k ∷ []) is = inl (k, refl)
path_cases r (k ∷ l ∷ q) is = let split = split_last l q in inr (k, split.0, split.1, ap (λ z. k ∷ z) split.2)

-- Trees within trees.
--     IsWithin t u            each node of t has an image in u: the root's is the root, a child's is a child of its parent's image,
--                             and each label is within the label of the image. Two nodes may have one image
--     IsImage t u v w         the node of u at w is such an image of the node of t at v
--     IsEmbedding P t u image the map takes the nodes of t to nodes of u, the root to the root and children to children, and keeps
--                             the atoms of P
use Rattle.std.specs.Prelude.{◌≡◌, ℕ, ◌≤◌, List, [], ◌∷◌, ◌++◌, length, take, Some, All, Contains}
use Rattle.tree_sem.specs.Trees.{Row, no_nodes, node, LabelTree, tree_of, node_at}
use Rattle.tree_sem.specs.Nodes.{IsNode, HasAtom}

-- each tree of the row is within some tree of us
abbrev pub AreWithin : Row → Row → Type 0
AreWithin no_nodes us = Unit {0}
AreWithin (node l below next) us = ((k : ℕ) × (u : LabelTree) × (tree_of us k ≡ Some u) × All (Contains u.label) l × AreWithin below u.below) × AreWithin next us

abbrev pub IsWithin : LabelTree → LabelTree → Type 0
IsWithin t u = All (Contains u.label) t.label × AreWithin t.below u.below

-- the paths have one length, and the node at each level of v is within the one at that level of w
pub record IsImage (t u : LabelTree) (v w : List ℕ) : Type 0 where
  pub is_node : IsNode t v
  pub same_length : length w ≡ length v
  pub levels : (m : ℕ) → m ≤ length v → (s : LabelTree) → node_at (take m v) t ≡ Some s → (x : LabelTree) × (node_at (take m w) u ≡ Some x) × IsWithin s x

pub record IsEmbedding (P : ℕ → Type 0) (t u : LabelTree) (image : List ℕ → List ℕ) : Type 0 where
  pub root : image [] ≡ []
  pub child : (v : List ℕ) (k : ℕ) → IsNode t (v ++ k ∷ []) → (l : ℕ) × (image (v ++ k ∷ []) ≡ image v ++ l ∷ [])
  pub node : (v : List ℕ) → IsNode t v → IsNode u (image v)
  pub atoms : (v : List ℕ) (a : ℕ) → P a → HasAtom t v a → HasAtom u (image v) a

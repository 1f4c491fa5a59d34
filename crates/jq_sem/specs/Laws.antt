-- Properties of nodes that are kept when a tree grows.
--     IsMapped t u image     the map takes the nodes of t to nodes of u, the root to the root and children to children, and
--                            each label is within the label of the image
--     IsKept t u P Q         where P holds at a node of t, Q holds at its image by each such map. A node has an image where t is
--                            within u. Where t grows to u, each node is its own image.
use Rattle.std.specs.Prelude.{ℕ, List}
use Rattle.tree_sem.specs.Trees.{LabelTree}
use Rattle.tree_sem.specs.Embedding.{IsWithin, IsImage, IsEmbedding}
use Rattle.tree_sem.specs.Growth.{Grows}

abbrev pub IsMapped : LabelTree → LabelTree → (List ℕ → List ℕ) → Type 0
IsMapped t u image = IsEmbedding (λ a. Unit {0}) t u image

pub record IsKept (t u : LabelTree) (P Q : List ℕ → Type 0) : Type 0 where
  pub by_map : (image : List ℕ → List ℕ) → IsMapped t u image → (v : List ℕ) → P v → Q (image v)
  pub within : IsWithin t u → (v : List ℕ) → P v → (w : List ℕ) × IsImage t u v w × Q w
  pub in_place : Grows t u → (v : List ℕ) → P v → Q v

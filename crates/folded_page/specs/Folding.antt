-- The quotient of a page in which like children of one node are folded to one.
--     image_at u numbers i   the path in u of the node that stands for the i-th one
--     IsFolded t u numbers   the i-th node of t is, in u, the one with the i-th of these numbers: with its label, below the one
--                            that its parent is there; and each child there is one of its children
use Rattle.std.specs.Prelude.{◌≡◌, ℕ, ◌<◌, List, [], ◌∷◌, ◌++◌, length, get_or}
use Rattle.tree_sem.specs.Trees.{LabelTree, count_of, label_at}
use Rattle.tree_sem.specs.Nodes.{IsNode}
use Rattle.node_marks.specs.Marks.{path_at}

abbrev pub image_at : LabelTree → List ℕ → ℕ → List ℕ
image_at u numbers i = path_at u (get_or numbers i 0)

pub record IsFolded (t u : LabelTree) (numbers : List ℕ) : Type 0 where
  pub count : length numbers ≡ count_of t
  pub within : (i : ℕ) → i < count_of t → get_or numbers i 0 < count_of u
  pub root : get_or numbers 0 0 ≡ 0
  pub label : (i : ℕ) → i < count_of t → label_at (image_at u numbers i) u ≡ label_at (path_at t i) t
  pub above : (i p n : ℕ) → i < count_of t → p < count_of t → path_at t i ≡ path_at t p ++ n ∷ [] → (m : ℕ) × (image_at u numbers i ≡ image_at u numbers p ++ m ∷ [])
  pub below : (i m : ℕ) → i < count_of t → IsNode u (image_at u numbers i ++ m ∷ []) → (c : ℕ) × (n : ℕ) × (c < count_of t) × (path_at t c ≡ path_at t i ++ n ∷ []) × (image_at u numbers c ≡ image_at u numbers i ++ m ∷ [])

-- Nodes whose labels are equal in every round.
--     IsLeaf u v             the node at v has no children
--     IsAlike u v w          the nodes at v and w have one label and one parent, and no children
--     AreAlike u nodes alike   each node that is marked is alike the one numbered just before it
use Rattle.std.specs.Prelude.{◌≡◌, ◌<◌, ℕ, suc, List, [], unwrap_or, Bool, false, length, get_or, IsTrue}
use Rattle.tree_sem.specs.Trees.{LabelTree, children_at}
use Rattle.tree_sem.specs.Paths.{parent_of}
use Rattle.closed_page.specs.Gains.{label_in}

abbrev pub IsLeaf : LabelTree → List ℕ → Type 0
IsLeaf u v = unwrap_or (children_at v u) 0 ≡ 0

pub record IsAlike (u : LabelTree) (v w : List ℕ) : Type 0 where
  pub own : label_in u v ≡ label_in u w
  pub above : parent_of v ≡ parent_of w
  pub leaf : IsLeaf u v
  pub other_leaf : IsLeaf u w

abbrev pub AreAlike : LabelTree → List (List ℕ) → List Bool → Type 0
AreAlike u nodes alike = (i j : ℕ) → j ≡ suc i → j < length nodes → IsTrue (get_or alike j false) → IsAlike u (get_or nodes i []) (get_or nodes j [])

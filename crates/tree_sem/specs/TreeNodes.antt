-- A node of a tree, as the tree and the node's path.
use Rattle.std.specs.Prelude.{ℕ, List, Option, option_map, refl}
use Rattle.std.specs.Coded.{Coded, code_by, coded×, coded_ℕ, coded_list}
use Rattle.tree_sem.specs.Trees.{LabelTree, node_at}
use Rattle.tree_sem.specs.TreeCode.{tree_code}
use Rattle.tree_sem.specs.Paths.{parent_of}

pub record TreeNode : Type 0 where
  pub tree : LabelTree
  pub path : List ℕ

-- the code of one, which `impl Model` asks for
abbrev pub tree_node_code : Coded TreeNode
tree_node_code = code_by (LabelTree × List ℕ) (coded× tree_code (coded_list coded_ℕ)) (λ n. (n.tree, n.path)) (λ p. record { tree = p.0; path = p.1 }) (λ n. refl)

-- the node of a tree at a path, where there is one
abbrev pub node_of : LabelTree → List ℕ → Option TreeNode
node_of t v = option_map (λ s. let n : TreeNode = record { tree = t; path = v } in n) (node_at v t)

-- the node at the path without its last number; the root has none
abbrev pub parent_node : TreeNode → Option TreeNode
parent_node n = option_map (λ v. let m : TreeNode = record { tree = n.tree; path = v } in m) (parent_of n.path)

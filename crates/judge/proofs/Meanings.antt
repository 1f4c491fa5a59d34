-- What the atoms of the simple system of some rules say of a tree that the rules' statements make.
--     IsTrueAt t v x     what an auxiliary says of the node at v
--     Means t v a        what the atom a says of it
--     kind_tree j        the tree that a forest has at the node of the kind j
use Rattle.std.specs.Prelude.{ℕ, ◌<◌, List, [], option_map, option_and_then, unwrap_or, slice_get}
use Rattle.tree_sem.specs.Nodes.{IsNode, HasAtom}
use Rattle.tree_sem.specs.Trees.{LabelTree, leaf, node_at}
use Rattle.guard_sem.specs.Guards.{Guard}
use Rattle.guard_sem.specs.Holding.{Holds}
use Rattle.guard_sem.specs.declared.rules.Rule.{Rule}
use Rattle.guard_simplify.specs.Auxiliaries.{forest_of, Place, places, Auxiliary, formula, owner, seen}
use Rattle.guard_simplify.specs.Law.{IsFor}

-- of a formula that it holds, and of the others no more than that there is a node
abbrev pub IsTrueAt : LabelTree → List ℕ → Auxiliary → Type 0
IsTrueAt t v (formula g) = Holds t v g
IsTrueAt t v (owner p) = IsNode t v
IsTrueAt t v (seen g) = IsNode t v

module _ (rules : List Rule) (guards : List Guard) (n : ℕ) where
  -- an atom of the table, that it is there
  pub record Means (t : LabelTree) (v : List ℕ) (a : ℕ) : Type 0 where
    pub plain : a < n → HasAtom t v a
    pub auxiliary : (x : Auxiliary) → IsFor rules guards n a x → IsTrueAt t v x

module _ (rules : List Rule) where
  abbrev pub place_tree : Place → LabelTree
  place_tree p = unwrap_or (option_and_then (λ r. node_at p.1 (forest_of r)) (slice_get rules p.0)) (leaf [])

  abbrev pub kind_tree : ℕ → LabelTree
  kind_tree j = unwrap_or (option_map place_tree (slice_get (places rules) j)) (leaf [])

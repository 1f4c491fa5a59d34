-- The memo of operations and of variables.
use Rattle.std.specs.Prelude.{◌≡◌, ℕ, Bool, List, Contains, Option, Some, None, get_or}
use Rattle.class_diagrams.specs.declared.refs.Target.{Target}
use Rattle.class_diagrams.specs.declared.memo.Operation.{Operation}
use Rattle.class_diagrams.specs.declared.memo.Operation.TheVariants.{And, Or}
use Rattle.class_diagrams.specs.declared.memo.Task.{Task}
use Rattle.class_diagrams.specs.Trees.{Tree, tand, tor, variable, and_leaf, or_leaf}
use Rattle.class_diagrams.specs.Arena.{tree_at, IsIn, Arena, IsArena}

-- the tree that an operation gives
abbrev pub tree_of : Operation → Tree → Tree → Tree
tree_of And t u = tand t u
tree_of Or t u = tor t u

-- its rule for a leaf and a tree
abbrev pub leaf_rule_of : Operation → Bool → Tree → Tree
leaf_rule_of And = and_leaf
leaf_rule_of Or = or_leaf

-- a result is of the arena, and is that of its operation
pub record IsRight (a : Arena) (entry : Task × Target) : Type 0 where
  pub first : IsIn a.branches entry.0.first
  pub second : IsIn a.branches entry.0.second
  pub result : IsIn a.branches entry.1
  pub tree : tree_at a.branches entry.1 ≡ tree_of entry.0.operation (tree_at a.branches entry.0.first) (tree_at a.branches entry.0.second)

-- each remembered result is right
abbrev pub AreRight : Arena → List (Task × Target) → Type 0
AreRight a entries = (entry : Task × Target) → Contains entries entry → IsRight a entry

-- each reference that is noted for an atom is of the arena, and is that of its variable
abbrev pub AreVariables : Arena → List (Option Target) → Type 0
AreVariables a noted = (n : ℕ) (f : Target) → get_or noted n None ≡ Some f → IsIn a.branches f × (tree_at a.branches f ≡ variable n)

-- what is true of each arena with what it remembers
pub record IsRemembering (a : Arena) (entries : List (Task × Target)) (noted : List (Option Target)) : Type 0 where
  pub arena : IsArena a
  pub right : AreRight a entries
  pub variables : AreVariables a noted

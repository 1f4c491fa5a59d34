-- The effect of an action on a tree, at a node.
use Rattle.std.specs.Prelude.{ℕ, List, fold, option_map, unwrap_or}
use Rattle.tp_base.specs.Classes.{union_of}
use Rattle.tree_sem.specs.declared.actions.Action.{Action}
use Rattle.tree_sem.specs.declared.actions.Action.TheVariants.{Classes, Inside, Beside}
use Rattle.tree_sem.specs.Trees.{LabelTree, push_tree, edit_at}
use Rattle.tree_sem.specs.Paths.{parent_of}

-- the node with these classes too
abbrev pub add_classes : List ℕ → LabelTree → LabelTree
add_classes classes t = record t { label = union_of t.label classes }

-- the node with these trees as its last children
abbrev pub add_trees : List LabelTree → LabelTree → LabelTree
add_trees tops t = record t { below = fold push_tree t.below tops }

-- `Classes` adds to the label at v, `Inside` adds trees last below v, and `Beside` last below the parent of v, where it has one
abbrev pub act : Action → List ℕ → LabelTree → LabelTree
act (Classes classes) v t = edit_at v (add_classes classes) t
act (Inside forest) v t = edit_at v (add_trees forest.tops) t
act (Beside forest) v t = unwrap_or (option_map (λ p. edit_at p (add_trees forest.tops) t) (parent_of v)) t

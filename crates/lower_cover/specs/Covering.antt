-- Values, trees and statements that give no node more of what is asked for than statements on all nodes may give.
--     AreGiven asked stmts atoms       each asked atom among these is given
--     IsAllowedTree asked stmts y      new nodes may have the labels of the tree
--     IsCovered asked stmts action     all that the action adds is given or allowed
--     AreCovered asked output stmts    the output covers the action of each of the statements
use Rattle.std.specs.Prelude.{◌≡◌, ℕ, List, Contains, Some}
use Rattle.tree_sem.specs.declared.actions.Action.{Action}
use Rattle.tree_sem.specs.declared.actions.Action.TheVariants.{Classes, Inside, Beside}
use Rattle.tree_sem.specs.Trees.{LabelTree, label_at}
use Rattle.jq_stmts.specs.Statements.{Statement}
use Rattle.lower_cover.specs.Outputs.{IsGiven, IsAllowed}

abbrev pub AreGiven : List ℕ → List Statement → List ℕ → Type 0
AreGiven asked stmts atoms = (a : ℕ) → Contains asked a → Contains atoms a → IsGiven stmts a

abbrev pub IsAllowedTree : List ℕ → List Statement → LabelTree → Type 0
IsAllowedTree asked stmts y = (v l : List ℕ) → label_at v y ≡ Some l → IsAllowed asked stmts l

abbrev pub AreAllowedTrees : List ℕ → List Statement → List LabelTree → Type 0
AreAllowedTrees asked stmts tops = (y : LabelTree) → Contains tops y → IsAllowedTree asked stmts y

abbrev pub IsCovered : List ℕ → List Statement → Action → Type 0
IsCovered asked stmts (Classes classes) = AreGiven asked stmts classes
IsCovered asked stmts (Inside forest) = AreAllowedTrees asked stmts forest.tops
IsCovered asked stmts (Beside forest) = AreAllowedTrees asked stmts forest.tops

abbrev pub AreCovered : List ℕ → List Statement → List Statement → Type 0
AreCovered asked output stmts = (s : Statement) → Contains stmts s → IsCovered asked output s.action

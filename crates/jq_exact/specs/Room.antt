-- Listed steps never make more nodes than a page may have.
--     added_by a            how many nodes an action adds, where its node has a parent
--     HasRoom page stmts    as many steps as a trace has that is listed leave the tree within the limit
use Rattle.std.specs.Prelude.{ℕ, ◌+◌, ◌*◌, ◌≤◌, List, All}
use Rattle.std.specs.List.{sum_by}
use Rattle.limits.specs.declared.budgets.TheConstants.{MOST_LIST}
use Rattle.tree_sem.specs.Trees.{LabelTree, count_of}
use Rattle.tree_sem.specs.declared.actions.Action.{Action}
use Rattle.tree_sem.specs.declared.actions.Action.TheVariants.{Classes, Inside, Beside}
use Rattle.tree_sem.specs.declared.tree_fault.TheConstants.{MOST_NODES}
use Rattle.jq_stmts.specs.Sharp.{ExactStatement}

abbrev pub added_by : Action → ℕ
added_by (Classes classes) = 0
added_by (Inside forest) = sum_by count_of forest.tops
added_by (Beside forest) = sum_by count_of forest.tops

-- each statement adds at most so many nodes
pub record HasRoom (page : LabelTree) (stmts : List ExactStatement) : Type 0 where
  pub most : ℕ
  pub each : All (λ (s : ExactStatement). added_by s.action ≤ most) stmts
  pub room : count_of page + MOST_LIST * most ≤ MOST_NODES

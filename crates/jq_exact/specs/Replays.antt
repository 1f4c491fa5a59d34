-- What the answer to exact steps says: that of any list of changes.
use Rattle.std.specs.Prelude.{ℕ, List, Result}
use Rattle.tree_sem.specs.Replays as changes
use Rattle.tree_sem.specs.Trees.{LabelTree}
use Rattle.tree_sem.specs.declared.actions.Step.{Step}
use Rattle.tree_sem.specs.declared.replay_fault.ReplayFault.{ReplayFault}
use Rattle.jq_stmts.specs.Sharp.{ExactStatement}
use Rattle.jq_exact.specs.Exact.{IsLegalExactly, after_exact_step}

-- what the answer to one step says, with the tree after it
abbrev pub IsStep : LabelTree → List ExactStatement → Step → ℕ → LabelTree → Result (Unit {0}) ReplayFault → Type 0
IsStep t stmts step i new r = changes.IsStep IsLegalExactly after_exact_step t stmts step i new r

-- what the answer to a list of steps says, with the tree after it
abbrev pub IsReplay : LabelTree → List ExactStatement → List Step → LabelTree → Result (Unit {0}) ReplayFault → Type 0
IsReplay t stmts steps new r = changes.IsReplay IsLegalExactly after_exact_step t stmts steps new r

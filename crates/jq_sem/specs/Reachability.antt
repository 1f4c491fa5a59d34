-- The trees that a script can make of a page.
--     IsLegal t stmts step       the step's statement selects the step's node
--     end_of t stmts steps       the tree after the steps
--     Reaches t stmts s          after some legal steps a node matches the selector
use Rattle.std.specs.Prelude.{ℕ, List, Option, Some, None, IsSomeAnd, slice_get}
use Rattle.tree_sem.specs.Trees.{LabelTree}
use Rattle.tree_sem.specs.Actions.{act}
use Rattle.tree_sem.specs.Series.{AreLegalBy, end_by}
use Rattle.tree_sem.specs.declared.actions.Step.{Step}
use Rattle.sel_core.specs.Selectors.{Matches}
use Rattle.sel_text.specs.Selectors.{Selector}
use Rattle.jq_sem.specs.Statements.{Selected}
use Rattle.jq_stmts.specs.Statements.{Statement}

abbrev pub IsLegal : LabelTree → List Statement → Step → Type 0
IsLegal t stmts step = IsSomeAnd (slice_get stmts step.stmt) (λ s. Selected t s step.at)

abbrev pub after_statement : Option Statement → List ℕ → LabelTree → LabelTree
after_statement None v t = t
after_statement (Some s) v t = act s.action v t

abbrev pub after_step : LabelTree → List Statement → Step → LabelTree
after_step t stmts step = after_statement (slice_get stmts step.stmt) step.at t

abbrev pub end_of : LabelTree → List Statement → List Step → LabelTree
end_of t stmts steps = end_by after_step t stmts steps

-- each step is legal in the tree before it
abbrev pub AreLegal : LabelTree → List Statement → List Step → Type 0
AreLegal t stmts steps = AreLegalBy IsLegal after_step t stmts steps

abbrev pub Reaches : LabelTree → List Statement → Selector → Type 0
Reaches t stmts s = (steps : List Step) × AreLegal t stmts steps × (v : List ℕ) × Matches (end_of t stmts steps) v s

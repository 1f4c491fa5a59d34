-- Exact steps of a script, and between any two of them the loss of a class or of a node with all below it.
--     IsLegalExactEvent t stmts e     the step's statement selects its node exactly, or what is lost is there
--     ReachesExactly                  after some such events a node matches the selector
use Rattle.std.specs.Prelude.{◌≢◌, ℕ, List, []}
use Rattle.tree_sem.specs.Nodes.{IsNode}
use Rattle.tree_sem.specs.Series.{AreLegalBy}
use Rattle.tree_sem.specs.Trees.{LabelTree}
use Rattle.tree_sem.specs.declared.actions.Event.{Event}
use Rattle.tree_sem.specs.declared.actions.Event.TheVariants.{Step, Take, Cut}
use Rattle.sel_core.specs.Selectors.{Matches}
use Rattle.sel_text.specs.Selectors.{Selector}
use Rattle.jq_sem.specs.Events.{after_event, end_of_events}
use Rattle.jq_stmts.specs.Sharp.{ExactStatement, wides}
use Rattle.jq_exact.specs.Exact.{IsLegalExactly}

-- the root is never cut
abbrev pub IsLegalExactEvent : LabelTree → List ExactStatement → Event → Type 0
IsLegalExactEvent t stmts (Step s) = IsLegalExactly t stmts s
IsLegalExactEvent t stmts (Take v a) = IsNode t v
IsLegalExactEvent t stmts (Cut v) = IsNode t v × (v ≢ [])

-- what an event makes of a tree is what it makes for the statements that are judged
abbrev pub after_exact_event : LabelTree → List ExactStatement → Event → LabelTree
after_exact_event t stmts e = after_event t (wides stmts) e

abbrev pub AreLegalExactEvents : LabelTree → List ExactStatement → List Event → Type 0
AreLegalExactEvents t stmts events = AreLegalBy IsLegalExactEvent after_exact_event t stmts events

abbrev pub ReachesExactly : LabelTree → List ExactStatement → Selector → Type 0
ReachesExactly t stmts s = (events : List Event) × AreLegalExactEvents t stmts events × (v : List ℕ) × Matches (end_of_events t (wides stmts) events) v s

-- What can happen to a page: steps of a script, and between them losses of a class, or of a node with its subtree.
--     IsLegalEvent t stmts e     the step is legal in t, or the lost class or node is in t
--     after_event t stmts e      the tree after the event
--     AreLegalEvents             each event is legal in the tree before it
--     end_of_events              the tree after the events
--     ReachesWithLosses          after some legal events a node matches the selector
--     IsLoss e                   the event is no step
--     events_of steps            steps, as events without losses
use Rattle.std.specs.Prelude.{◌≢◌, ℕ, List, [], map}
use Rattle.tree_sem.specs.Trees.{LabelTree, edit_at}
use Rattle.tree_sem.specs.Cuts.{take_class, cut_at}
use Rattle.tree_sem.specs.Nodes.{IsNode}
use Rattle.tree_sem.specs.Series.{AreLegalBy, end_by}
use Rattle.tree_sem.specs.declared.actions.Step as step
use Rattle.tree_sem.specs.declared.actions.Event.{Event}
use Rattle.tree_sem.specs.declared.actions.Event.TheVariants.{Step, Take, Cut}
use Rattle.sel_core.specs.Selectors.{Matches}
use Rattle.sel_text.specs.Selectors.{Selector}
use Rattle.jq_stmts.specs.Statements.{Statement}
use Rattle.jq_sem.specs.Reachability.{IsLegal, after_step}

-- the root is never cut
abbrev pub IsLegalEvent : LabelTree → List Statement → Event → Type 0
IsLegalEvent t stmts (Step s) = IsLegal t stmts s
IsLegalEvent t stmts (Take v a) = IsNode t v
IsLegalEvent t stmts (Cut v) = IsNode t v × (v ≢ [])

abbrev pub after_event : LabelTree → List Statement → Event → LabelTree
after_event t stmts (Step s) = after_step t stmts s
after_event t stmts (Take v a) = edit_at v (take_class a) t
after_event t stmts (Cut v) = cut_at v t

abbrev pub IsLoss : Event → Type 0
IsLoss (Step s) = ⊥
IsLoss (Take v a) = Unit {0}
IsLoss (Cut v) = Unit {0}

abbrev pub AreLegalEvents : LabelTree → List Statement → List Event → Type 0
AreLegalEvents t stmts events = AreLegalBy IsLegalEvent after_event t stmts events

abbrev pub end_of_events : LabelTree → List Statement → List Event → LabelTree
end_of_events t stmts events = end_by after_event t stmts events

abbrev pub ReachesWithLosses : LabelTree → List Statement → Selector → Type 0
ReachesWithLosses t stmts s = (events : List Event) × AreLegalEvents t stmts events × (v : List ℕ) × Matches (end_of_events t stmts events) v s

abbrev pub events_of : List step.Step → List Event
events_of steps = map Step steps

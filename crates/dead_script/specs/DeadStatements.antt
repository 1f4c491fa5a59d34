-- A script without its dead statements does the same.
--     HasTheLive t stmts left      `left` are some of the statements, with all live ones among them
--     AreWithoutDead stmts vs left `left` are some of the statements, with all those whose verdict isn't `dead`
--     DoTheSame t stmts left       both scripts lead to the same trees, reach the same selectors and have the same live statements
use Rattle.std.specs.Prelude.{◌≡◌, ◌↔◌, ℕ, false, List, Contains, Some, slice_get}
use Rattle.tree_sem.specs.declared.actions.Step.{Step}
use Rattle.tree_sem.specs.Trees.{LabelTree}
use Rattle.sel_text.specs.Selectors.{Selector}
use Rattle.jq_stmts.specs.Statements.{Statement}
use Rattle.jq_sem.specs.Events.{ReachesWithLosses}
use Rattle.jq_sem.specs.Reachability.{AreLegal, end_of}
use Rattle.dead_script.specs.Liveness.{Live}
pub use Rattle.dead_script.specs.Liveness.{LiveWithLosses}
use Rattle.dead_script.specs.VerdictLines.{Verdict, is_dead}

-- every dead statement may be left out
pub record HasTheLive (t : LabelTree) (stmts left : List Statement) : Type 0 where
  pub some : (s : Statement) → Contains left s → Contains stmts s
  pub live : (s : Statement) → Contains stmts s → Live t stmts s → Contains left s

-- each statement whose verdict isn't `dead` is left
pub record AreWithoutDead (stmts : List Statement) (said : List Verdict) (left : List Statement) : Type 0 where
  pub some : (s : Statement) → Contains left s → Contains stmts s
  pub others : (k : ℕ) (s : Statement) (v : Verdict) → slice_get stmts k ≡ Some s → slice_get said k ≡ Some v → is_dead v ≡ false → Contains left s

-- for each legal list of steps of the one script, the other has one that ends in the same tree
abbrev pub LeadsWhere : LabelTree → List Statement → List Statement → Type 0
LeadsWhere t stmts others = (steps : List Step) → AreLegal t others steps → (same : List Step) × AreLegal t stmts same × (end_of t stmts same ≡ end_of t others steps)

pub record DoTheSame (t : LabelTree) (stmts left : List Statement) : Type 0 where
  pub ends : LeadsWhere t left stmts
  pub ends' : LeadsWhere t stmts left
  pub reached : (s : Selector) → ReachesWithLosses t stmts s ↔ ReachesWithLosses t left s
  pub live : (p : Statement) → Live t stmts p ↔ Live t left p

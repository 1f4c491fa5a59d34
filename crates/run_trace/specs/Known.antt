-- Traces that are found together, since their runs begin alike.
--     IsKnownAt page stmts items answers n r      r is the trace of the steps that the answer of the item n shows
--     AreKnown page stmts items answers traces    each trace that is there is that of its item
--     IsDone page stmts runs t                    t is the tree after the runs
--     IsStopped page stmts runs                   after the last of the runs, and no earlier, the tree has too many nodes
-- and the same in the words of a task: IsTracedTask, AreKnownTo, IsTraceFor, IsShownTo, IsBranch, IsStoppedBranch, IsLedBranch
use Rattle.std.specs.Prelude.{◌≡◌, ℕ, suc, Bool, MatchBool, map, List, length, get_or, Option, Some, None}
use Rattle.tree_sem.specs.Trees.{LabelTree}
use Rattle.tree_sem.specs.declared.actions.Step.{Step}
use Rattle.sel_text.specs.Selectors.{Selector}
use Rattle.css_read.specs.Sheets as sheets
use Rattle.css_read.specs.Views.{item_of}
use Rattle.jq_stmts.specs.Statements.{Statement}
use Rattle.jq_stmts.specs.Views.{statements_of}
use Rattle.sel_text.specs.Views.{selector_of}
use Rattle.usage_report.specs.Answers.{Answer}
use Rattle.usage_report.specs.declared.run_traces.RunTrace.{RunTrace}
use Rattle.usage_report.specs.Views.{answer_of, trace_of}
use Rattle.run_trace.specs.declared.branches.Branch.{Branch}
use Rattle.run_trace.specs.declared.shown.Shown.{Shown}
use Rattle.run_trace.specs.declared.shown.Task.{Task}
use Rattle.run_trace.specs.declared.traces.TheConstants.{MOST_RUN_NODES}
use Rattle.run_trace.specs.Replays.{CanRun, IsOverAt}
use Rattle.run_trace.specs.Shown.{IsShownAt}
use Rattle.run_trace.specs.Traces.{AreTracked, IsRunTrace}

module _ (page : LabelTree) (stmts : List Statement) where
  module _ (items : List sheets.Item) (answers : List Answer) where
    abbrev pub IsKnownAt : ℕ → RunTrace → Type 0
    IsKnownAt n r = (s : Selector) × (steps : List Step) × IsShownAt items answers n s steps × IsRunTrace page stmts s steps (trace_of r)

    abbrev pub AreKnown : List (Option RunTrace) → Type 0
    AreKnown traces = (n : ℕ) (r : RunTrace) → get_or traces n None ≡ Some r → IsKnownAt n r

  abbrev pub IsDone : List ℕ → LabelTree → Type 0
  IsDone runs t = CanRun page stmts MOST_RUN_NODES runs t

  abbrev pub IsStopped : List ℕ → Type 0
  IsStopped runs = (i : ℕ) × (length runs ≡ suc i) × IsOverAt page stmts MOST_RUN_NODES runs i

module _ (task : Task) where
  abbrev pub IsTracedTask : Type 0
  IsTracedTask = AreTracked task.page.now (statements_of task.stmts.now) (map item_of task.items.now) (map answer_of task.answers.now)

  abbrev pub AreKnownTo : List (Option RunTrace) → Type 0
  AreKnownTo traces = AreKnown task.page.now (statements_of task.stmts.now) (map item_of task.items.now) (map answer_of task.answers.now) traces

  abbrev pub IsTraceFor : ℕ → RunTrace → Type 0
  IsTraceFor n r = IsKnownAt task.page.now (statements_of task.stmts.now) (map item_of task.items.now) (map answer_of task.answers.now) n r

  abbrev pub IsShownTo : ℕ → Shown → Type 0
  IsShownTo n s = IsShownAt (map item_of task.items.now) (map answer_of task.answers.now) n (selector_of s.selector.now) s.steps.now

  abbrev pub IsShownBy : Shown → Type 0
  IsShownBy s = (n : ℕ) × IsShownTo n s

  abbrev pub IsBranch : Branch → Type 0
  IsBranch b = IsDone task.page.now (statements_of task.stmts.now) b.runs.items b.tree

  abbrev pub IsStoppedBranch : Branch → Type 0
  IsStoppedBranch b = IsStopped task.page.now (statements_of task.stmts.now) b.runs.items

  -- the branch after a run, or why it wasn't done
  abbrev pub IsLedBranch : Branch → Bool → Type 0
  IsLedBranch b on = MatchBool on (IsBranch b) (IsStoppedBranch b)

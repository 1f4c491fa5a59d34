-- The modes: which goals each one asks besides the selectors of a sheet, which text it writes, and which status the answers give.
--     Said                 the inputs and the results of a page
--     goals_in m i         the further goals of the mode, besides the sheet's selectors
--     IsOverBudget m l i   a budget doesn't suffice for each line
--     AreJudgedOf          right answers for the sheet's items and the further goals, by the statements that are judged
--     AreAnswersOf         the same answers, settled by the statements as they stand in the script
--     HasTraces m s        where the mode asks for whole runs, each answer that shows steps has the trace of their runs
--     text_of t said       the text that is written
--     status_of t said     the status: 7 where a line is open, else 1 where a line is unused or dead, else 0
use Rattle.std.specs.Prelude.{◌≡◌, ℕ, Bool, true, false, ◌||◌, if◌then◌else◌, List, [], ◌∷◌, ◌++◌, length, map, Option}
use Rattle.std.specs.List.{list_any}
use Rattle.css_read.specs.Pruned.{pruned}
use Rattle.jq_exact.specs.Settling.{AreSettled}
use Rattle.guard_sem.specs.Guards.{Guard}
use Rattle.usage_report.specs.Answers.{Answer, maybe, used_unshown, unused, spent}
use Rattle.usage_report.specs.Report.{report, report_with}
use Rattle.usage_report.specs.RunTraces.{RunTrace}
use Rattle.run_trace.specs.Traces.{AreTracesOf}
use Rattle.judge.specs.Answers.{judged_in}
use Rattle.judge.specs.Goals.{Goal, matching, selecting}
use Rattle.judge.specs.Outcomes as judge
use Rattle.limits.specs.declared.budgets.Limits.{Limits}
use Rattle.command_words.specs.declared.words.Mode.{Mode}
use Rattle.command_words.specs.declared.words.Mode.TheVariants.{Prune, Dead, Runs, SitePrune}
use Rattle.command_words.specs.Orders.{takes_pages}
use Rattle.dead_script.specs.Probes.{last_probe, all_probes, probe_guards}
use Rattle.dead_script.specs.Verdicts as dead
use Rattle.site_judge.specs.Sites as sites
use Rattle.site_judge.specs.SiteReport.{site_report}
use Rattle.run_ends.specs.declared.status.Status.{Status}
use Rattle.run_ends.specs.declared.status.Status.TheVariants as status
use Rattle.treeped_app.specs.Answers.{AreRight, AreRightFor, AreRightExactly, IsPastBudget}
use Rattle.usage_report.specs.Summary.{summary}
use Rattle.treeped_app.specs.Tasks.{Source, ring, Task}
pub use Rattle.treeped_app.specs.Readings.{Texts, Inputs, places_of, reads_exactly}

-- A page's texts, the inputs that were read from them, and an answer for each item of the sheet and for each further goal. For whole
-- runs each item has a trace or none.
pub record Said : Type 0 where
  pub texts : Texts
  pub inputs : Inputs
  pub items : List Answer
  pub others : List Answer
  pub traces : List (Option RunTrace)

-- ---- goals

-- the goals that ask whether each handler of each statement ever runs, and whether the statement itself ever selects a node
abbrev pub goals_in : Mode → Inputs → List Goal
goals_in Dead i = map selecting (all_probes i.stmts)
goals_in _ i = []

-- the goals among them that decide a line: whether the statement itself ever selects a node
abbrev pub last_goals_in : Mode → Inputs → List Goal
last_goals_in Dead i = map selecting (map last_probe i.stmts)
last_goals_in _ i = []

-- the guards of all these goals
abbrev pub extra_in : Mode → Inputs → List Guard
extra_in Dead i = probe_guards i.stmts
extra_in _ i = []

abbrev pub guards_in : Mode → Inputs → List Guard
guards_in m i = judge.guards_in i.sheet.items (extra_in m i)

-- One right answer for each item, and one for each other goal; and as exactly as `judge_more` decides it.
pub record AreJudgedOf (m : Mode) (limits : Limits) (i : Inputs) (answers others : List Answer) : Type 0 where
  pub right : AreRight i.tree i.stmts (guards_in m i) (length i.names) limits i.sheet.items answers
  pub others_right : AreRightFor i.tree i.stmts (guards_in m i) (length i.names) limits (goals_in m i) others
  pub within : judge.IsWithin i.stmts i.sheet.items (extra_in m i) (length i.names)
  pub exactly : judge.AreJudged i.stmts i.sheet.items (extra_in m i) (length i.names) i.tree limits answers others

-- Those answers as `settle` leaves them, each of which is right for its item by the statements as they stand in the script.
pub record AreAnswersOf (m : Mode) (limits : Limits) (i : Inputs) (answers others : List Answer) : Type 0 where
  pub judged : List Answer
  pub are : AreJudgedOf m limits i judged others
  pub settled : AreSettled i.tree i.exact (judge.system_in i.stmts i.sheet.items (extra_in m i) (length i.names)) judged answers
  pub right : AreRightExactly i.tree i.exact i.stmts (guards_in m i) (length i.names) limits i.sheet.items answers

abbrev pub AreTracesIn : Mode → Inputs → List Answer → List (Option RunTrace) → Type 0
AreTracesIn Runs i items traces = AreTracesOf i.tree i.stmts i.sheet.items items traces
AreTracesIn _ i items traces = traces ≡ []

abbrev pub HasTraces : Mode → Said → Type 0
HasTraces m s = AreTracesIn m s.inputs s.items s.traces

-- a budget doesn't suffice for a line; the length of a handler's proof doesn't count
abbrev pub IsOverBudget : Mode → Limits → Inputs → Type 0
IsOverBudget m limits i = IsPastBudget i.tree i.stmts (guards_in m i) (length i.names) limits (map matching (judged_in i.sheet.items) ++ last_goals_in m i)

-- ---- texts

abbrev pub is_unused : Answer → Bool
is_unused unused = true
is_unused _ = false

-- the answer is `maybe`
abbrev pub is_maybe : Answer → Bool
is_maybe (maybe proof steps shown broken) = true
is_maybe _ = false

-- a budget left the answer open
abbrev pub is_undecided : Answer → Bool
is_undecided used_unshown = true
is_undecided spent = true
is_undecided _ = false

-- a budget or a sharp call left the answer open
abbrev pub is_open : Answer → Bool
is_open (maybe proof steps shown broken) = true
is_open used_unshown = true
is_open spent = true
is_open _ = false

abbrev pub report_on : Said → List ℕ
report_on s = report s.texts.sheet s.inputs.names (places_of s.inputs) s.inputs.sheet s.items

-- the sheet without the selectors whose answers are unused
abbrev pub pruned_by : Said → List Answer → List ℕ
pruned_by s answers = pruned s.texts.sheet s.inputs.sheet (map is_unused answers)

-- the text for one page: the report; the pruned sheet; the report, and then the statements; or the report with runs in the place of steps
abbrev pub text_on : Mode → Said → List ℕ
text_on Prune s = pruned_by s s.items
text_on Dead s = report_on s ++ dead.dead_text s.inputs.stmts s.others
text_on Runs s = report_with s.texts.sheet s.inputs.names (places_of s.inputs) s.inputs.sheet s.items s.traces
text_on _ s = report_on s

-- the best answers of several pages
abbrev pub site_on : List Said → sites.Site
site_on said = sites.site_of (map (λ (s : Said). s.items) said)

abbrev pub best_in : List Said → List Answer
best_in said = map (λ (b : sites.Best). b.answer) (site_on said).items

-- the text for several pages: the pruned sheet; or the report, by the sheet and the names of this page
abbrev pub site_by : Mode → List Said → Said → List ℕ
site_by SitePrune said s = pruned_by s (best_in said)
site_by _ said s = site_report s.texts.sheet s.inputs.names (map (λ (x : Said). places_of x.inputs) said) s.inputs.sheet (site_on said)

-- the text for the last page, if there is one
abbrev pub of_last : (Said → List ℕ) → List Said → List ℕ
of_last f [] = []
of_last f (s ∷ []) = f s
of_last f (s ∷ x ∷ said) = of_last f (x ∷ said)

abbrev pub text_by : Mode → List Said → List ℕ
text_by m said = of_last (if takes_pages m then site_by m said else text_on m) said

-- the text by the source; for a ring it is one line that counts the answers
abbrev pub text_from : Source → Mode → List Said → List ℕ
text_from (ring k) m said = of_last (λ s. summary k s.items) said
text_from _ m said = text_by m said

abbrev pub text_of : Task → List Said → List ℕ
text_of t said = text_from t.source t.mode said

-- ---- the status

abbrev pub lines_on : List Said → List Answer
lines_on [] = []
lines_on (s ∷ said) = s.items

-- the answers for the items: those of a page, or the best of several
abbrev pub lines_in : Mode → List Said → List Answer
lines_in m said = if takes_pages m then best_in said else lines_on said

abbrev pub verdicts_in : Mode → List Said → List dead.Verdict
verdicts_in Dead (s ∷ said) = dead.verdicts s.inputs.stmts s.others
verdicts_in _ said = []

-- the status, by whether a line is open, and whether a line is unused or dead
abbrev pub status_by : Bool → Bool → Status
status_by true b = status.Budget
status_by false true = status.Unused
status_by false false = status.Complete

abbrev pub status_of : Task → List Said → Status
status_of t said =
    status_by (list_any is_open (lines_in t.mode said) || list_any dead.is_open (verdicts_in t.mode said)) (list_any is_unused (lines_in t.mode said) || list_any dead.is_dead (verdicts_in t.mode said))

-- the status of one page
abbrev pub status_on : Mode → Said → Status
status_on m s = status_by (list_any is_open s.items || list_any dead.is_open (verdicts_in m (s ∷ []))) (list_any is_unused s.items || list_any dead.is_dead (verdicts_in m (s ∷ [])))

-- The promise of a run that ends with a report, for readers who know pages, sheets and scripts, and no prover. The words of the command
-- line order a mode. The files that they name are read as a page, a sheet and the statements of a script. What stands here is true of
-- each line that is written. This file is the whole promise: a record for each mode and for each kind of line, and a field for each
-- sentence; other fields name a part that the sentences speak of. `(x : A) × B` says that there is an x of A for which B holds, `.0` is
-- that x and `.1` the rest, `¬ A` that A doesn't hold, `A → B` that B holds if A does, `A ↔ B` both ways, and `a ∷ l` is the list of a
-- and then l. Other files say how the three files are read (`read_inputs`), how a line is spelled (`report`) and which of the three
-- statuses comes (`Modes`). Of the inputs, `exact` are the statements as they stand in the script, and `stmts` are those that are judged
-- in their place. They differ only in calls of `closest`, `siblings` and `first`: in place of these, `stmts` have calls that select the
-- same nodes or more.
--     NeverMatches i s       no steps and losses from the page lead to a node that the selector matches
--     LeadsTo i s x          the steps of x are the script's own, and at their end the selector matches the node of x
--     MeansLine i item line  the meaning of a line for an item of the sheet
--     MeansReport, MeansPruned, MeansDead, MeansRuns, MeansSite, MeansSitePruned, MeansRing      the meaning of each mode's text
--     Means                  a status of a report comes only with such a text
use Rattle.std.specs.Prelude.{◌≡◌, ◌⊎◌, ◌↔◌, ℕ, ◌+◌, ◌-◌, ◌<◌, min, Bool, true, false, List, [], ◌∷◌, ◌++◌, length, map, Contains, Option, Some, None, slice_get, Ok}
use Rattle.tp_base.specs.Names.{Named}
use Rattle.tp_io.specs.Sinks.{Adds}
use Rattle.tree_sem.specs.Trees.{LabelTree}
use Rattle.tree_sem.specs.declared.actions.Event.{Event}
use Rattle.tree_sem.specs.declared.actions.Step.{Step}
use Rattle.sel_core.specs.Selectors.{Matches}
use Rattle.sel_text.specs.Selectors.{Selector}
use Rattle.sel_text.specs.declared.faults.Skip.{Skip}
use Rattle.css_read.specs.Effects.{effect}
use Rattle.css_read.specs.Pruned.{pruned}
use Rattle.css_read.specs.Reading.{read_sheet}
use Rattle.css_read.specs.Sheets as sheets
use Rattle.css_prune.specs.NodeEffects.{Tells}
use Rattle.jq_stmts.specs.Sharp.{wides}
use Rattle.jq_stmts.specs.Statements.{Statement}
use Rattle.jq_sem.specs.Events.{end_of_events}
use Rattle.jq_sem.specs.Reachability.{AreLegal, end_of}
use Rattle.jq_exact.specs.Events.{AreLegalExactEvents}
use Rattle.jq_exact.specs.Exact.{AreLegalExactly, IsBrokenAt}
use Rattle.usage_report.specs.Counts.{summary}
use Rattle.usage_report.specs.Lines.{Shown, Line, used, maybe, used_unshown, unused, skipped, MOST_COUNT, report, report_with}
use Rattle.usage_report.specs.RunTraces.{RunTrace}
use Rattle.run_trace.specs.Replays.{IsRunTrace}
use Rattle.dead_script.specs.Liveness as statement
use Rattle.dead_script.specs.VerdictLines.{Verdict, live, live_unshown, dead_at_handler, dead_at_target, is_dead, verdict_lines}
use Rattle.site_judge.specs.SiteLines.{Best, site_report}
use Rattle.command_words.specs.declared.words.Mode.{Mode}
use Rattle.command_words.specs.declared.words.Mode.TheVariants.{Prune, Dead, Runs, SitePrune}
use Rattle.run_ends.specs.declared.status.Status.{Status}
use Rattle.run_ends.specs.declared.status.Status.TheVariants as status
use Rattle.treeped_app.specs.Readings.{Texts, Inputs, places_of, read_inputs, Told, AreHeld, ring_texts}
use Rattle.treeped_app.specs.Tasks.{Source, one, several, ring, Task, command}

-- Both lists have the same length, and the relation holds for their elements in pairs, in order.
abbrev pub Each : {A B : Type 0} → (A → B → Type 0) → List A → List B → Type 0
Each R [] [] = Unit {0}
Each R (a ∷ others) (b ∷ bs) = R a b × Each R others bs
Each R _ _ = ⊥

-- ---- lines for selectors

-- The page after these steps; and after steps with losses between them. A step does what its call does, at one node.
abbrev pub tree_by : Inputs → List Step → LabelTree
tree_by i steps = end_of i.tree (wides i.exact) steps

abbrev pub tree_after : Inputs → List Event → LabelTree
tree_after i events = end_of_events i.tree (wides i.exact) events

-- Start from the page, and let the script's calls act, in any order and any number of times. Each acts on a node that it selects at that
-- moment. Between them any atoms of a node (its type, a class, an id, an attribute) and any nodes but the root may go away. No node ever
-- matches.
abbrev pub NeverMatches : Inputs → Selector → Type 0
NeverMatches i s = (events : List Event) → AreLegalExactEvents i.tree i.exact events → (v : List ℕ) → ¬ Matches (tree_after i events) v s

-- Each step is one that the script takes, in the tree before it, and at their end the selector matches the node.
pub record LeadsTo (i : Inputs) (s : Selector) (x : Shown) : Type 0 where
  pub legal : AreLegalExactly i.tree i.exact x.steps
  pub matches : Matches (tree_by i x.steps) x.at s

-- The same by the statements that are judged, whose calls may select more than the script's own.
pub record MayLeadTo (i : Inputs) (s : Selector) (x : Shown) : Type 0 where
  pub legal : AreLegal i.tree i.stmts x.steps
  pub matches : Matches (end_of i.tree i.stmts x.steps) x.at s

-- the number of the steps, or the greatest number that is counted
abbrev pub IsCountOf : List Step → ℕ → Type 0
IsCountOf steps count = count ≡ min (length steps) MOST_COUNT

-- The meaning of a line for its item, which is one selector of a list in the sheet. It is about this page with this script. A line that
-- isn't named here promises nothing.
pub record MeansLine (i : Inputs) (item : sheets.Item) (line : Line) : Type 0 where
  -- `unused`: on no tree that the script makes of the page does the selector match a node, even where classes and nodes were lost.
  pub unused : (s : Selector) → item.outcome ≡ sheets.judged s → line ≡ unused → NeverMatches i s
  -- `used`: this number of steps of the script leads to a node that it matches.
  pub counted : (s : Selector) (count : ℕ) (shown : Option Shown) → item.outcome ≡ sheets.judged s → line ≡ used count shown → (x : Shown) × LeadsTo i s x × IsCountOf x.steps count
  -- Steps that are listed lead to the node on the line `match`. There may be other steps, and fewer.
  pub listed : (s : Selector) (count : ℕ) (x : Shown) → item.outcome ≡ sheets.judged s → line ≡ used count (Some x) → LeadsTo i s x × IsCountOf x.steps count
  -- `maybe`: this number of steps leads there by calls that may select more than the script's own.
  pub doubted : (s : Selector) (count : ℕ) (shown : Option Shown) (broken : Option ℕ) → item.outcome ≡ sheets.judged s → line ≡ maybe count shown broken → (x : Shown) × MayLeadTo i s x × IsCountOf x.steps count
  -- Where steps are listed, they do. Where the line names one of them, it is the first one that the script doesn't take.
  pub guessed : (s : Selector) (count : ℕ) (x : Shown) (broken : Option ℕ) → item.outcome ≡ sheets.judged s → line ≡ maybe count (Some x) broken → MayLeadTo i s x × IsCountOf x.steps count
  pub broken : (s : Selector) (count : ℕ) (x : Shown) (k : ℕ) → item.outcome ≡ sheets.judged s → line ≡ maybe count (Some x) (Some k) → IsBrokenAt i.tree i.exact x.steps k
  -- `used-unshown`: some steps lead there by such calls.
  pub unshown : (s : Selector) → item.outcome ≡ sheets.judged s → line ≡ used_unshown → (x : Shown) × MayLeadTo i s x
  -- `skipped`: for this cause, the item isn't read as a selector that is judged. Each such item is skipped. The line doesn't say
  -- whether it matches.
  pub left_out : (cause : Skip) (at : ℕ) → (line ≡ skipped cause at) ↔ (item.outcome ≡ sheets.skipped cause at)

-- ---- one page

-- Without options: each item of the sheet has its line, once, in the sheet's order.
pub record MeansReport (x : Texts) (i : Inputs) (text : List ℕ) : Type 0 where
  pub lines : List Line
  pub written : text ≡ report x.sheet i.names (places_of i) i.sheet lines
  pub each : Each (MeansLine i) i.sheet.items lines

-- The pruned sheet can be read. At each node of each tree that the script makes of the page, even where classes and nodes were lost, it
-- does the same as the whole sheet: the same selectors match, in the same order, each with its block and the at-rules round it. This is
-- about selectors that are judged, as they are judged (`a:hover` is `a`). The text of all others stays where it is, by `pruned`.
pub record DoesTheSame (x : Texts) (i : Inputs) (left : List ℕ) : Type 0 where
  pub names : List Named
  pub later : List Named
  pub read : read_sheet x.sheet names ≡ (later, Ok i.sheet)
  pub again : sheets.Sheet
  pub read_again : read_sheet left later ≡ (later, Ok again)
  pub effects : (events : List Event) → AreLegalExactEvents i.tree i.exact events → (v : List ℕ) (test : Selector → Bool) → Tells (tree_after i events) v test → effect test left again ≡ effect test x.sheet i.sheet

abbrev pub is_unused : Line → Bool
is_unused unused = true
is_unused _ = false

-- `--prune`: the text is the sheet without its unused selectors, but for those in rules that have to stay whole (`pruned` says which),
-- and it does the same as the sheet.
pub record MeansPruned (x : Texts) (i : Inputs) (text : List ℕ) : Type 0 where
  pub lines : List Line
  pub each : Each (MeansLine i) i.sheet.items lines
  pub written : text ≡ pruned x.sheet i.sheet (map is_unused lines)
  pub same : DoesTheSame x i text

-- The meaning of a line for a statement.
pub record MeansStatement (i : Inputs) (s : Statement) (v : Verdict) : Type 0 where
  -- `dead`: on no tree that the script makes of the page does the statement select a node, even where classes and nodes were lost.
  pub dead : is_dead v ≡ true → ¬ statement.LiveWithLosses i.tree i.stmts s
  -- `at handler`: the handler with this number never runs, and each handler round it runs after some steps. A handler runs where its
  -- chain selects a node.
  pub at_handler : (k : ℕ) → v ≡ dead_at_handler k → (j : ℕ) × (k ≡ j + 1) × statement.IsFirstDead i.tree i.stmts s j
  -- `at target`: each handler runs after some steps.
  pub at_target : v ≡ dead_at_target → (k : ℕ) → k < length s.handlers → statement.Live i.tree i.stmts (statement.probe s k)
  -- `live`: this number of steps leads to a node that it selects.
  pub lives : (count : ℕ) (shown : Option Shown) → v ≡ live count shown → (x : Shown) × statement.LeadsTo i.tree i.stmts s x × IsCountOf x.steps count
  -- Steps that are listed lead to a node that it selects.
  pub listed : (count : ℕ) (x : Shown) → v ≡ live count (Some x) → statement.LeadsTo i.tree i.stmts s x × IsCountOf x.steps count
  -- `live-unshown`: some steps lead to such a node; none is listed.
  pub unshown : v ≡ live_unshown → statement.Live i.tree i.stmts s

-- `--dead`: the report, and then a line for each statement of the script, in its order.
pub record MeansDead (x : Texts) (i : Inputs) (text : List ℕ) : Type 0 where
  pub front : List ℕ
  pub reported : MeansReport x i front
  pub verdicts : List Verdict
  pub written : text ≡ front ++ verdict_lines i.stmts verdicts
  pub each : Each (MeansStatement i) i.stmts verdicts

-- `--runs`: the report, with whole runs in the place of steps. They are runs of the steps' statements, one for each step in its order, and
-- then comes the first node that the selector matches, or the run after which the page is too large.
pub record MeansRuns (x : Texts) (i : Inputs) (text : List ℕ) : Type 0 where
  pub lines : List Line
  pub traces : List (Option RunTrace)
  pub written : text ≡ report_with x.sheet i.names (places_of i) i.sheet lines traces
  pub each : Each (MeansLine i) i.sheet.items lines
  -- Each item has its runs, or none, in its place. It has runs where its line would list steps, and nowhere else.
  pub one_each : length traces ≡ length i.sheet.items
  pub all : (k count : ℕ) (item : sheets.Item) (s : Selector) (x : Shown) → slice_get i.sheet.items k ≡ Some item → item.outcome ≡ sheets.judged s → slice_get lines k ≡ Some (used count (Some x))
      → (r : RunTrace) × (slice_get traces k ≡ Some (Some r))
  pub runs : (k : ℕ) (item : sheets.Item) (line : Line) (r : RunTrace) → slice_get i.sheet.items k ≡ Some item → slice_get lines k ≡ Some line → slice_get traces k ≡ Some (Some r)
      → (s : Selector) × (count : ℕ) × (x : Shown) × (item.outcome ≡ sheets.judged s) × (line ≡ used count (Some x)) × IsRunTrace i.tree i.stmts s x.steps r

abbrev pub MeansPage : Mode → Texts → Inputs → List ℕ → Type 0
MeansPage Prune x i text = MeansPruned x i text
MeansPage Dead x i text = MeansDead x i text
MeansPage Runs x i text = MeansRuns x i text
MeansPage _ x i text = MeansReport x i text

-- ---- several pages

-- a page's texts, and the inputs that are read from them
abbrev pub Page : Type 0
Page = Texts × Inputs

-- The meaning of a line for the k-th item of a sheet that several pages use.
pub record MeansBest (pages : List Page) (k : ℕ) (b : Best) : Type 0 where
  -- `unused`: on no page does its selector ever match a node.
  pub unused : b.line ≡ unused → (p : Page) → Contains pages p → (item : sheets.Item) × (s : Selector) × (slice_get p.1.sheet.items k ≡ Some item) × (item.outcome ≡ sheets.judged s) × NeverMatches p.1 s
  -- The line is true of one of the pages, by its number, which is counted from 1. Each line but `unused` and `skipped` names it.
  pub page : Page
  pub named : (0 < b.page) × (slice_get pages (b.page - 1) ≡ Some page)
  pub item : sheets.Item
  pub there : slice_get page.1.sheet.items k ≡ Some item
  pub line : MeansLine page.1 item b.line

-- the last of the pages, by whose names the report is written
pub record IsLast (pages : List Page) (p : Page) : Type 0 where
  pub before : List Page
  pub is : pages ≡ before ++ p ∷ []

-- `--site`: each item of the sheet has its line, once, in the sheet's order.
pub record MeansSite (pages : List Page) (text : List ℕ) : Type 0 where
  pub bests : List Best
  pub last : Page
  pub is_last : IsLast pages last
  pub written : text ≡ site_report last.0.sheet last.1.names (map (λ (p : Page). places_of p.1) pages) last.1.sheet (length pages) bests
  pub one_each : length bests ≡ length last.1.sheet.items
  pub each : (k : ℕ) (b : Best) → slice_get bests k ≡ Some b → MeansBest pages k b

-- `--site --prune`: the text is the sheet without the selectors that no page uses, and it does the same as the sheet on each page.
pub record MeansSitePruned (pages : List Page) (text : List ℕ) : Type 0 where
  pub bests : List Best
  pub last : Page
  pub is_last : IsLast pages last
  pub one_each : length bests ≡ length last.1.sheet.items
  pub each : (k : ℕ) (b : Best) → slice_get bests k ≡ Some b → MeansBest pages k b
  pub written : text ≡ pruned last.0.sheet last.1.sheet (map (λ (b : Best). is_unused b.line) bests)
  pub same : (p : Page) → Contains pages p → DoesTheSame p.0 p.1 text

abbrev pub MeansPages : Mode → List Page → List ℕ → Type 0
MeansPages SitePrune pages text = MeansSitePruned pages text
MeansPages _ pages text = MeansSite pages text

-- ---- a ring of boxes

-- `--gen`: the text is one line, which counts the answers for the sheet of a ring of k boxes.
pub record MeansRing (k : ℕ) (i : Inputs) (text : List ℕ) : Type 0 where
  pub lines : List Line
  pub written : text ≡ summary k lines
  pub each : Each (MeansLine i) i.sheet.items lines

-- ---- a run

-- the three names hold the texts of the page with this number, and the texts are read as these inputs
pub record IsPage (told : Told) (m : Mode) (number : Option ℕ) (page sheet script : List ℕ) (p : Page) : Type 0 where
  pub held : AreHeld told (record { page = page; sheet = sheet; script = script }) p.0
  pub read : read_inputs m number p.0 ≡ Ok p.1

-- the pages of a site, from the k-th on, with one sheet
abbrev pub ArePages : Told → Mode → (sheet : List ℕ) → ℕ → List (List ℕ × List ℕ) → List Page → Type 0
ArePages told m sheet k [] [] = Unit {0}
ArePages told m sheet k ((page, script) ∷ pairs) (p ∷ pages) = IsPage told m (Some k) page sheet script p × ArePages told m sheet (k + 1) pairs pages
ArePages told m sheet k _ _ = ⊥

-- the meaning of the text, by the source of the run
abbrev pub MeansFrom : Told → Source → Mode → List ℕ → Type 0
MeansFrom told (one n) m text = (p : Page) × IsPage told m None n.page n.sheet n.script p × MeansPage m p.0 p.1 text
MeansFrom told (several sheet pairs) m text = (pages : List Page) × ArePages told m sheet 1 pairs pages × MeansPages m pages text
MeansFrom told (ring k) m text = (i : Inputs) × (read_inputs m None (ring_texts k) ≡ Ok i) × MeansRing k i text

-- a status that comes with a report: 0, 1 and 7
abbrev pub Reports : Status → Type 0
Reports s = (s ≡ status.Complete) ⊎ (s ≡ status.Unused) ⊎ (s ≡ status.Budget)

-- With such a status, the words order a task, and a text with its meaning, and nothing else, was appended to standard output. `told` are
-- the files that tell what they hold, and `held` is what standard output holds before and after, if it tells. Those in memory do. Those of
-- a system don't: of them it says that some text was read and some text was written.
abbrev pub Means : Told → (words : List (List ℕ)) → (held held' : Option (List ℕ)) → Status → Type 0
Means told words held held' s = Reports s → (t : Task) × (command words ≡ Some t) × (text : List ℕ) × Adds held held' text × MeansFrom told t.source t.mode text

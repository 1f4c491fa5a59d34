-- Laws of right answers, on statements, on sites and by both engines.
--     EnginesAgree       two runs of the same mode on the same texts write the same, by diagrams or by a table, where no budget runs out
--     PlainIsRight       for a script without sharp calls, each answer is right for the statements that are judged
--     DeadIsRight        the line of `--dead` on each statement is right, where no answer is `spent`
--     DeadDoesNothing    a script does the same without statements whose lines say `dead`
--     SiteIsRight        an item is unused on a site exactly where it is unused on every page
--     PruneIsRight       a pruned sheet does the same as the whole sheet at each node of a page, and on each page of a site
use Rattle.std.specs.Prelude.{◌≡◌, ◌↔◌, ℕ, Bool, false, List, [], ◌∷◌, map, Contains, Some, slice_get, Ok}
use Rattle.std.specs.List.{list_any}
use Rattle.tp_base.specs.Names.{Named}
use Rattle.tree_sem.specs.declared.actions.Event.{Event}
use Rattle.sel_text.specs.Selectors.{Selector}
use Rattle.css_read.specs.Effects.{effect}
use Rattle.css_read.specs.Reading.{read_sheet}
use Rattle.css_read.specs.Sheets.{Item, Sheet, judged}
use Rattle.css_prune.specs.NodeEffects.{Tells}
use Rattle.jq_sem.specs.Events.{AreLegalEvents, end_of_events, ReachesWithLosses}
use Rattle.jq_stmts.specs.Sharp.{is_sharp_statement}
use Rattle.jq_stmts.specs.Statements.{Statement}
use Rattle.limits.specs.declared.budgets.Limits.{Limits}
use Rattle.command_words.specs.declared.words.Mode.{Mode}
use Rattle.command_words.specs.declared.words.Mode.TheVariants.{Prune, Dead, SitePrune}
use Rattle.usage_report.specs.Answers.{Answer, unused, spent}
use Rattle.dead_script.specs.DeadStatements.{AreWithoutDead, DoTheSame}
use Rattle.dead_script.specs.Laws.{AreRightVerdicts}
use Rattle.dead_script.specs.Verdicts.{verdicts}
use Rattle.site_judge.specs.Sites.{Best}
use Rattle.treeped_app.specs.Modes.{Inputs, Said, AreJudgedOf, AreAnswersOf, site_on, text_on, text_by, text_of, status_of}
use Rattle.treeped_app.specs.Runs.{Run, IsWhole}
use Rattle.treeped_app.specs.Tasks.{Task}

-- no budget ran out for the answers on a page
pub record HasRoom (s : Said) : Type 0 where
  pub items : ¬ Contains s.items spent
  pub others : ¬ Contains s.others spent

-- Two complete runs have the same texts from the same source, the same mode, and the same limits of a proof and of a list. Their engines and
-- budgets may differ, where no budget runs out.
pub record AskTheSame (r r' : Run) (t t' : Task) (said said' : List Said) : Type 0 where
  pub whole : IsWhole r t said
  pub whole' : IsWhole r' t' said'
  pub source : t'.source ≡ t.source
  pub mode : t'.mode ≡ t.mode
  pub entries : t'.limits.entries ≡ t.limits.entries
  pub list : t'.limits.list ≡ t.limits.list
  pub texts : map (λ (s : Said). s.texts) said' ≡ map (λ (s : Said). s.texts) said
  pub room : (s : Said) → Contains said s → HasRoom s
  pub room' : (s : Said) → Contains said' s → HasRoom s

-- Then they write the same text, and end with the same status.
abbrev pub EnginesAgree : Type 0
EnginesAgree = (r r' : Run) (t t' : Task) (said said' : List Said) → AskTheSame r r' t t' said said' → (text_of t' said' ≡ text_of t said) × (status_of t' said' ≡ status_of t said)

-- Where no statement has a sharp call, the answers are right for the statements as they are judged, and as exactly as `judge_more` decides.
abbrev pub PlainIsRight : Type 0
PlainIsRight = (m : Mode) (limits : Limits) (i : Inputs) (items others : List Answer) → AreAnswersOf m limits i items others → list_any is_sharp_statement i.exact ≡ false → AreJudgedOf m limits i items others

-- Let the answers be right, and none `spent`. Then a statement is dead exactly where no legal steps from the page end in a tree in which it
-- selects a node. The handler that its line names is the first that never has an element.
abbrev pub DeadIsRight : Type 0
DeadIsRight = (limits : Limits) (i : Inputs) (items others : List Answer) → AreAnswersOf Dead limits i items others → ¬ Contains others spent → AreRightVerdicts i.tree i.stmts i.stmts (verdicts i.stmts others)

-- Without some of the statements whose lines say `dead`, a script reaches the same selectors from the page, with whatever losses. So the
-- same selectors are unused.
abbrev pub DeadDoesNothing : Type 0
DeadDoesNothing = (limits : Limits) (i : Inputs) (items others : List Answer) → AreAnswersOf Dead limits i items others → ¬ Contains others spent
    → (left : List Statement) → AreWithoutDead i.stmts (verdicts i.stmts others) left → DoTheSame i.tree i.stmts left

-- the k-th item is a selector, which no legal steps and losses from the page reach
abbrev pub IsNeverReached : Said → ℕ → Type 0
IsNeverReached s k = (item : Item) × (u : Selector) × (slice_get s.inputs.sheet.items k ≡ Some item) × (item.outcome ≡ judged u) × (¬ ReachesWithLosses s.inputs.tree s.inputs.stmts u)

-- the best answer for the k-th item is right on each page, by the page's own script
pub record IsOfEachPage (said : List Said) (k : ℕ) (b : Best) : Type 0 where
  pub unused_on_each : (b.answer ≡ unused) ↔ ((s : Said) → Contains said s → slice_get s.items k ≡ Some unused)
  pub never_reached : b.answer ≡ unused → (s : Said) → Contains said s → IsNeverReached s k

-- the law for the pages of a complete run
abbrev pub SiteIsRight : Type 0
SiteIsRight = (r : Run) (t : Task) (said : List Said) → IsWhole r t said → (k : ℕ) (b : Best) → slice_get (site_on said).items k ≡ Some b → IsOfEachPage said k b

-- The pruned sheet is read again with the names that were known when the whole sheet was read for this page. At each node of each tree
-- that legal steps and losses make of the page, it does the same as the whole sheet. The same selectors match, in the same order,
-- each with its block and the at-rules round it.
pub record DoesTheSame (s : Said) (left : List ℕ) : Type 0 where
  pub reads : (names later : List Named) → read_sheet s.texts.sheet names ≡ (later, Ok s.inputs.sheet) → (again : Sheet) × (read_sheet left later ≡ (later, Ok again))
  pub effects : (names later : List Named) (again : Sheet) → read_sheet s.texts.sheet names ≡ (later, Ok s.inputs.sheet) → read_sheet left later ≡ (later, Ok again)
      → (events : List Event) → AreLegalEvents s.inputs.tree s.inputs.stmts events → (v : List ℕ) (test : Selector → Bool) → Tells (end_of_events s.inputs.tree s.inputs.stmts events) v test
      → effect test left again ≡ effect test s.texts.sheet s.inputs.sheet

-- the law for a complete run on one page
abbrev pub PruneIsRight : Type 0
PruneIsRight = (r : Run) (t : Task) (s : Said) → IsWhole r t (s ∷ []) → DoesTheSame s (text_on Prune s)

-- the law for each page of a site
abbrev pub SitePruneIsRight : Type 0
SitePruneIsRight = (r : Run) (t : Task) (said : List Said) → IsWhole r t said → (s : Said) → Contains said s → DoesTheSame s (text_by SitePrune said)

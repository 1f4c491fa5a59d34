-- Whether a statement ever selects a node, and which of its handlers is the first that never runs.
--     probe s k                    the statement with the first k handlers; its chain is the next handler's or, behind the last, its own
--     Live t stmts p               after some legal steps the statement p selects a node
--     LiveWithLosses t stmts p     the same, with classes and nodes lost between the steps
--     LeadsTo t stmts p x          the steps of x are legal, and at their end p selects the node of x
--     LivesBy t stmts p n shown    n steps lead to a node that p selects, and are those that are shown, if any are
--     IsFirstDead t stmts s j      the handler behind j others never runs, and each of these runs after some steps
--     IsRightVerdict t stmts s v   the verdict on a statement is right
use Rattle.std.specs.Prelude.{◌≡◌, ℕ, ◌+◌, ◌<◌, min, List, [], ◌∷◌, length, take, Option, IfSome, slice_get, unwrap_or}
use Rattle.tree_sem.specs.Trees.{LabelTree}
use Rattle.tree_sem.specs.declared.actions.Action.TheVariants.{Classes}
use Rattle.tree_sem.specs.declared.actions.Event.{Event}
use Rattle.tree_sem.specs.declared.actions.Step.{Step}
use Rattle.jq_stmts.specs.Statements.{Statement}
use Rattle.jq_sem.specs.Events.{AreLegalEvents, end_of_events}
use Rattle.jq_sem.specs.Reachability.{AreLegal, end_of}
use Rattle.jq_sem.specs.Statements.{Selected}
use Rattle.usage_report.specs.Lines.{Shown, MOST_COUNT}
use Rattle.dead_script.specs.VerdictLines.{Verdict, live, live_unshown, dead_at_handler, dead_at_target, unknown}

-- a probe adds no class, so it changes no tree
abbrev pub probe : Statement → ℕ → Statement
probe s k = record { handlers = take k s.handlers; chain = unwrap_or (slice_get s.handlers k) s.chain; action = Classes []; place = s.place }

abbrev pub Live : LabelTree → List Statement → Statement → Type 0
Live t stmts p = (steps : List Step) × AreLegal t stmts steps × (v : List ℕ) × Selected (end_of t stmts steps) p v

abbrev pub LiveWithLosses : LabelTree → List Statement → Statement → Type 0
LiveWithLosses t stmts p = (events : List Event) × AreLegalEvents t stmts events × (v : List ℕ) × Selected (end_of_events t stmts events) p v

module _ (t : LabelTree) (stmts : List Statement) where
  -- the steps are legal from the page, and at their end the statement selects the node that is named
  pub record LeadsTo (p : Statement) (x : Shown) : Type 0 where
    pub legal : AreLegal t stmts x.steps
    pub selects : Selected (end_of t stmts x.steps) p x.at

  -- So many steps, or the greatest number that is counted, lead to a node that the statement selects. If steps are shown, it's these.
  abbrev pub LivesBy : Statement → ℕ → Option Shown → Type 0
  LivesBy p count shown = (x : Shown) × LeadsTo p x × (count ≡ min (length x.steps) MOST_COUNT) × IfSome shown (λ y. y ≡ x)

  -- the handler behind j others never runs, and each of these runs after some steps
  pub record IsFirstDead (s : Statement) (j : ℕ) : Type 0 where
    pub is_there : j < length s.handlers
    pub never : ¬ Live t stmts (probe s j)
    pub others : (i : ℕ) → i < j → Live t stmts (probe s i)

  -- A statement is dead exactly where it selects no node after any legal steps.
  abbrev pub IsRightVerdict : Statement → Verdict → Type 0
  IsRightVerdict s (live steps shown) = LivesBy s steps shown
  IsRightVerdict s live_unshown = Live t stmts s
  IsRightVerdict s (dead_at_handler k) = (¬ Live t stmts s) × ((j : ℕ) × (k ≡ j + 1) × IsFirstDead s j)
  IsRightVerdict s dead_at_target = (¬ Live t stmts s) × ((i : ℕ) → i < length s.handlers → Live t stmts (probe s i))
  IsRightVerdict s unknown = ⊥

  abbrev pub AreRightVerdicts : List Statement → List Verdict → Type 0
  AreRightVerdicts [] [] = Unit {0}
  AreRightVerdicts [] (v ∷ verdicts) = ⊥
  AreRightVerdicts (s ∷ ss) [] = ⊥
  AreRightVerdicts (s ∷ ss) (v ∷ verdicts) = IsRightVerdict s v × AreRightVerdicts ss verdicts

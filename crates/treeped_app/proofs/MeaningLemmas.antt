-- What is written of one page means what it says, from answers that are right.
use Rattle.std.proofs.Common.{◌≡◌, ℕ, zero, suc, ◌+◌, List, [], ◌∷◌, length, map, take, drop, get_or, Contains, Option, Some, None, IfSome, slice_get, Ok, refl, sym, ap, ◌∙◌, subst, inl, inr}
use Rattle.std.proofs.lemmas.List.{drop-map}
use Rattle.tp_base.specs.Names.{Named}
use Rattle.tp_base.proofs.Rising.{Contains-cons, Contains-none}
use Rattle.tree_sem.specs.Trees.{LabelTree}
use Rattle.sel_core.specs.Selectors.{Matches}
use Rattle.sel_text.specs.Selectors.{Selector}
use Rattle.sel_text.specs.declared.faults.Skip.{Skip}
use Rattle.css_read.specs.Reading.{read_sheet}
use Rattle.css_read.specs.Sheets.{Outcome, judged, skipped as left_out, Item}
use Rattle.css_prune.specs.NodeEffects.{Tells}
use Rattle.jq_stmts.specs.Sharp.{wides}
use Rattle.jq_stmts.specs.Statements.{Statement}
use Rattle.jq_sem.specs.Events.{AreLegalEvents, end_of_events}
use Rattle.jq_sem.specs.Reachability.{end_of}
use Rattle.jq_exact.specs.Exact.{AreLegalExactly, IsBrokenAt}
use Rattle.jq_exact.proofs.WideLemmas.{events_wide}
use Rattle.guard_sem.specs.Guards.{Guard}
use Rattle.limits.specs.declared.budgets.Limits.{Limits}
use Rattle.command_words.specs.declared.words.Mode.TheVariants.{Dead}
use Rattle.proof_check.specs.declared.proofs.Proof.{Proof}
use Rattle.proof_check.specs.declared.unfolded.Unfolded.{Unfolded}
use Rattle.usage_report.specs.Answers.{Answer, used, maybe, used_unshown, unused, skipped, spent, shown_by, shown_of, line_of}
use Rattle.usage_report.specs.Lines as says
use Rattle.usage_report.specs.Lines.{Shown, Line}
use Rattle.usage_report.specs.RunTraces.{RunTrace}
use Rattle.run_trace.specs.Replays.{IsRunTrace}
use Rattle.run_trace.specs.Traces.{shown_in, IsTraceOf, AreTracesOf}
use Rattle.dead_script.specs.Liveness as statement
use Rattle.dead_script.specs.Liveness.{IsRightVerdict, AreRightVerdicts}
use Rattle.dead_script.specs.Probes.{all_probes}
use Rattle.dead_script.specs.VerdictLines.{Verdict, live, live_unshown, dead_at_handler, dead_at_target, unknown}
use Rattle.dead_script.specs.Verdicts.{verdict_by, dead_behind, verdicts}
use Rattle.dead_script.proofs.DeadStatementLemmas.{losses_keep_dead}
use Rattle.dead_script.proofs.VerdictLemmas.{verdicts_right}
use Rattle.judge.specs.Answers.{IsUsed, IsShown, IsAnswerFor, AreAnswersFor}
use Rattle.judge.specs.Goals.{Goal, matching}
use Rattle.judge.specs.Outcomes as judge
use Rattle.judge.specs.Witnesses.{trace}
use Rattle.treeped_app.specs.Answers.{NamesIllegal, IsRightExactlyFor, IsRightExactly, AreRightExactly}
use Rattle.treeped_app.specs.Laws as laws
use Rattle.treeped_app.specs.Meaning.{Each, NeverMatches, LeadsTo, MayLeadTo, IsCountOf, MeansLine, MeansStatement, DoesTheSame}
use Rattle.treeped_app.specs.Meaning as meaning
use Rattle.treeped_app.specs.Modes.{Said, AreAnswersOf, extra_in, guards_in, is_unused}
use Rattle.treeped_app.specs.Readings.{Inputs}
use Rattle.treeped_app.proofs.DeadLemmas.{all_told}

-- ---- a line

module _ (i : Inputs) (guards : List Guard) (n : ℕ) (limits : Limits) (wide : wides i.exact ≡ i.stmts) where
  -- what a line says, by its kind
  abbrev pub Case : Outcome → Line → Type 0
  Case (judged s) (says.used count shown) = (x : Shown) × LeadsTo i s x × IsCountOf x.steps count × IfSome shown (λ y. y ≡ x)
  Case (judged s) (says.maybe count shown broken) =
      (x : Shown) × MayLeadTo i s x × IsCountOf x.steps count × IfSome shown (λ y. y ≡ x) × ((y : Shown) (k : ℕ) → shown ≡ Some y → broken ≡ Some k → IsBrokenAt i.tree i.exact y.steps k)
  Case (judged s) says.used_unshown = (x : Shown) × MayLeadTo i s x
  Case (judged s) says.unused = NeverMatches i s
  Case (judged s) (says.skipped cause at) = ⊥
  Case (judged s) says.spent = Unit {0}
  Case (left_out cause at) line = line ≡ says.skipped cause at

  -- the steps that a proof unfolds to, and the node that they lead to
  abbrev taken : Selector → Proof → Shown
  taken s proof = record { steps = (trace i.stmts guards n i.tree (matching s) proof).0; at = (trace i.stmts guards n i.tree (matching s) proof).1 }

  module _ (s : Selector) (proof : Proof) (steps : ℕ) (shown : Option Unfolded) (is : IsUsed i.stmts guards n i.tree limits (matching s) proof steps shown) where
    leads : AreLegalExactly i.tree i.exact (taken s proof).steps → LeadsTo i s (taken s proof)
    leads legal = record {
      legal = legal;
      matches = subst (λ (z : List Statement). Matches (end_of i.tree z (taken s proof).steps) (taken s proof).at s) (sym wide) is.witness.match;
    }

    may_lead : MayLeadTo i s (taken s proof)
    may_lead = record { legal = is.witness.legal; matches = is.witness.match }

    counts : IsCountOf (taken s proof).steps steps
    counts = is.count

    shows : IfSome (shown_of shown) (λ y. y ≡ taken s proof)
    shows = by shown is.shows
      where
        by : (o : Option Unfolded) → IsShown (trace i.stmts guards n i.tree (matching s) proof) limits.list o → IfSome (shown_of o) (λ y. y ≡ taken s proof)
        by None is' = tt
        by (Some u) is' = let one = is'.1 in let two = is'.2 in λ j. record { steps = one j; at = two j }

  named_illegal : (shown : Option Unfolded) (broken : Option ℕ) → NamesIllegal i.tree i.exact i.stmts guards n limits shown broken → (y : Shown) (k : ℕ) → shown_of shown ≡ Some y → broken ≡ Some k → IsBrokenAt i.tree i.exact y.steps k
  named_illegal None broken is y k same same' = cc
  named_illegal (Some u) None is y k same same' = absurd is
  named_illegal (Some u) (Some j) is y k same same' =
      let one : shown_by u ≡ y = cc in
      let two : j ≡ k = cc in
      subst (λ m. IsBrokenAt i.tree i.exact y.steps m) two (subst (λ (z : Shown). IsBrokenAt i.tree i.exact z.steps j) one is)

  -- a right answer says such a line
  case_for : (s : Selector) (a : Answer) → IsRightExactlyFor i.tree i.exact i.stmts guards n limits s a → Case (judged s) (line_of a)
  case_for s (used proof steps shown) is = (taken s proof, leads s proof steps shown is.0 is.1, counts s proof steps shown is.0, shows s proof steps shown is.0)
  case_for s (maybe proof steps shown broken) is =
      (taken s proof, may_lead s proof steps shown is.0, counts s proof steps shown is.0, shows s proof steps shown is.0, named_illegal shown broken is.2)
  case_for s used_unshown is = let some = is.0 in (record { steps = some.0; at = some.2 }, record { legal = some.1; matches = some.3 })
  case_for s unused is = λ events legal v matches. is.1 (events, legal, v, matches)
  case_for s (skipped cause at) is = is
  case_for s spent is = tt

  pub case_of : (o : Outcome) (a : Answer) → IsRightExactly i.tree i.exact i.stmts guards n limits o a → Case o (line_of a)
  case_of (judged s) a is = case_for s a is
  case_of (left_out cause at) a is = ap line_of is

  -- and such a line means what it says
  as_kind : (o : Outcome) (line : Line) → Case o line → (s : Selector) → o ≡ judged s → (l : Line) → line ≡ l → Case (judged s) l
  as_kind o line case s is l same = subst (λ (z : Line). Case (judged s) z) same (subst (λ (z : Outcome). Case z line) is case)

  as_left : (o : Outcome) (line : Line) → Case o line → (cause : Skip) (at : ℕ) → line ≡ says.skipped cause at → o ≡ left_out cause at
  as_left (judged s) line case cause at same = absurd (subst (λ (z : Line). Case (judged s) z) same case)
  as_left (left_out c b) line case cause at same = let both : says.skipped c b ≡ says.skipped cause at = sym case ∙ same in cc

  pub means_line : (item : Item) (line : Line) → Case item.outcome line → MeansLine i item line
  means_line item line case = record {
    unused = λ s is same. as_kind item.outcome line case s is says.unused same;
    counted = λ s count shown is same. let c = as_kind item.outcome line case s is (says.used count shown) same in (c.0, c.1, c.2);
    listed =
        λ s count x is same.
        let c = as_kind item.outcome line case s is (says.used count (Some x)) same in
        (subst (λ (z : Shown). LeadsTo i s z) (sym c.3) c.1, subst (λ (z : Shown). IsCountOf z.steps count) (sym c.3) c.2);
    doubted = λ s count shown broken is same. let c = as_kind item.outcome line case s is (says.maybe count shown broken) same in (c.0, c.1, c.2);
    guessed =
        λ s count x broken is same.
        let c = as_kind item.outcome line case s is (says.maybe count (Some x) broken) same in
        (subst (λ (z : Shown). MayLeadTo i s z) (sym c.3) c.1, subst (λ (z : Shown). IsCountOf z.steps count) (sym c.3) c.2);
    broken = λ s count x k is same. let c = as_kind item.outcome line case s is (says.maybe count (Some x) (Some k)) same in c.4 x k refl refl;
    unshown = λ s is same. as_kind item.outcome line case s is says.used_unshown same;
    left_out = λ cause at. (as_left item.outcome line case cause at, λ is. subst (λ (z : Outcome). Case z line) is case);
  }

  pub right_means : (item : Item) (a : Answer) → IsRightExactly i.tree i.exact i.stmts guards n limits item.outcome a → MeansLine i item (line_of a)
  right_means item a is = means_line item (line_of a) (case_of item.outcome a is)

  pub each_means : (items : List Item) (answers : List Answer) → AreRightExactly i.tree i.exact i.stmts guards n limits items answers → Each (MeansLine i) items (map line_of answers)
  each_means [] [] are = tt
  each_means [] (a ∷ answers) are = absurd are
  each_means (item ∷ items) [] are = absurd are
  each_means (item ∷ items) (a ∷ answers) are = (right_means item a are.0, each_means items answers are.1)

-- whether it is unused is the same of an answer and of its line
pub unused_line : (a : Answer) → is_unused a ≡ meaning.is_unused (line_of a)
unused_line (used proof steps shown) = refl
unused_line (maybe proof steps shown broken) = refl
unused_line used_unshown = refl
unused_line unused = refl
unused_line (skipped cause at) = refl
unused_line spent = refl

pub unused_lines : (answers : List Answer) → map is_unused answers ≡ map meaning.is_unused (map line_of answers)
unused_lines [] = refl
unused_lines (a ∷ answers) = let first = unused_line a in let others = unused_lines answers in λ j. first j ∷ others j

-- ---- what is left of a sheet

pub same_left : (s : Said) (left : List ℕ) → wides s.inputs.exact ≡ s.inputs.stmts → (names later : List Named) → read_sheet s.texts.sheet names ≡ (later, Ok s.inputs.sheet) → laws.DoesTheSame s left → DoesTheSame s.texts s.inputs left
same_left s left wide names later is same =
    let again = same.reads names later is in
    record {
      names = names;
      later = later;
      read = is;
      again = again.0;
      read_again = again.1;
      effects =
          λ events legal v test tells. same.effects names later again.0 is again.1 events
          (subst (λ (z : List Statement). AreLegalEvents s.inputs.tree z events) wide (events_wide s.inputs.tree s.inputs.exact events legal)) v test
          (subst (λ (z : List Statement). Tells (end_of_events s.inputs.tree z events) v test) wide tells);
    }

-- ---- statements

module _ (i : Inputs) where
  by_verdict : (s : Statement) (v : Verdict) → IsRightVerdict i.tree i.stmts s v → MeansStatement i s v
  by_verdict s (live steps shown) is = record {
    dead = λ no. cc;
    at_handler = λ k same. cc;
    at_target = λ same. cc;
    lives = λ count x same. let one : steps ≡ count = cc in (is.0, is.1, subst (λ n. IsCountOf is.0.steps n) one is.2);
    listed =
        λ count x same.
        let one : steps ≡ count = cc in
        let two : shown ≡ Some x = cc in
        let this : x ≡ is.0 = subst (λ (z : Option Shown). IfSome z (λ y. y ≡ is.0)) two is.3 in
        (subst (λ (z : Shown). statement.LeadsTo i.tree i.stmts s z) (sym this) is.1, subst (λ (z : Shown). IsCountOf z.steps count) (sym this) (subst (λ n. IsCountOf is.0.steps n) one is.2));
    unshown = λ same. cc;
  }
  by_verdict s live_unshown is = record { dead = λ no. cc; at_handler = λ k same. cc; at_target = λ same. cc; lives = λ count x same. cc; listed = λ count x same. cc; unshown = λ same. is }
  by_verdict s (dead_at_handler j) is = record {
    dead = λ yes lives. is.0 ((losses_keep_dead i.tree i.stmts s).0 lives);
    at_handler = λ k same. let one : j ≡ k = cc in subst (λ m. (h : ℕ) × (m ≡ h + 1) × statement.IsFirstDead i.tree i.stmts s h) one is.1;
    at_target = λ same. cc;
    lives = λ count x same. cc;
    listed = λ count x same. cc;
    unshown = λ same. cc;
  }
  by_verdict s dead_at_target is = record {
    dead = λ yes lives. is.0 ((losses_keep_dead i.tree i.stmts s).0 lives);
    at_handler = λ k same. cc;
    at_target = λ same. is.1;
    lives = λ count x same. cc;
    listed = λ count x same. cc;
    unshown = λ same. cc;
  }
  by_verdict s unknown is = absurd is

  pub by_verdicts : (stmts : List Statement) (vs : List Verdict) → AreRightVerdicts i.tree i.stmts stmts vs → Each (MeansStatement i) stmts vs
  by_verdicts [] [] are = tt
  by_verdicts [] (v ∷ vs) are = absurd are
  by_verdicts (s ∷ stmts) [] are = absurd are
  by_verdicts (s ∷ stmts) (v ∷ vs) are = (by_verdict s v are.0, by_verdicts stmts vs are.1)

  -- of what was not found out nothing is said
  nothing_said : (s : Statement) → MeansStatement i s unknown
  nothing_said s = record { dead = λ no. cc; at_handler = λ k same. cc; at_target = λ same. cc; lives = λ count x same. cc; listed = λ count x same. cc; unshown = λ same. cc }

  spent_at : (gs : List Guard) (k : ℕ) → get_or (map (λ (g : Guard). spent) gs) k spent ≡ spent
  spent_at [] k = refl
  spent_at (g ∷ gs) zero = refl
  spent_at (g ∷ gs) (suc k) = spent_at gs k

  all_unknown : (stmts : List Statement) (gs : List Guard) → Each (MeansStatement i) stmts (verdicts stmts (map (λ (g : Guard). spent) gs))
  all_unknown [] gs = tt
  all_unknown (s ∷ stmts) gs = (
    subst (λ (v : Verdict). MeansStatement i s v)
        (sym (ap (λ (a : Answer). verdict_by a (dead_behind 0 (take (length s.handlers) (map (λ (g : Guard). spent) gs)))) (spent_at gs (length s.handlers)))) (nothing_said s),
    subst (λ (z : List Answer). Each (MeansStatement i) stmts (verdicts stmts z)) (sym (drop-map (λ (g : Guard). spent) (length s.handlers + 1) gs)) (all_unknown stmts (drop (length s.handlers + 1) gs)),
  )

  module _ (limits : Limits) (items others : List Answer) (are : AreAnswersOf Dead limits i items others) where
    none_spent : (gs : List Goal) (answers : List Answer) → AreAnswersFor i.stmts (guards_in Dead i) (length i.names) i.tree limits gs answers → ¬ Contains answers spent
    none_spent [] [] all there = absurd (Contains-none spent there)
    none_spent [] (a ∷ answers) all there = absurd all
    none_spent (g ∷ gs) [] all there = absurd all
    none_spent (g ∷ gs) (a ∷ answers) all there = elim ((Contains-cons spent a answers).0 there) [
      | inl same ↦ absurd (subst (λ (z : Answer). IsAnswerFor i.stmts (guards_in Dead i) (length i.names) i.tree limits g z) (sym same) all.0)
      | inr behind ↦ none_spent gs answers all.1 behind
    ]

    pub statements_mean : Each (MeansStatement i) i.stmts (verdicts i.stmts others)
    statements_mean = by are.are.exactly
      where
        by : judge.AreJudged i.stmts i.sheet.items (extra_in Dead i) (length i.names) i.tree limits are.judged others → Each (MeansStatement i) i.stmts (verdicts i.stmts others)
        by (inl found) = by_verdicts i.stmts (verdicts i.stmts others) (verdicts_right i.tree i.stmts i.stmts others
            (all_told i.tree i.stmts (guards_in Dead i) (length i.names) limits (all_probes i.stmts) others are.are.others_right (none_spent _ others found.1)))
        by (inr past) = subst (λ (z : List Answer). Each (MeansStatement i) i.stmts (verdicts i.stmts z)) (sym past.1) (all_unknown i.stmts _)

-- ---- whole runs

module _ (page : LabelTree) (stmts : List Statement) where
  abbrev pub HasRun : Outcome → Line → RunTrace → Type 0
  HasRun o line r = (s : Selector) × (count : ℕ) × (x : Shown) × (o ≡ judged s) × (line ≡ says.used count (Some x)) × IsRunTrace page stmts s x.steps r

  no_run : (trace : Option RunTrace) (r : RunTrace) (X : Type 0) → IsTraceOf page stmts None trace → trace ≡ Some r → X
  no_run None r X is same = cc
  no_run (Some q) r X is same = absurd is

  run_one : (o : Outcome) (a : Answer) (trace : Option RunTrace) (r : RunTrace) → IsTraceOf page stmts (shown_in o a) trace → trace ≡ Some r → HasRun o (line_of a) r
  run_one (judged s) (used proof steps (Some u)) None r is same = absurd is
  run_one (judged s) (used proof steps (Some u)) (Some q) r is same = let one : q ≡ r = cc in (s, steps, shown_by u, refl, refl, subst (λ (z : RunTrace). IsRunTrace page stmts s u.steps z) one is)
  run_one (judged s) (used proof steps None) trace r is same = no_run trace r _ is same
  run_one (judged s) (maybe proof steps shown broken) trace r is same = no_run trace r _ is same
  run_one (judged s) used_unshown trace r is same = no_run trace r _ is same
  run_one (judged s) unused trace r is same = no_run trace r _ is same
  run_one (judged s) (skipped cause at) trace r is same = no_run trace r _ is same
  run_one (judged s) spent trace r is same = no_run trace r _ is same
  run_one (left_out c b) a trace r is same = no_run trace r _ is same

  pub runs_at : (items : List Item) (answers : List Answer) (traces : List (Option RunTrace)) → AreTracesOf page stmts items answers traces → (k : ℕ) (item : Item) (line : Line) (r : RunTrace) → slice_get items k ≡ Some item
      → slice_get (map line_of answers) k ≡ Some line → slice_get traces k ≡ Some (Some r) → HasRun item.outcome line r
  runs_at [] answers traces are k item line r at at' at'' = cc
  runs_at (i ∷ items) [] traces are k item line r at at' at'' = cc
  runs_at (i ∷ items) (a ∷ answers) [] are k item line r at at' at'' = cc
  runs_at (i ∷ items) (a ∷ answers) (trace ∷ traces) are zero item line r at at' at'' =
      let one : i ≡ item = cc in
      let two : line_of a ≡ line = cc in
      let three : trace ≡ Some r = cc in
      subst (λ (z : Item). HasRun z.outcome line r) one (subst (λ (z : Line). HasRun i.outcome z r) two (run_one i.outcome a trace r are.0 three))
  runs_at (i ∷ items) (a ∷ answers) (trace ∷ traces) are (suc k) item line r at at' at'' = runs_at items answers traces are.1 k item line r at at' at''

  pub runs_each : (items : List Item) (answers : List Answer) (traces : List (Option RunTrace)) → AreTracesOf page stmts items answers traces → length traces ≡ length items
  runs_each [] [] [] are = refl
  runs_each [] [] (trace ∷ traces) are = absurd are
  runs_each [] (a ∷ answers) traces are = absurd are
  runs_each (i ∷ items) [] traces are = absurd are
  runs_each (i ∷ items) (a ∷ answers) [] are = absurd are
  runs_each (i ∷ items) (a ∷ answers) (trace ∷ traces) are = ap suc (runs_each items answers traces are.1)

  has_run : (o : Outcome) (a : Answer) (trace : Option RunTrace) (s : Selector) (count : ℕ) (x : Shown) → IsTraceOf page stmts (shown_in o a) trace → o ≡ judged s → line_of a ≡ says.used count (Some x) → (r : RunTrace) × (trace ≡ Some r)
  has_run (judged z) (used proof steps (Some u)) None s count x is same line = absurd is
  has_run (judged z) (used proof steps (Some u)) (Some r) s count x is same line = (r, refl)
  has_run (judged z) (used proof steps None) trace s count x is same line = cc
  has_run (judged z) (maybe proof steps shown broken) trace s count x is same line = cc
  has_run (judged z) used_unshown trace s count x is same line = cc
  has_run (judged z) unused trace s count x is same line = cc
  has_run (judged z) (skipped cause at) trace s count x is same line = cc
  has_run (judged z) spent trace s count x is same line = cc
  has_run (left_out c b) a trace s count x is same line = cc

  pub all_run : (items : List Item) (answers : List Answer) (traces : List (Option RunTrace)) → AreTracesOf page stmts items answers traces → (k count : ℕ) (item : Item) (s : Selector) (x : Shown) → slice_get items k ≡ Some item
      → item.outcome ≡ judged s → slice_get (map line_of answers) k ≡ Some (says.used count (Some x)) → (r : RunTrace) × (slice_get traces k ≡ Some (Some r))
  all_run [] answers traces are k count item s x at is at' = cc
  all_run (i ∷ items) [] traces are k count item s x at is at' = cc
  all_run (i ∷ items) (a ∷ answers) [] are k count item s x at is at' = absurd are
  all_run (i ∷ items) (a ∷ answers) (trace ∷ traces) are zero count item s x at is at' =
      let one : i ≡ item = cc in
      let two : line_of a ≡ says.used count (Some x) = cc in
      let run = has_run i.outcome a trace s count x are.0 (ap (λ (z : Item). z.outcome) one ∙ is) two in
      (run.0, ap (λ (z : Option RunTrace). Some z) run.1)
  all_run (i ∷ items) (a ∷ answers) (trace ∷ traces) are (suc k) count item s x at is at' = all_run items answers traces are.1 k count item s x at is at'

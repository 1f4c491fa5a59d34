-- Answers that are settled: they are right by the statements as they stand in the script, they can be reported, and the steps that they
-- show can be traced as whole runs; and where no call is sharp, they are the answers before.
use Rattle.std.proofs.Common.{◌≡◌, ℕ, zero, suc, ◌<◌, ◌≤◌, Bool, true, false, List, [], ◌∷◌, length, map, All, Option, Some, None, IfSome, IsSomeAnd, slice_get, refl, sym, ap, ◌∙◌, subst, inl, inr, arith}
use Rattle.std.specs.List.{list_any}
use Rattle.std.proofs.lemmas.Bool.{true≢false, or_left, or_right}
use Rattle.std.proofs.lemmas.List.Elements.{All-nil, All-cons, All-same}
use Rattle.std.proofs.lemmas.Option.{slice_get_within}
use Rattle.tp_base.proofs.Lists.{some_and}
use Rattle.tp_base.specs.declared.places.Place.{Place}
use Rattle.tree_sem.specs.Trees.{LabelTree}
use Rattle.tree_sem.specs.declared.actions.Step.{Step}
use Rattle.sel_text.specs.Selectors.{Selector}
use Rattle.css_read.specs.Sheets.{Outcome, judged, skipped as left_out, Item}
use Rattle.jq_sem.specs.Events.{ReachesWithLosses}
use Rattle.jq_sem.specs.Reachability.{AreLegal}
use Rattle.jq_stmts.specs.Sharp.{ExactStatement, wides, is_sharp_statement}
use Rattle.jq_stmts.specs.Statements.{Statement}
use Rattle.jq_exact.specs.Laws.{HasSharpStep}
use Rattle.jq_exact.specs.Settling.{steps_of, IsReplayed, IsSettled, AreSettled, IsUnfolded, ShowsAll}
use Rattle.jq_exact.proofs.SettlingLemmas.{used_is_exact}
use Rattle.jq_exact.proofs.WideLemmas.{reaches_less}
use Rattle.simple_core.specs.declared.system.System.{System}
use Rattle.guard_sem.specs.Guards.{Guard}
use Rattle.guard_sem.specs.OfSelectors.{of_selector}
use Rattle.proof_check.specs.declared.proofs.Proof.{Proof}
use Rattle.proof_check.specs.declared.unfolded.Unfolded.{Unfolded}
use Rattle.usage_report.specs.Answers.{Answer, used, maybe, used_unshown, unused, skipped, spent}
use Rattle.usage_report.specs.Reportable.{HavePlaces, IsReportable, AreReportable}
use Rattle.usage_report.specs.Views.{answer_of}
use Rattle.usage_report.specs.declared.answers.Answer as code
use Rattle.run_trace.specs.Traces.{shown_in, IsTracked, AreTracked}
use Rattle.run_trace.proofs.AnswerLemmas.{tracked_by}
use Rattle.limits.specs.declared.budgets.Limits.{Limits}
use Rattle.limits.specs.declared.budgets.TheConstants.{MOST_LIST}
use Rattle.judge.specs.Answers.{IsUsed}
use Rattle.judge.specs.Goals.{matching}
use Rattle.judge.specs.TheSystem.{the_system, seen_atom}
use Rattle.judge.specs.Witnesses.{trace}
use Rattle.treeped_app.specs.Answers.{IsRight, AreRight, NamesIllegal, IsRightExactlyFor, IsRightExactly, AreRightExactly}
use Rattle.treeped_app.specs.Modes.{is_maybe}
use Rattle.treeped_app.proofs.RightLemmas.{legal_placed}

-- ---- scripts without sharp calls

abbrev pub any_sharp : List ExactStatement → Bool
any_sharp exact = list_any is_sharp_statement exact

one_sharp : (exact : List ExactStatement) (k : ℕ) → IsSomeAnd (slice_get exact k) (λ s. is_sharp_statement s ≡ true) → any_sharp exact ≡ true
one_sharp [] k is = absurd is
one_sharp (s ∷ exact) zero is = or_left (is_sharp_statement s) (any_sharp exact) is
one_sharp (s ∷ exact) (suc k) is = or_right (is_sharp_statement s) (any_sharp exact) (one_sharp exact k is)

pub sharp_script : (exact : List ExactStatement) (steps : List Step) → HasSharpStep exact steps → any_sharp exact ≡ true
sharp_script exact [] has = absurd has
sharp_script exact (step ∷ steps) (inl here) = one_sharp exact step.stmt here
sharp_script exact (step ∷ steps) (inr behind) = sharp_script exact steps behind

module _ (t : LabelTree) (exact : List ExactStatement) (system : System) (none : any_sharp exact ≡ false) where
  no_step : (steps : List Step) → HasSharpStep exact steps → ⊥
  no_step steps has = true≢false (sym (sharp_script exact steps has) ∙ none)

  one_kept : (a : Answer) → IsSettled t exact system a a
  one_kept (used proof steps shown) = inr (no_step (steps_of system proof t), refl)
  one_kept (maybe proof steps shown broken) = refl
  one_kept used_unshown = refl
  one_kept unused = refl
  one_kept (skipped cause at) = refl
  one_kept spent = refl

  pub all_kept : (answers : List Answer) → AreSettled t exact system answers answers
  all_kept [] = tt
  all_kept (a ∷ answers) = (one_kept a, all_kept answers)

  one_same : (a b : Answer) → IsSettled t exact system a b → b ≡ a
  one_same (used proof steps shown) b (inl both) = absurd (no_step (steps_of system proof t) both.0)
  one_same (used proof steps shown) b (inr both) = both.1
  one_same (maybe proof steps shown broken) b is = is
  one_same used_unshown b is = is
  one_same unused b is = is
  one_same (skipped cause at) b is = is
  one_same spent b is = is

  pub all_stay : (old new : List Answer) → AreSettled t exact system old new → new ≡ old
  all_stay [] [] are = refl
  all_stay [] (b ∷ new) are = absurd are
  all_stay (a ∷ old) [] are = absurd are
  all_stay (a ∷ old) (b ∷ new) are = let first = one_same a b are.0 in let others = all_stay old new are.1 in λ j. first j ∷ others j

-- ---- right answers, by the statements that are judged and then by those of the script

module _ (t : LabelTree) (exact : List ExactStatement) (ss : List Statement) (guards : List Guard) (n : ℕ) (limits : Limits) where
  abbrev system : System
  system = the_system ss guards n

  abbrev RightFor : Selector → Answer → Type 0
  RightFor s a = IsRightExactlyFor t exact ss guards n limits s a

  shows_all : (s : Selector) (proof : Proof) (steps : ℕ) (shown : Option Unfolded) → IsUsed ss guards n t limits (matching s) proof steps shown → ShowsAll system proof t shown
  shows_all s proof steps None is = tt
  shows_all s proof steps (Some u) is = is.shows.1

  module _ (wide : wides exact ≡ ss) where
    kept_used : (s : Selector) (proof : Proof) (steps : ℕ) (shown : Option Unfolded) → IsUsed ss guards n t limits (matching s) proof steps shown
        → IsSettled t exact system (used proof steps shown) (used proof steps shown) → RightFor s (used proof steps shown)
    kept_used s proof steps shown is settled = (
      is,
      (used_is_exact t exact system (used proof steps shown) proof steps shown settled).1 (shows_all s proof steps shown is)
          (subst (λ (z : List Statement). AreLegal t z (steps_of system proof t)) (sym wide) is.witness.legal),
    )

    replayed : (s : Selector) (proof : Proof) (steps : ℕ) (shown : Option Unfolded) (b : Answer) → IsUsed ss guards n t limits (matching s) proof steps shown → HasSharpStep exact (steps_of system proof t)
        → IsReplayed t exact proof steps shown b → RightFor s b
    replayed s proof steps None b is has replay = subst (λ (z : Answer). RightFor s z) (sym replay) (is, has, refl)
    replayed s proof steps (Some u) b is has (inl kept) = subst (λ (z : Answer). RightFor s z) (sym kept.0) (kept_used s proof steps (Some u) is (inl (has, inl (refl, kept.1))))
    replayed s proof steps (Some u) b is has (inr broken) = subst (λ (z : Answer). RightFor s z) (sym broken.1) (is, has, broken.2)

    unreached : (s : Selector) → (¬ ReachesWithLosses t ss s) → RightFor s unused
    unreached s none = (none, λ reaches. none (subst (λ (z : List Statement). ReachesWithLosses t z s) wide (reaches_less t exact s reaches)))

    selector_settled : (s : Selector) (a b : Answer) → IsRight t ss guards n limits (judged s) a → IsSettled t exact system a b → RightFor s b
    selector_settled s (used proof steps shown) b is (inl both) = replayed s proof steps shown b is both.0 both.1
    selector_settled s (used proof steps shown) b is (inr both) = subst (λ (z : Answer). RightFor s z) (sym both.1) (kept_used s proof steps shown is (inr (both.0, refl)))
    selector_settled s (maybe proof steps shown broken) b is same = absurd is
    selector_settled s used_unshown b is same = subst (λ (z : Answer). RightFor s z) (sym same) is
    selector_settled s unused b is same = subst (λ (z : Answer). RightFor s z) (sym same) (unreached s is)
    selector_settled s (skipped cause at) b is same = absurd is
    selector_settled s spent b is same = subst (λ (z : Answer). RightFor s z) (sym same) is

    one_settled : (o : Outcome) (a b : Answer) → IsRight t ss guards n limits o a → IsSettled t exact system a b → IsRightExactly t exact ss guards n limits o b
    one_settled (judged s) a b is settled = selector_settled s a b is settled
    one_settled (left_out cause at) a b is settled = subst (λ (z : Answer). IsSettled t exact system z b) is settled

    pub all_settled : (rest : List Item) (old new : List Answer) → AreRight t ss guards n limits rest old → AreSettled t exact system old new → AreRightExactly t exact ss guards n limits rest new
    all_settled [] [] [] are settled = tt
    all_settled [] [] (b ∷ new) are settled = absurd settled
    all_settled [] (a ∷ old) new are settled = absurd are
    all_settled (i ∷ rest) [] new are settled = absurd are
    all_settled (i ∷ rest) (a ∷ old) [] are settled = absurd settled
    all_settled (i ∷ rest) (a ∷ old) (b ∷ new) are settled = (one_settled i.outcome a b are.0 settled.0, all_settled rest old new are.1 settled.1)

  -- what is shown may be replayed
  one_unfolded : limits.list ≤ MOST_LIST → (o : Outcome) (a : Answer) → IsRight t ss guards n limits o a → IsUnfolded t system a
  one_unfolded few (judged s) (used proof steps None) is = ((seen_atom ss guards n (of_selector s), is.valid), tt)
  one_unfolded few (judged s) (used proof steps (Some u)) is =
      let within = is.shows.0 in
      let same = ap length is.shows.1 in
      ((seen_atom ss guards n (of_selector s), is.valid), (is.shows.1, omega (arith, within, same, few)))
  one_unfolded few (judged s) (maybe proof steps shown broken) is = tt
  one_unfolded few (judged s) used_unshown is = tt
  one_unfolded few (judged s) unused is = tt
  one_unfolded few (judged s) (skipped cause at) is = tt
  one_unfolded few (judged s) spent is = tt
  one_unfolded few (left_out cause at) a is = subst (IsUnfolded t system) (sym is) tt

  pub all_unfolded : limits.list ≤ MOST_LIST → (rest : List Item) (answers : List code.Answer) → AreRight t ss guards n limits rest (map answer_of answers) → All (λ (a : code.Answer). IsUnfolded t system (answer_of a)) answers
  all_unfolded few rest [] are = All-nil (λ (a : code.Answer). IsUnfolded t system (answer_of a))
  all_unfolded few [] (a ∷ answers) are = absurd are
  all_unfolded few (i ∷ rest) (a ∷ answers) are = All-cons (λ (x : code.Answer). IsUnfolded t system (answer_of x)) a answers (one_unfolded few i.outcome (answer_of a) are.0) (all_unfolded few rest answers are.1)

  -- ---- they can be reported

  abbrev places : List Place
  places = map (λ (s : Statement). s.place) ss

  shown_placed : (s : Selector) (proof : Proof) (steps : ℕ) (shown : Option Unfolded) → IsUsed ss guards n t limits (matching s) proof steps shown → IfSome shown (λ u. HavePlaces places u.steps)
  shown_placed s proof steps None is = tt
  shown_placed s proof steps (Some u) is =
      let steps' = (trace ss guards n t (matching s) proof).0 in
      All-same (λ (x : Step). x.stmt < length places) u.steps steps' is.shows.1 (legal_placed t ss guards n limits t steps' is.witness.legal)

  doubt_reportable : (o : Outcome) (proof : Proof) (steps : ℕ) (shown : Option Unfolded) (broken : Option ℕ) → IsReportable places o (used proof steps shown) → NamesIllegal t exact ss guards n limits shown broken
      → IsReportable places o (maybe proof steps shown broken)
  doubt_reportable o proof steps None broken is doubt = (is.0, tt, tt)
  doubt_reportable o proof steps (Some u) None is doubt = absurd doubt
  doubt_reportable o proof steps (Some u) (Some i) is doubt = let there = some_and (slice_get u.steps i) _ doubt.1 in (is.0, is.1, slice_get_within u.steps i there.0 there.1)

  one_reportable : (o : Outcome) (a : Answer) → IsRightExactly t exact ss guards n limits o a → IsReportable places o a
  one_reportable (judged s) (used proof steps shown) is = (tt, shown_placed s proof steps shown is.0)
  one_reportable (judged s) (maybe proof steps shown broken) is = doubt_reportable (judged s) proof steps shown broken (tt, shown_placed s proof steps shown is.0) is.2
  one_reportable (judged s) used_unshown is = tt
  one_reportable (judged s) unused is = tt
  one_reportable (judged s) (skipped cause at) is = absurd is
  one_reportable (judged s) spent is = tt
  one_reportable (left_out cause at) a is = rw is refl

  pub all_reportable : (rest : List Item) (answers : List Answer) → AreRightExactly t exact ss guards n limits rest answers → AreReportable places rest answers
  all_reportable [] [] are = tt
  all_reportable [] (a ∷ answers) are = absurd are
  all_reportable (i ∷ rest) [] are = absurd are
  all_reportable (i ∷ rest) (a ∷ answers) are = (one_reportable i.outcome a are.0, all_reportable rest answers are.1)

  -- ---- the steps that they show can be traced as whole runs

  one_tracked : (o : Outcome) (a : Answer) → IsRightExactly t exact ss guards n limits o a → IsTracked t ss (shown_in o a)
  one_tracked (judged s) (used proof steps None) is = tt
  one_tracked (judged s) (used proof steps (Some u)) is =
      let t' = trace ss guards n t (matching s) proof in
      tracked_by t ss s u t'.0 t'.1 is.0.shows.1 is.0.shows.2 is.0.witness.legal is.0.witness.match
  one_tracked (judged s) (maybe proof steps shown broken) is = tt
  one_tracked (judged s) used_unshown is = tt
  one_tracked (judged s) unused is = tt
  one_tracked (judged s) (skipped cause at) is = tt
  one_tracked (judged s) spent is = tt
  one_tracked (left_out cause at) a is = tt

  pub all_tracked : (rest : List Item) (answers : List Answer) → AreRightExactly t exact ss guards n limits rest answers → AreTracked t ss rest answers
  all_tracked [] [] are = tt
  all_tracked [] (a ∷ answers) are = absurd are
  all_tracked (i ∷ rest) [] are = absurd are
  all_tracked (i ∷ rest) (a ∷ answers) are = (one_tracked i.outcome a are.0, all_tracked rest answers are.1)

  -- ---- an answer that may be used is of a script with a sharp call

  pub one_maybe : (o : Outcome) (a : Answer) → IsRightExactly t exact ss guards n limits o a → is_maybe a ≡ true → any_sharp exact ≡ true
  one_maybe (judged s) (used proof steps shown) is so = cc
  one_maybe (judged s) (maybe proof steps shown broken) is so = sharp_script exact (trace ss guards n t (matching s) proof).0 is.1
  one_maybe (judged s) used_unshown is so = cc
  one_maybe (judged s) unused is so = cc
  one_maybe (judged s) (skipped cause at) is so = absurd is
  one_maybe (judged s) spent is so = cc
  one_maybe (left_out cause at) a is so = absurd (true≢false (sym so ∙ ap is_maybe is))

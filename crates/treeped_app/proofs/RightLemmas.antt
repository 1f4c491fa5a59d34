-- What `judge_more` answers is right for the goals and the items, and what it answers for probes can be written.
use Rattle.std.proofs.Common.{◌≡◌, ℕ, ◌<◌, List, [], ◌∷◌, length, map, Option, Some, None, slice_get, IsSomeAnd, All, suc, refl, ap, arith}
use Rattle.std.proofs.lemmas.List.{length-map}
use Rattle.std.proofs.lemmas.List.Elements.{All-nil, All-cons, All-same}
use Rattle.std.proofs.lemmas.Option.{slice_get_within}
use Rattle.tp_base.specs.declared.places.Place.{Place}
use Rattle.tree_sem.specs.Trees.{LabelTree}
use Rattle.tree_sem.specs.declared.actions.Step.{Step}
use Rattle.css_read.specs.Sheets.{Outcome, judged, skipped as left_out, Item}
use Rattle.jq_sem.specs.Reachability.{after_step, AreLegal}
use Rattle.jq_sem.specs.Statements.{Selected}
use Rattle.jq_stmts.specs.Statements.{Statement}
use Rattle.jq_sem.proofs.EventLemmas.{losses_reach_is}
use Rattle.guard_sem.specs.Guards.{Guard}
use Rattle.usage_report.specs.Answers.{Answer, used, maybe, used_unshown, unused, skipped, spent}
use Rattle.usage_report.specs.Reportable.{HavePlaces}
use Rattle.dead_script.specs.Verdicts.{IsProbed}
use Rattle.limits.specs.declared.budgets.Limits.{Limits}
use Rattle.judge.specs.Answers.{IsAnswer, AreAnswers, IsAnswerFor, AreAnswersFor, spent_for, spent_answers}
use Rattle.judge.specs.Goals.{Goal, matching, selecting, holding, Attains}
use Rattle.judge.specs.Witnesses.{trace}
use Rattle.treeped_app.specs.Answers.{IsMissed, IsRight, IsRightFor, AreRight, AreRightFor, IsSpent}

module _ (t : LabelTree) (ss : List Statement) (guards : List Guard) (n : ℕ) (limits : Limits) where
  -- ---- right answers

  -- a selector that no steps reach isn't reached with losses either
  missed : (g : Goal) → ¬ Attains t ss g → IsMissed t ss guards n limits g
  missed (matching s) none = λ reaches. none ((losses_reach_is ss t s).0 reaches)
  missed (selecting p) none = none
  missed (holding g) none = none

  goal_right : (g : Goal) (a : Answer) → IsAnswerFor ss guards n t limits g a → IsRightFor t ss guards n limits g a
  goal_right g (used proof steps shown) is = is
  goal_right g (maybe proof steps shown broken) is = absurd is
  goal_right g used_unshown is = is
  goal_right g unused is = missed g is
  goal_right g (skipped cause at) is = absurd is
  goal_right g spent is = absurd is

  pub goals_right : (gs : List Goal) (answers : List Answer) → AreAnswersFor ss guards n t limits gs answers → AreRightFor t ss guards n limits gs answers
  goals_right [] [] are = tt
  goals_right [] (a ∷ answers) are = absurd are
  goals_right (g ∷ gs) [] are = absurd are
  goals_right (g ∷ gs) (a ∷ answers) are = (goal_right g a are.0, goals_right gs answers are.1)

  answer_right : (o : Outcome) (a : Answer) → IsAnswer ss guards n t limits o a → IsRight t ss guards n limits o a
  answer_right (judged s) a is = goal_right (matching s) a is
  answer_right (left_out cause at) a is = is

  pub answers_right : (rest : List Item) (answers : List Answer) → AreAnswers ss guards n t limits rest answers → AreRight t ss guards n limits rest answers
  answers_right [] [] are = tt
  answers_right [] (a ∷ answers) are = absurd are
  answers_right (i ∷ rest) [] are = absurd are
  answers_right (i ∷ rest) (a ∷ answers) are = (answer_right i.outcome a are.0, answers_right rest answers are.1)

  one_spent : IsSpent t ss guards n limits → (o : Outcome) → IsRight t ss guards n limits o (spent_for o)
  one_spent more (judged s) = more
  one_spent more (left_out cause at) = refl

  pub all_spent : IsSpent t ss guards n limits → (rest : List Item) → AreRight t ss guards n limits rest (spent_answers rest)
  all_spent more [] = tt
  all_spent more (i ∷ rest) = (one_spent more i.outcome, all_spent more rest)

  -- ---- the places of legal steps

  abbrev places : List Place
  places = map (λ (s : Statement). s.place) ss

  -- a statement that is there has a place
  stands : (o : Option Statement) (k : ℕ) (P : Statement → Type 0) → slice_get ss k ≡ o → IsSomeAnd o P → k < length places
  stands None k P is some = absurd some
  stands (Some s) k P is some = let within = slice_get_within ss k s is in let same = length-map ss (λ (x : Statement). x.place) in omega (arith, within, same)

  pub legal_placed : (u : LabelTree) (steps : List Step) → AreLegal u ss steps → HavePlaces places steps
  legal_placed u [] legal = All-nil (λ (x : Step). x.stmt < length places)
  legal_placed u (x ∷ steps) legal =
      All-cons (λ (x : Step). x.stmt < length places) x steps (stands (slice_get ss x.stmt) x.stmt (λ s. Selected u s x.at) refl legal.0) (legal_placed (after_step u ss x) steps legal.1)

  -- ---- the probes' answers can be written

  one_probed : (g : Goal) (a : Answer) → IsRightFor t ss guards n limits g a → IsProbed places a
  one_probed g (used proof steps None) is = tt
  one_probed g (used proof steps (Some u)) is =
      let t' = trace ss guards n t g proof in
      All-same (λ (x : Step). x.stmt < length places) u.steps t'.0 is.shows.1 (legal_placed t t'.0 is.witness.legal)
  one_probed g (maybe proof steps shown broken) is = absurd is
  one_probed g used_unshown is = tt
  one_probed g unused is = tt
  one_probed g (skipped cause at) is = absurd is
  one_probed g spent is = tt

  pub all_probed : (gs : List Goal) (answers : List Answer) → AreRightFor t ss guards n limits gs answers → All (IsProbed places) answers
  all_probed [] [] are = All-nil (IsProbed places)
  all_probed [] (a ∷ answers) are = absurd are
  all_probed (g ∷ gs) [] are = absurd are
  all_probed (g ∷ gs) (a ∷ answers) are = All-cons (IsProbed places) a answers (one_probed g a are.0) (all_probed gs answers are.1)

  pub as_many : (gs : List Goal) (answers : List Answer) → AreRightFor t ss guards n limits gs answers → length answers ≡ length gs
  as_many [] [] are = refl
  as_many [] (a ∷ answers) are = absurd are
  as_many (g ∷ gs) [] are = absurd are
  as_many (g ∷ gs) (a ∷ answers) are = ap suc (as_many gs answers are.1)

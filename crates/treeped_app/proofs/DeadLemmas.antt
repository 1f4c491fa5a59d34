-- What `judge_more` answers for the probes of a script's statements tells whether they are live.
use Rattle.std.proofs.Common.{ℕ, zero, suc, ◌+◌, ◌<◌, List, [], ◌∷◌, length, map, take, Option, Some, None, IfSome, All, Contains, ◌≡◌, slice_get, unwrap_or, refl, sym, subst}
use Rattle.std.specs.List.{range_with_len}
use Rattle.std.proofs.lemmas.List.{map-append}
use Rattle.std.proofs.lemmas.List.Elements.{All-nil, All-cons, All-append}
use Rattle.tp_base.proofs.Rising.{Contains-here, Contains-behind}
use Rattle.tree_sem.specs.Trees.{LabelTree}
use Rattle.jq_stmts.specs.Statements.{Chain, Statement}
use Rattle.jq_stmts.specs.Tables.{IsChainOver, AreChainsOver, IsStatementOver, AreStatementsOver}
use Rattle.guard_sem.specs.Guards.{Guard}
use Rattle.guard_simplify.specs.Law.{IsOver}
use Rattle.rule_translate.specs.Translation.{guard_of}
use Rattle.proof_check.specs.declared.proofs.Proof.{Proof}
use Rattle.proof_check.specs.declared.unfolded.Unfolded.{Unfolded}
use Rattle.usage_report.specs.Lines.{Shown}
use Rattle.usage_report.specs.Answers.{Answer, used, maybe, used_unshown, unused, skipped, spent, shown_of}
use Rattle.limits.specs.declared.budgets.Limits.{Limits}
use Rattle.judge.specs.Answers.{IsUsed, IsShown, AreAnswersFor}
use Rattle.judge.specs.Goals.{selecting, holding}
use Rattle.judge.specs.Witnesses.{trace}
use Rattle.judge.proofs.MeaningLemmas.{same_guard_right}
use Rattle.judge.proofs.TableLemmas.{rule_over}
use Rattle.dead_script.specs.Laws.{LivesBy, TellsOf, TellOfEach}
use Rattle.dead_script.specs.Probes.{probe, probes, all_probes, probe_guards}
use Rattle.treeped_app.specs.Answers.{IsRightFor, AreRightFor}

-- ---- from guards to probes, and from answers to what they tell

module _ (stmts : List Statement) (guards : List Guard) (n : ℕ) (page : LabelTree) (limits : Limits) where
  -- what is right for the guards of statements is right for the statements
  pub of_guards : (ps : List Statement) (answers : List Answer) → AreAnswersFor stmts guards n page limits (map holding (map guard_of ps)) answers → AreAnswersFor stmts guards n page limits (map selecting ps) answers
  of_guards [] [] are = tt
  of_guards [] (a ∷ answers) are = absurd are
  of_guards (p ∷ ps) [] are = absurd are
  of_guards (p ∷ ps) (a ∷ answers) are = (same_guard_right stmts guards n page limits (holding (guard_of p)) (selecting p) refl a are.0, of_guards ps answers are.1)

-- ---- from right answers to what they tell

module _ (page : LabelTree) (stmts : List Statement) (guards : List Guard) (n : ℕ) (limits : Limits) where
  -- the steps that a proof unfolds to, and the node that they lead to
  abbrev taken : Statement → Proof → Shown
  taken p proof = record { steps = (trace stmts guards n page (selecting p) proof).0; at = (trace stmts guards n page (selecting p) proof).1 }

  shows_taken : (p : Statement) (proof : Proof) (o : Option Unfolded) → IsShown (trace stmts guards n page (selecting p) proof) limits.list o → IfSome (shown_of o) (λ y. y ≡ taken p proof)
  shows_taken p proof None is = tt
  shows_taken p proof (Some u) is = let one = is.1 in let two = is.2 in λ j. record { steps = one j; at = two j }

  lives_by : (p : Statement) (proof : Proof) (steps : ℕ) (shown : Option Unfolded) → IsUsed stmts guards n page limits (selecting p) proof steps shown → LivesBy page stmts p steps (shown_of shown)
  lives_by p proof steps shown is = (taken p proof, record { legal = is.witness.legal; selects = is.witness.match }, is.count, shows_taken p proof shown is.shows)

  one_told : (p : Statement) (a : Answer) → IsRightFor page stmts guards n limits (selecting p) a → ¬ (spent ≡ a) → TellsOf page stmts p a
  one_told p (used proof steps shown) is found = lives_by p proof steps shown is
  one_told p (maybe proof steps shown broken) is found = absurd is
  one_told p used_unshown is found = is.0
  one_told p unused is found = is
  one_told p (skipped cause at) is found = absurd is
  one_told p spent is found = absurd (found refl)

  pub all_told : (ps : List Statement) (answers : List Answer) → AreRightFor page stmts guards n limits (map selecting ps) answers → ¬ Contains answers spent → TellOfEach page stmts ps answers
  all_told [] [] are none = tt
  all_told [] (a ∷ answers) are none = absurd are
  all_told (p ∷ ps) [] are none = absurd are
  all_told (p ∷ ps) (a ∷ answers) are none =
      (one_told p a are.0 (λ same. none (Contains-here spent a answers same)), all_told ps answers are.1 (λ there. none (Contains-behind spent a answers there)))

-- ---- the atoms of probes' guards are of the table

module _ (n : ℕ) where
  chains_before : (chains : List Chain) (k : ℕ) → AreChainsOver n chains → AreChainsOver n (take k chains)
  chains_before chains zero are = tt
  chains_before [] (suc k) are = tt
  chains_before (c ∷ chains) (suc k) are = (are.0, chains_before chains k are.1)

  chain_there : (chains : List Chain) (own : Chain) (k : ℕ) → AreChainsOver n chains → IsChainOver n own → IsChainOver n (unwrap_or (slice_get chains k) own)
  chain_there [] own k are is = is
  chain_there (c ∷ chains) own zero are is = are.0
  chain_there (c ∷ chains) own (suc k) are is = chain_there chains own k are.1 is

  probe_over : (s : Statement) (k : ℕ) → IsStatementOver n s → IsOver n (guard_of (probe s k))
  probe_over s k are = (rule_over n (probe s k) (chains_before s.handlers k are.0, chain_there s.handlers s.chain k are.0 are.1, All-nil (λ a. a < n))).guard

  probes_over : (s : Statement) (ks : List ℕ) → IsStatementOver n s → All (IsOver n) (map guard_of (map (probe s) ks))
  probes_over s [] are = All-nil (IsOver n)
  probes_over s (k ∷ ks) are = All-cons (IsOver n) (guard_of (probe s k)) (map guard_of (map (probe s) ks)) (probe_over s k are) (probes_over s ks are)

  pub guards_over : (stmts : List Statement) → AreStatementsOver n stmts → All (IsOver n) (probe_guards stmts)
  guards_over [] are = All-nil (IsOver n)
  guards_over (s ∷ stmts) are =
      subst (All (IsOver n)) (sym (map-append guard_of (probes s) (all_probes stmts)))
      (All-append (IsOver n) (map guard_of (probes s)) (map guard_of (all_probes stmts)) (probes_over s (range_with_len 0 (length s.handlers + 1)) are.0) (guards_over stmts are.1))

-- Answers that are settled, and what is still said to be used.
use Rattle.std.proofs.Common.{◌≡◌, ◌↔◌, ℕ, zero, suc, ◌<◌, Bool, true, false, List, [], ◌∷◌, ◌++◌, length, map, take, All, Option, Some, None, IsSomeAnd, slice_get, refl, sym, ap, ◌∙◌, subst, inl, inr, append_assoc, append-nil, arith}
use Rattle.std.proofs.lemmas.Bool.{false≢true, or_cases, or_left, or_right}
use Rattle.std.proofs.lemmas.List.{map-append}
use Rattle.std.proofs.lemmas.List.Elements.{All-head, All-rest}
use Rattle.tp_base.specs.declared.places.Place.{Place}
use Rattle.tree_sem.specs.Series.{IsIllegalAt}
use Rattle.tree_sem.specs.Trees.{LabelTree}
use Rattle.tree_sem.specs.declared.actions.Step.{Step}
use Rattle.tree_sem.proofs.SeriesLemmas.{can_legal}
use Rattle.css_read.specs.Sheets as sheets
use Rattle.jq_sem.specs.Reachability.{end_of}
use Rattle.jq_stmts.specs.Sharp.{ExactStatement, wides, is_sharp_statement}
use Rattle.simple_core.specs.declared.system.System.{System}
use Rattle.proof_check.specs.declared.proofs.Proof.{Proof}
use Rattle.proof_check.specs.declared.unfolded.Unfolded.{Unfolded}
use Rattle.usage_report.specs.declared.answers.Answer as code
use Rattle.usage_report.specs.declared.answers.Answer.TheVariants.{Used, Maybe, UsedUnshown, Unused, Skipped, Spent}
use Rattle.usage_report.specs.Answers.{Answer, used, maybe, used_unshown, unused, skipped, spent}
use Rattle.usage_report.specs.Reportable.{IsReportable, AreReportable}
use Rattle.usage_report.specs.Views.{answer_of}
use Rattle.jq_exact.specs.declared.settling.Outcome.{Outcome}
use Rattle.jq_exact.specs.declared.settling.Outcome.TheVariants.{Kept, Broken, NotShown}
use Rattle.jq_exact.specs.Exact.{IsLegalExactly, after_exact_step, AreLegalExactly}
use Rattle.jq_exact.specs.Laws.{HasSharpStep}
use Rattle.jq_exact.specs.Ordered.{noted}
use Rattle.jq_exact.specs.Settling.{IsBrokenAt, steps_of, IsReplayed, IsSettled, AreSettled, IsUnfolded, IsOutcome, broken_by, settled_by, ShowsAll, UsedIsExact}
use Rattle.jq_exact.specs.SharpProofs.{some_step, has_step}
use Rattle.jq_exact.proofs.PlainLemmas.{plain_steps}
use Rattle.jq_exact.proofs.ProofLemmas.{has_step-unfolded}
use Rattle.jq_exact.proofs.ReplayLemmas.{same_end}

-- ---- steps of statements with a sharp call

noted_is : (stmts : List ExactStatement) (n : ℕ) → (noted (map is_sharp_statement stmts) n ≡ true) ↔ IsSomeAnd (slice_get stmts n) (λ s. is_sharp_statement s ≡ true)
noted_is [] n = (λ on. cc, λ is. absurd is)
noted_is (s ∷ stmts) zero = (λ on. on, λ is. is)
noted_is (s ∷ stmts) (suc n) = noted_is stmts n

steps_noted : (stmts : List ExactStatement) (steps : List Step) → (some_step (noted (map is_sharp_statement stmts)) steps ≡ true) ↔ HasSharpStep stmts steps
steps_noted stmts [] = (λ on. cc, λ is. absurd is)
steps_noted stmts (step ∷ steps) =
    let P : ℕ → Bool = noted (map is_sharp_statement stmts) in
    let here = noted_is stmts step.stmt in
    let others = steps_noted stmts steps in (
      λ on. elim (or_cases (P step.stmt) (some_step P steps) on) [ inl one ↦ inl (here.0 one) | inr more ↦ inr (others.0 more) ],
      λ is. elim is [ inl one ↦ or_left (P step.stmt) (some_step P steps) (here.1 one) | inr more ↦ or_right (P step.stmt) (some_step P steps) (others.1 more) ],
    )

is_within : (steps : List Step) (i : ℕ) (P : Step → Type 0) → IsSomeAnd (slice_get steps i) P → i < length steps
is_within [] i P is = absurd is
is_within (s ∷ steps) zero P is = omega arith
is_within (s ∷ steps) (suc i) P is = let less = is_within steps i P is in omega (arith, less)

-- ---- one answer

-- what is no answer `used` stays
pub others_stay : (a : code.Answer) (broken : Option ℕ) → ((proof : Proof) (steps : ℕ) (shown : Option Unfolded) → a ≡ Used proof steps shown → ⊥) → answer_of a ≡ broken_by (answer_of a) broken
others_stay (Used proof steps shown) broken other = absurd (other proof steps shown refl)
others_stay (Maybe proof steps shown step) broken other = refl
others_stay UsedUnshown broken other = refl
others_stay Unused broken other = refl
others_stay (Skipped cause at) broken other = refl
others_stay Spent broken other = refl

module _ (page : LabelTree) (stmts : List ExactStatement) where
  pub shown_replayed : (u : Unfolded) (o : Outcome) → IsOutcome page stmts u.steps o → (proof : Proof) (steps : ℕ) → IsReplayed page stmts proof steps (Some u) (settled_by (used proof steps (Some u)) o)
  shown_replayed u Kept legal proof steps = inl (refl, legal)
  shown_replayed u (Broken i) is proof steps = inr (i, refl, is)
  shown_replayed u NotShown never proof steps = absurd never

  -- the first step that can't be taken, since it isn't legal
  pub broken_at : (steps : List Step) (i : ℕ) → IsIllegalAt IsLegalExactly after_exact_step page stmts steps i → IsBrokenAt page stmts steps i
  broken_at steps i is = (
    can_legal IsLegalExactly after_exact_step stmts (take i steps) page is.before,
    subst (λ (t : LabelTree). IsSomeAnd (slice_get steps i) (λ step. ¬ IsLegalExactly t stmts step)) (same_end stmts (take i steps) page) is.here,
  )

module _ (page : LabelTree) (stmts : List ExactStatement) (system : System) where
  pub others_settled : (a : code.Answer) → ((proof : Proof) (steps : ℕ) (shown : Option Unfolded) → a ≡ Used proof steps shown → ⊥) → IsSettled page stmts system (answer_of a) (answer_of a)
  others_settled (Used proof steps shown) other = absurd (other proof steps shown refl)
  others_settled (Maybe proof steps shown step) other = refl
  others_settled UsedUnshown other = refl
  others_settled Unused other = refl
  others_settled (Skipped cause at) other = refl
  others_settled Spent other = refl

  -- whether one of the steps has a sharp call is told by the proof
  told : (proof : Proof) (notes : List Bool) (b : Bool) → notes ≡ map is_sharp_statement stmts → b ≡ has_step (noted notes) system proof → (b ≡ true) ↔ HasSharpStep stmts (steps_of system proof page)
  told proof notes b same is =
      let noted' = steps_noted stmts (steps_of system proof page) in
      let all : b ≡ some_step (noted (map is_sharp_statement stmts)) (steps_of system proof page) =
      is ∙ ap (λ (z : List Bool). has_step (noted z) system proof) same ∙ sym (has_step-unfolded (noted (map is_sharp_statement stmts)) system proof page) in
      (λ on. noted'.0 (sym all ∙ on), λ has. all ∙ noted'.1 has)

  pub not_asked : (proof : Proof) (steps : ℕ) (shown : Option Unfolded) (notes : List Bool) (b : Bool) → notes ≡ map is_sharp_statement stmts → b ≡ has_step (noted notes) system proof → b ≡ false
      → IsSettled page stmts system (used proof steps shown) (used proof steps shown)
  not_asked proof steps shown notes b same is off = inr (λ has. false≢true (sym off ∙ (told proof notes b same is).1 has), refl)

  pub asked : (proof : Proof) (steps : ℕ) (shown : Option Unfolded) (notes : List Bool) (b : Bool) (x : Answer) → notes ≡ map is_sharp_statement stmts → b ≡ has_step (noted notes) system proof → b ≡ true
      → IsReplayed page stmts proof steps shown x → IsSettled page stmts system (used proof steps shown) x
  asked proof steps shown notes b x same is on replayed = inl ((told proof notes b same is).0 on, replayed)

  -- ---- all answers

  settled_more : (old new : List Answer) (a b : Answer) → AreSettled page stmts system old new → IsSettled page stmts system a b → AreSettled page stmts system (old ++ a ∷ []) (new ++ b ∷ [])
  settled_more [] [] a b are is = (is, tt)
  settled_more [] (y ∷ new) a b are is = absurd are
  settled_more (x ∷ old) [] a b are is = absurd are
  settled_more (x ∷ old) (y ∷ new) a b are is = (are.0, settled_more old new a b are.1 is)

  -- some are settled, and these are left
  pub record IsSettling (all left new : List code.Answer) : Type 0 where
    pub done : List code.Answer
    pub cut : all ≡ done ++ left
    pub are : AreSettled page stmts system (map answer_of done) (map answer_of new)
    pub unfolded : All (λ (a : code.Answer). IsUnfolded page system (answer_of a)) left

  pub none_settled : (all left : List code.Answer) → left ≡ all → All (λ (a : code.Answer). IsUnfolded page system (answer_of a)) all → IsSettling all left []
  none_settled all left same unfolded = record { done = []; cut = sym same; are = tt; unfolded = subst (All (λ (a : code.Answer). IsUnfolded page system (answer_of a))) (sym same) unfolded }

  module _ (all left new rest : List code.Answer) (a : code.Answer) (before : IsSettling all left new) (cut : left ≡ a ∷ rest) where
    pub next_unfolded : IsUnfolded page system (answer_of a)
    next_unfolded = All-head (λ (x : code.Answer). IsUnfolded page system (answer_of x)) a rest (subst (All (λ (x : code.Answer). IsUnfolded page system (answer_of x))) cut before.unfolded)

    pub one_settled : (more : List code.Answer) (b : code.Answer) (o : Outcome) → more ≡ new ++ b ∷ [] → answer_of b ≡ settled_by (answer_of a) o → IsSettled page stmts system (answer_of a) (settled_by (answer_of a) o) → IsSettling all rest more
    one_settled more b o grown said is = record {
      done = before.done ++ a ∷ [];
      cut = before.cut ∙ ap (λ (z : List code.Answer). before.done ++ z) cut ∙ sym (append_assoc before.done (a ∷ []) rest);
      are = rw (grown, map-append answer_of before.done (a ∷ []), map-append answer_of new (b ∷ []))
          (settled_more (map answer_of before.done) (map answer_of new) (answer_of a) (answer_of b) before.are (subst (λ (z : Answer). IsSettled page stmts system (answer_of a) z) (sym said) is));
      unfolded = All-rest (λ (x : code.Answer). IsUnfolded page system (answer_of x)) a rest left cut before.unfolded;
    }

  pub all_settled : (all left new : List code.Answer) → IsSettling all left new → left ≡ [] → AreSettled page stmts system (map answer_of all) (map answer_of new)
  all_settled all left new is none =
      let whole : all ≡ is.done = is.cut ∙ ap (λ (z : List code.Answer). is.done ++ z) none ∙ append-nil is.done in
      subst (λ (z : List code.Answer). AreSettled page stmts system (map answer_of z) (map answer_of new)) (sym whole) is.are

  -- ---- what can be reported can be still

  one_reportable : (places : List Place) (o : sheets.Outcome) (a b : Answer) → IsReportable places o a → IsSettled page stmts system a b → IsReportable places o b
  one_reportable places o (used proof steps None) b is (inl both) = subst (λ (z : Answer). IsReportable places o z) (sym both.1) (is.0, tt, tt)
  one_reportable places o (used proof steps (Some u)) b is (inl both) = elim both.1 [
    | inl kept ↦ subst (λ (z : Answer). IsReportable places o z) (sym kept.0) is
    | inr broken ↦
        let at = broken.2 in
        subst (λ (z : Answer). IsReportable places o z) (sym broken.1) (is.0, is.1, is_within u.steps broken.0 (λ step. ¬ IsLegalExactly (end_of page (wides stmts) (take broken.0 u.steps)) stmts step) at.1)
  ]
  one_reportable places o (used proof steps shown) b is (inr both) = subst (λ (z : Answer). IsReportable places o z) (sym both.1) is
  one_reportable places o (maybe proof steps shown broken) b is same = subst (λ (z : Answer). IsReportable places o z) (sym same) is
  one_reportable places o used_unshown b is same = subst (λ (z : Answer). IsReportable places o z) (sym same) is
  one_reportable places o unused b is same = subst (λ (z : Answer). IsReportable places o z) (sym same) is
  one_reportable places o (skipped cause at) b is same = subst (λ (z : Answer). IsReportable places o z) (sym same) is
  one_reportable places o spent b is same = subst (λ (z : Answer). IsReportable places o z) (sym same) is

  pub settled_reportable : (places : List Place) (items : List sheets.Item) (old new : List Answer) → AreReportable places items old → AreSettled page stmts system old new → AreReportable places items new
  settled_reportable places [] [] [] are settled = tt
  settled_reportable places [] [] (b ∷ new) are settled = absurd settled
  settled_reportable places [] (a ∷ old) new are settled = absurd are
  settled_reportable places (i ∷ items) [] new are settled = absurd are
  settled_reportable places (i ∷ items) (a ∷ old) [] are settled = absurd settled
  settled_reportable places (i ∷ items) (a ∷ old) (b ∷ new) are settled = (one_reportable places i.outcome a b are.0 settled.0, settled_reportable places items old new are.1 settled.1)

  -- ---- what is said to be used is so by steps that are legal exactly

  replayed : (proof : Proof) (steps : ℕ) (shown : Option Unfolded) (proof' : Proof) (steps' : ℕ) (shown' : Option Unfolded) → IsReplayed page stmts proof steps shown (used proof' steps' shown')
      → (used proof steps shown ≡ used proof' steps' shown') × (ShowsAll system proof page shown → AreLegalExactly page stmts (steps_of system proof page))
  replayed proof steps None proof' steps' shown' is = let never = is in cc
  replayed proof steps (Some u) proof' steps' shown' (inl is) = (sym is.0, λ all. subst (AreLegalExactly page stmts) all is.1)
  replayed proof steps (Some u) proof' steps' shown' (inr is) = let never = is.1 in cc

  pub used_is_exact : UsedIsExact page stmts system
  used_is_exact (used p n s) proof steps shown (inl both) =
      let r = replayed p n s proof steps shown both.1 in
      let same : p ≡ proof = cc in
      let shows : s ≡ shown = cc in
      (r.0, λ all legal. subst (λ z. AreLegalExactly page stmts (steps_of system z page)) same (r.1 (subst (λ z. ShowsAll system z page s) (sym same) (subst (ShowsAll system proof page) (sym shows) all))))
  used_is_exact (used p n s) proof steps shown (inr both) =
      let same : proof ≡ p = cc in
      (sym both.1, λ all legal. plain_steps page stmts (steps_of system proof page) (λ sharp. both.0 (subst (λ z. HasSharpStep stmts (steps_of system z page)) same sharp)) legal)
  used_is_exact (maybe p n s b) proof steps shown is = cc
  used_is_exact used_unshown proof steps shown is = cc
  used_is_exact unused proof steps shown is = cc
  used_is_exact (skipped cause at) proof steps shown is = cc
  used_is_exact spent proof steps shown is = cc

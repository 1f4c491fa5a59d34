-- Two runs that ask the same of the same texts say the same, whichever engines they have, where neither is short of room.
use Rattle.std.proofs.Common.{◌≡◌, ℕ, zero, suc, ◌<◌, List, [], ◌∷◌, length, map, take, drop, Contains, Option, Some, None, IsSomeAnd, slice_get, Ok, refl, sym, ap, ◌∙◌, subst, inl, inr, arith}
use Rattle.std.proofs.lemmas.Bool.{cases_order}
use Rattle.tp_base.proofs.Rising.{Contains-here, Contains-behind, Contains-cons, Contains-none}
use Rattle.tree_sem.specs.Trees.{LabelTree}
use Rattle.tree_sem.specs.declared.actions.Step.{Step}
use Rattle.css_read.specs.Sheets.{Outcome, judged, skipped as left_out, Item}
use Rattle.jq_sem.specs.Reachability.{after_step, end_of}
use Rattle.jq_stmts.specs.Sharp.{ExactStatement, wides}
use Rattle.jq_stmts.specs.Statements.{Statement}
use Rattle.jq_exact.specs.Exact.{IsLegalExactly, AreLegalExactly}
use Rattle.jq_exact.specs.Settling.{IsBrokenAt, IsReplayed, IsSettled, AreSettled}
use Rattle.simple_core.specs.declared.system.System.{System}
use Rattle.guard_sem.specs.Guards.{Guard}
use Rattle.proof_check.specs.declared.proofs.Proof.{Proof}
use Rattle.proof_check.specs.declared.unfolded.Unfolded.{Unfolded}
use Rattle.usage_report.specs.Answers.{Answer, used, maybe, used_unshown, unused, skipped, spent}
use Rattle.usage_report.specs.RunTraces.{RunTrace}
use Rattle.run_trace.proofs.TraceLemmas.{one_list}
use Rattle.limits.specs.declared.budgets.Limits.{Limits}
use Rattle.judge.specs.Answers.{IsAnswer, AreAnswers, AreAnswersFor, spent_for, spent_answers}
use Rattle.judge.specs.Goals.{holding}
use Rattle.judge.specs.Outcomes as judge
use Rattle.judge.proofs.AgreementLemmas.{same_for, same_answers}
use Rattle.command_words.specs.declared.words.Mode.{Mode}
use Rattle.command_words.specs.declared.words.Mode.TheVariants.{Report, Prune, Dead, Runs, Site, SitePrune}
use Rattle.treeped_app.specs.Laws.{HasRoom, AskTheSame}
use Rattle.treeped_app.specs.Modes.{Texts, Inputs, Said, extra_in, guards_in, AreAnswersOf, AreTracesIn, text_from, text_of, status_of}
use Rattle.treeped_app.specs.Runs.{Told, Run, read_inputs, IsSaid, AreSaid}
use Rattle.treeped_app.specs.Tasks.{Source, Visit, visits, Task, task_by}

-- ---- answers none of which is spent are those that were found out

module _ (stmts : List Statement) (guards : List Guard) (n : ℕ) (page : LabelTree) (limits : Limits) where
  one_left : (o : Outcome) → ¬ (spent ≡ spent_for o) → IsAnswer stmts guards n page limits o (spent_for o)
  one_left (judged s) found = absurd (found refl)
  one_left (left_out cause at) found = refl

  all_left : (items : List Item) → ¬ Contains (spent_answers items) spent → AreAnswers stmts guards n page limits items (spent_answers items)
  all_left [] found = tt
  all_left (i ∷ items) found = (
    one_left i.outcome (λ same. found (Contains-here spent (spent_for i.outcome) (spent_answers items) same)),
    all_left items (λ there. found (Contains-behind spent (spent_for i.outcome) (spent_answers items) there)),
  )

  none_asked : (extra : List Guard) → ¬ Contains (map (λ (g : Guard). spent) extra) spent → AreAnswersFor stmts guards n page limits (map holding extra) (map (λ (g : Guard). spent) extra)
  none_asked [] found = tt
  none_asked (g ∷ extra) found = absurd (found (Contains-here spent spent (map (λ (h : Guard). spent) extra) refl))

module _ (stmts : List Statement) (items : List Item) (extra : List Guard) (n : ℕ) (page : LabelTree) (limits : Limits) where
  found_out : (answers others : List Answer) → judge.AreJudged stmts items extra n page limits answers others → ¬ Contains answers spent → ¬ Contains others spent
      → AreAnswers stmts (judge.guards_in items extra) n page limits items answers × AreAnswersFor stmts (judge.guards_in items extra) n page limits (map holding extra) others
  found_out answers others (inl are) first second = (are.0, are.1)
  found_out answers others (inr are) first second = (
    subst (λ (z : List Answer). AreAnswers stmts (judge.guards_in items extra) n page limits items z) (sym are.0)
        (all_left stmts (judge.guards_in items extra) n page limits items (subst (λ (z : List Answer). ¬ Contains z spent) are.0 first)),
    subst (λ (z : List Answer). AreAnswersFor stmts (judge.guards_in items extra) n page limits (map holding extra) z) (sym are.1)
        (none_asked stmts (judge.guards_in items extra) n page limits extra (subst (λ (z : List Answer). ¬ Contains z spent) are.1 second)),
  )

-- ---- they are settled in one way

module _ (stmts : List ExactStatement) where
  -- among steps that are legal none is the first that isn't
  taken : (steps : List Step) (t : LabelTree) (n i : ℕ) → i < n → AreLegalExactly t stmts (take n steps)
      → IsSomeAnd (slice_get steps i) (λ step. ¬ IsLegalExactly (end_of t (wides stmts) (take i steps)) stmts step) → ⊥
  taken [] t n i less legal here = absurd here
  taken (step ∷ steps) t zero i less legal here = absurd (omega (arith, less))
  taken (step ∷ steps) t (suc n) zero less legal here = here legal.0
  taken (step ∷ steps) t (suc n) (suc i) less legal here = taken steps (after_step t (wides stmts) step) n i (omega (arith, less)) legal.1 here

  all_taken : (steps : List Step) (t : LabelTree) (i : ℕ) → AreLegalExactly t stmts steps → IsSomeAnd (slice_get steps i) (λ step. ¬ IsLegalExactly (end_of t (wides stmts) (take i steps)) stmts step) → ⊥
  all_taken [] t i legal here = absurd here
  all_taken (step ∷ steps) t zero legal here = here legal.0
  all_taken (step ∷ steps) t (suc i) legal here = all_taken steps (after_step t (wides stmts) step) i legal.1 here

module _ (page : LabelTree) (stmts : List ExactStatement) where
  one_broken : (steps : List Step) (i j : ℕ) → IsBrokenAt page stmts steps i → IsBrokenAt page stmts steps j → i ≡ j
  one_broken steps i j a b = elim (cases_order i j) [
    | inl same ↦ same
    | inr (inl less) ↦ absurd (taken stmts steps page j i less b.0 a.1)
    | inr (inr more) ↦ absurd (taken stmts steps page i j more a.0 b.1)
  ]

  one_replayed : (proof : Proof) (steps : ℕ) (shown : Option Unfolded) (b c : Answer) → IsReplayed page stmts proof steps shown b → IsReplayed page stmts proof steps shown c → b ≡ c
  one_replayed proof steps None b c x y = x ∙ sym y
  one_replayed proof steps (Some u) b c (inl x) (inl y) = x.0 ∙ sym y.0
  one_replayed proof steps (Some u) b c (inl x) (inr y) = let at = y.2 in absurd (all_taken stmts u.steps page y.0 x.1 at.1)
  one_replayed proof steps (Some u) b c (inr x) (inl y) = let at = x.2 in absurd (all_taken stmts u.steps page x.0 y.1 at.1)
  one_replayed proof steps (Some u) b c (inr x) (inr y) = x.1 ∙ ap (λ i. maybe proof steps (Some u) (Some i)) (one_broken u.steps x.0 y.0 x.2 y.2) ∙ sym y.1

module _ (page : LabelTree) (stmts : List ExactStatement) (system : System) where
  one_settled : (a b c : Answer) → IsSettled page stmts system a b → IsSettled page stmts system a c → b ≡ c
  one_settled (used proof steps shown) b c (inl x) (inl y) = one_replayed page stmts proof steps shown b c x.1 y.1
  one_settled (used proof steps shown) b c (inl x) (inr y) = absurd (y.0 x.0)
  one_settled (used proof steps shown) b c (inr x) (inl y) = absurd (x.0 y.0)
  one_settled (used proof steps shown) b c (inr x) (inr y) = x.1 ∙ sym y.1
  one_settled (maybe proof steps shown broken) b c x y = x ∙ sym y
  one_settled used_unshown b c x y = x ∙ sym y
  one_settled unused b c x y = x ∙ sym y
  one_settled (skipped cause at) b c x y = x ∙ sym y
  one_settled spent b c x y = x ∙ sym y

  all_settled : (old new other : List Answer) → AreSettled page stmts system old new → AreSettled page stmts system old other → new ≡ other
  all_settled [] [] [] x y = refl
  all_settled [] [] (c ∷ other) x y = absurd y
  all_settled [] (b ∷ new) other x y = absurd x
  all_settled (a ∷ old) [] other x y = absurd x
  all_settled (a ∷ old) (b ∷ new) [] x y = absurd y
  all_settled (a ∷ old) (b ∷ new) (c ∷ other) x y = let first = one_settled a b c x.0 y.0 in let rest = all_settled old new other x.1 y.1 in λ k. first k ∷ rest k

  -- what is spent stays so
  stays_spent : (old new : List Answer) → AreSettled page stmts system old new → Contains old spent → Contains new spent
  stays_spent [] new are there = absurd (Contains-none spent there)
  stays_spent (a ∷ old) [] are there = absurd are
  stays_spent (a ∷ old) (b ∷ new) are there = elim ((Contains-cons spent a old).0 there) [
    | inl same ↦ Contains-here spent b new (sym (subst (λ (z : Answer). IsSettled page stmts system z b) (sym same) are.0))
    | inr behind ↦ Contains-behind spent b new (stays_spent old new are.1 behind)
  ]

-- ---- one page

one_traces : (m : Mode) (i : Inputs) (items : List Answer) (traces others : List (Option RunTrace)) → AreTracesIn m i items traces → AreTracesIn m i items others → traces ≡ others
one_traces Runs i items traces others x y = one_list i.tree i.stmts i.sheet.items items traces others x y
one_traces Report i items traces others x y = x ∙ sym y
one_traces Prune i items traces others x y = x ∙ sym y
one_traces Dead i items traces others x y = x ∙ sym y
one_traces Site i items traces others x y = x ∙ sym y
one_traces SitePrune i items traces others x y = x ∙ sym y

module _ (m : Mode) (limits other : Limits) (entries : limits.entries ≡ other.entries) (list : limits.list ≡ other.list) (i : Inputs) where
  abbrev system : System
  system = judge.system_in i.stmts i.sheet.items (extra_in m i) (length i.names)

  found_of : (l : Limits) (items others : List Answer) (of : AreAnswersOf m l i items others) → ¬ Contains items spent → ¬ Contains others spent
      → AreAnswers i.stmts (guards_in m i) (length i.names) i.tree l i.sheet.items of.judged × AreAnswersFor i.stmts (guards_in m i) (length i.names) i.tree l (map holding (extra_in m i)) others
  found_of l items others of first second =
      found_out i.stmts i.sheet.items (extra_in m i) (length i.names) i.tree l of.judged others of.are.exactly
      (λ there. first (stays_spent i.tree i.exact system of.judged items of.settled there)) second

  one_answer : (items others items' others' : List Answer) (of : AreAnswersOf m limits i items others) (of' : AreAnswersOf m other i items' others') → ¬ Contains items spent → ¬ Contains others spent → ¬ Contains items' spent
      → ¬ Contains others' spent → (items' ≡ items) × (others' ≡ others)
  one_answer items others items' others' of of' first second first' second' =
      let found = found_of limits items others of first second in
      let found' = found_of other items' others' of' first' second' in
      let judged' : of.judged ≡ of'.judged = same_answers i.stmts (guards_in m i) (length i.names) i.tree limits other entries list i.sheet.items of.judged of'.judged found.0 found'.0 in (
        all_settled i.tree i.exact system of.judged items' items (subst (λ (z : List Answer). AreSettled i.tree i.exact system z items') (sym judged') of'.settled) of.settled,
        sym (same_for i.stmts (guards_in m i) (length i.names) i.tree limits other entries list (map holding (extra_in m i)) others others' found.1 found'.1),
      )

-- ---- all pages

module _ (told told' : Told) (t t' : Task) (mode : t'.mode ≡ t.mode) (entries : t'.limits.entries ≡ t.limits.entries) (list : t'.limits.list ≡ t.limits.list) where
  one_page : (v : Visit) (s s' : Said) → IsSaid told t v s → IsSaid told' t' v s' → s'.texts ≡ s.texts → HasRoom s → HasRoom s' → s' ≡ s
  one_page v s s' is is' texts room room' =
      let read : read_inputs t.mode v.number s.texts ≡ Ok s'.inputs =
      subst (λ (x : Texts). read_inputs t.mode v.number x ≡ Ok s'.inputs) texts (subst (λ (m : Mode). read_inputs m v.number s'.texts ≡ Ok s'.inputs) mode is'.read) in
      let both : Ok s'.inputs ≡ Ok s.inputs = sym read ∙ is.read in
      let inputs : s'.inputs ≡ s.inputs = cc in
      let of : AreAnswersOf t.mode t'.limits s.inputs s'.items s'.others =
      subst (λ (i : Inputs). AreAnswersOf t.mode t'.limits i s'.items s'.others) inputs (subst (λ (m : Mode). AreAnswersOf m t'.limits s'.inputs s'.items s'.others) mode is'.answers) in
      let same = one_answer t.mode t.limits t'.limits (sym entries) (sym list) s.inputs s.items s.others s'.items s'.others is.answers of room.items room.others room'.items room'.others in
      let ran : AreTracesIn t.mode s.inputs s.items s'.traces =
      subst (λ (z : List Answer). AreTracesIn t.mode s.inputs z s'.traces) same.0
      (subst (λ (i : Inputs). AreTracesIn t.mode i s'.items s'.traces) inputs (subst (λ (m : Mode). AreTracesIn m s'.inputs s'.items s'.traces) mode is'.traces)) in
      let traces = one_traces t.mode s.inputs s.items s'.traces s.traces ran is.traces in
      λ k. record { texts = texts k; inputs = inputs k; items = same.0 k; others = same.1 k; traces = traces k }

  abbrev texts_of : List Said → List Texts
  texts_of said = map (λ (s : Said). s.texts) said

  all_pages : (vs : List Visit) (said said' : List Said) → AreSaid told t vs said → AreSaid told' t' vs said' → texts_of said' ≡ texts_of said → ((s : Said) → Contains said s → HasRoom s)
      → ((s : Said) → Contains said' s → HasRoom s) → said' ≡ said
  all_pages [] [] [] all all' texts room room' = refl
  all_pages [] [] (s' ∷ said') all all' texts room room' = absurd all'
  all_pages [] (s ∷ said) said' all all' texts room room' = absurd all
  all_pages (v ∷ vs) [] said' all all' texts room room' = absurd all
  all_pages (v ∷ vs) (s ∷ said) [] all all' texts room room' = absurd all'
  all_pages (v ∷ vs) (s ∷ said) (s' ∷ said') all all' texts room room' =
      let heads : Some s'.texts ≡ Some s.texts = ap (λ (z : List Texts). slice_get z 0) texts in
      let head : s'.texts ≡ s.texts = cc in
      let first = one_page v s s' all.0 all'.0 head (room s (Contains-here s s said refl)) (room' s' (Contains-here s' s' said' refl)) in
      let rest = all_pages vs said said' all.1 all'.1 (ap (λ (z : List Texts). drop 1 z) texts) (λ x there. room x (Contains-behind x s said there)) (λ x there. room' x (Contains-behind x s' said' there)) in
      λ k. first k ∷ rest k

-- ---- what is written, and the status

pub one_text : (r r' : Run) (t t' : Task) (said said' : List Said) → AskTheSame r r' t t' said said' → (text_of t' said' ≡ text_of t said) × (status_of t' said' ≡ status_of t said)
one_text r r' t t' said said' ask =
    let there : AreSaid r'.told t' (visits t.source) said' = subst (λ (z : Source). AreSaid r'.told t' (visits z) said') ask.source ask.whole'.all in
    let same : said' ≡ said = all_pages r.told r'.told t t' ask.mode ask.entries ask.list (visits t.source) said said' ask.whole.all there ask.texts ask.room ask.room' in (
      ap (λ (z : List Said). text_from t'.source t'.mode z) same ∙ ap (λ (z : Source). text_from z t'.mode said) ask.source ∙ ap (λ (m : Mode). text_from t.source m said) ask.mode,
      ap (λ (z : List Said). status_of t' z) same ∙ ap (λ (m : Mode). status_of (task_by t.source m t.limits) said) ask.mode,
    )

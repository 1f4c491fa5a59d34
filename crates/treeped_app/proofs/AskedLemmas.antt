-- What is asked once for several probes: the system is that of all probes, and each answer is right for every probe of its number.
use Rattle.std.proofs.Common.{◌≡◌, ℕ, zero, suc, ◌+◌, ◌<◌, ◌≤◌, List, [], ◌∷◌, ◌++◌, length, map, drop, get_or, All, Contains, Option, refl, sym, ap, subst, ◌∙◌, inl, inr, arith, append_assoc}
use Rattle.std.specs.List.{flat_map}
use Rattle.std.proofs.lemmas.Bool.{cases_lt}
use Rattle.std.proofs.lemmas.List.{drop_more, drop_all, length-map}
use Rattle.std.proofs.lemmas.List.Concat.{flat_map-append}
use Rattle.std.proofs.lemmas.List.Elements.{All-head, All-tail, All-contains, All-from_get_or, Contains-append_left}
use Rattle.std.proofs.Math.ListN.{get_or-map}
use Rattle.tp_base.specs.declared.atoms.TheConstants.{MOST_ATOMS}
use Rattle.tp_base.proofs.Rising.{Contains-here, Contains-behind}
use Rattle.tree_sem.specs.declared.actions.Step.{Step}
use Rattle.tree_sem.specs.Trees.{LabelTree}
use Rattle.tree_sem.proofs.NodeLemmas.{Contains-map}
use Rattle.jq_sem.specs.Reachability.{AreLegal, end_of}
use Rattle.jq_stmts.specs.Statements.{Statement}
use Rattle.css_read.specs.Sheets.{Outcome, judged, skipped as left_out, Item}
use Rattle.guard_sem.specs.Guards.{Guard, always, same_guard}
use Rattle.guard_sem.specs.OfSelectors.{of_selector}
use Rattle.guard_sem.specs.declared.rules.Rule.{Rule}
use Rattle.guard_sem.proofs.SameGuards.{same_guard-sound, same_guard-itself}
use Rattle.rule_translate.specs.Translation.{rules_of}
use Rattle.simple_core.specs.declared.system.System.{System}
use Rattle.guard_simplify.specs.declared.simplified.TheConstants.{MOST_VISIBLE}
use Rattle.guard_simplify.specs.Firsts.{different}
use Rattle.guard_simplify.specs.Auxiliaries.{formulas_of, formulas, seen}
use Rattle.guard_simplify.specs.Law.{IsOver}
use Rattle.guard_simplify.specs.Numbered.{with_all}
use Rattle.guard_simplify.proofs.NumberLemmas.{Contains-folded_list}
use Rattle.guard_simplify.proofs.NumberedLemmas.{with_all-append, with_all-there, grown}
use Rattle.proof_check.specs.declared.proofs.Proof.{Proof}
use Rattle.proof_check.specs.declared.unfolded.Unfolded.{Unfolded}
use Rattle.proof_check.specs.Unfolding.{unfolded}
use Rattle.proof_check.specs.Validity.{IsValid}
use Rattle.proof_maker.specs.Needs.{IsCanonical, UsesMore}
use Rattle.usage_report.specs.Answers.{Answer, used, maybe, used_unshown, unused, skipped, spent}
use Rattle.limits.specs.declared.budgets.Limits.{Limits}
use Rattle.guard_simplify.specs.declared.simplified.SimplifyFault.{SimplifyFault}
use Rattle.guard_simplify.specs.declared.simplified.SimplifyFault.TheVariants.{TooManyAtoms, TooManyVisible, Memory}
use Rattle.judge.specs.Answers.{judged_in, count_of, IsShown, IsUsed, IsAnswerFor, AreAnswersFor, IsAnswer, AreAnswers}
use Rattle.judge.specs.Goals.{Goal, matching, holding, goal_guard, IsMet}
use Rattle.judge.specs.Outcomes.{AreGiven, guards_in, system_in, count_atoms, IsFault, IsWithin, AreJudged}
use Rattle.judge.specs.Spending.{MaySpend, HasToSpend}
use Rattle.judge.specs.TheSystem.{the_system, seen_atom}
use Rattle.judge.specs.Witnesses.{trace}
use Rattle.dead_script.specs.Asked.{by_number, InOrder, AreAsked}
use Rattle.dead_script.proofs.AskedLemmas.{in_order_known}
use Rattle.treeped_app.proofs.TablesLemmas.{same_auxiliaries, same_atom, same_system}

-- ---- a list without repeats takes nothing twice

-- what is kept stays
stays_kept : (kept xs : List Guard) (x : Guard) → Contains kept x → Contains (with_all kept xs) x
stays_kept kept xs x is = let more = grown kept xs in subst (λ z. Contains z x) (sym more.1) (Contains-append_left kept more.0 x is)

-- ---- numbers

-- each below the last has a number
each_reached : (numbers : List ℕ) (k n : ℕ) → InOrder k numbers n → (i : ℕ) → k ≤ i → i < n → Contains numbers i
each_reached [] k n order i from to = absurd (omega (arith, order))
each_reached (j ∷ numbers) k n (inl (before, order)) i from to = Contains-behind i j numbers (each_reached numbers k n order i from to)
each_reached (j ∷ numbers) k n (inr (next, order)) i from to = elim (cases_lt k i) [
  | inl later ↦ Contains-behind i j numbers (each_reached numbers (k + 1) n order i (omega arith) to)
  | inr here ↦ Contains-here i j numbers (omega (arith, next))
]

-- what holds at all numbers holds of each
pub each_of : {X : Type 0} (P : X → Type 0) (d : X) (xs : List X) (numbers : List ℕ) → InOrder 0 numbers (length xs) → All P (by_number d xs numbers) → All P xs
each_of P d xs numbers order all = All-from_get_or P xs d (λ i within.
    All-contains P (by_number d xs numbers) (get_or xs i d) all (Contains-map (λ k. get_or xs k d) numbers i (each_reached numbers 0 (length xs) order i (omega arith) within)))

-- ---- guards at their numbers, and guards once

module _ (f : Guard → List Guard) (gs : List Guard) where
  abbrev one : ℕ → List Guard
  one j = f (get_or gs j always)

  abbrev all_of : List ℕ → List Guard
  all_of numbers = flat_map f (by_number always gs numbers)

  -- what the first k guards give is kept
  abbrev AreKept : ℕ → List Guard → Type 0
  AreKept k kept = (j : ℕ) → j < k → (x : Guard) → Contains (one j) x → Contains kept x

  one_more : (k : ℕ) (kept : List Guard) → AreKept k kept → AreKept (k + 1) (with_all kept (one k))
  one_more k kept are j less x is = elim (cases_lt j k) [
    | inl before ↦ stays_kept kept (one k) x (are j before x is)
    | inr here ↦ let same : j ≡ k = omega arith in Contains-folded_list same_guard same_guard-sound same_guard-itself (one k) kept x (subst (λ z. Contains (one z) x) same is)
  ]

  -- at each number what is new there is taken, in the order of the guards
  once_each : (numbers : List ℕ) (k : ℕ) (kept : List Guard) → AreKept k kept → InOrder k numbers (length gs) → with_all kept (all_of numbers) ≡ with_all kept (flat_map f (drop k gs))
  once_each [] k kept are order = ap (λ z. with_all kept (flat_map f z)) (sym (drop_all k gs (omega (arith, order))))
  once_each (j ∷ numbers) k kept are (inl (before, order)) =
      with_all-append kept (one j) (all_of numbers) ∙ ap (λ z. with_all z (all_of numbers)) (with_all-there kept (one j) (are j before)) ∙ once_each numbers k kept are order
  once_each (j ∷ numbers) k kept are (inr (next, order)) =
      let within : k < length gs = omega (arith, (in_order_known (k + 1) (length gs) numbers order).0) in
      with_all-append kept (one j) (all_of numbers) ∙ ap (λ z. with_all (with_all kept (one z)) (all_of numbers)) next
      ∙ once_each numbers (k + 1) (with_all kept (one k)) (one_more k kept are) order ∙ sym (with_all-append kept (one k) (flat_map f (drop (k + 1) gs)))
      ∙ ap (λ z. with_all kept (flat_map f z)) (sym (drop_more gs k always within))

-- a guard alone
alone : (gs : List Guard) → flat_map (λ g. g ∷ []) gs ≡ gs
alone [] = refl
alone (g ∷ gs) = ap (λ z. g ∷ z) (alone gs)

-- ---- one system

module _ (extra gs : List Guard) (numbers : List ℕ) (asked : AreAsked extra gs numbers) where
  taken_once : (f : Guard → List Guard) (kept : List Guard) → with_all kept (flat_map f gs) ≡ with_all kept (flat_map f extra)
  taken_once f kept = sym (ap (λ z. with_all kept (flat_map f z)) asked.of_probes ∙ once_each f gs numbers 0 kept (λ j less. absurd (omega (arith, less))) asked.in_order)

  same_different : (base : List Guard) → different same_guard (base ++ gs) ≡ different same_guard (base ++ extra)
  same_different base =
      let once : with_all (with_all [] base) gs ≡ with_all (with_all [] base) extra =
      ap (with_all (with_all [] base)) (sym (alone gs)) ∙ taken_once (λ g. g ∷ []) (with_all [] base) ∙ ap (with_all (with_all [] base)) (alone extra) in
      with_all-append [] base gs ∙ once ∙ sym (with_all-append [] base extra)

  same_formulas : (rules : List Rule) (base : List Guard) → formulas rules (base ++ gs) ≡ formulas rules (base ++ extra)
  same_formulas rules base =
      let own = map (λ (r : Rule). r.guard) rules in
      let front = with_all [] (flat_map formulas_of (own ++ base)) in
      let parted : (more : List Guard) → with_all [] (flat_map formulas_of (own ++ (base ++ more))) ≡ with_all front (flat_map formulas_of more) =
      λ more. ap (λ z. with_all [] (flat_map formulas_of z)) (sym (append_assoc own base more)) ∙ ap (with_all []) (flat_map-append formulas_of (own ++ base) more) ∙ with_all-append [] (flat_map formulas_of (own ++ base)) (flat_map formulas_of more) in
      parted gs ∙ taken_once formulas_of front ∙ sym (parted extra)

  module _ (ss : List Statement) (items : List Item) (n : ℕ) where
    abbrev once : List Guard
    once = guards_in items gs

    abbrev each : List Guard
    each = guards_in items extra

    pub system_of_asked : system_in ss items gs n ≡ system_in ss items extra n
    system_of_asked = same_system (rules_of ss) once each n (same_formulas (rules_of ss) (map of_selector (judged_in items))) (same_different (map of_selector (judged_in items)))

    atoms_of_asked : count_atoms ss items gs n ≡ count_atoms ss items extra n
    atoms_of_asked = ap (λ z. n + length z) (same_auxiliaries (rules_of ss) once each n (same_formulas (rules_of ss) (map of_selector (judged_in items))) (same_different (map of_selector (judged_in items))))

    seen_of_asked : (g : Guard) → seen_atom ss once n g ≡ seen_atom ss each n g
    seen_of_asked g = same_atom (rules_of ss) once each n (same_formulas (rules_of ss) (map of_selector (judged_in items))) (same_different (map of_selector (judged_in items))) (seen g)

    pub within_as_asked : IsWithin ss items gs n → IsWithin ss items extra n
    within_as_asked (atoms, visible) = (
      subst (λ z. z ≤ MOST_ATOMS) atoms_of_asked atoms,
      subst (λ (s : System). length s.visible ≤ MOST_VISIBLE) system_of_asked visible,
    )

    pub fault_as_asked : (e : SimplifyFault) → IsFault ss items gs n e → IsFault ss items extra n e
    fault_as_asked TooManyAtoms is = subst (λ z. MOST_ATOMS < z) atoms_of_asked is
    fault_as_asked TooManyVisible (atoms, visible) = (
      subst (λ z. z ≤ MOST_ATOMS) atoms_of_asked atoms,
      subst (λ (s : System). MOST_VISIBLE < length s.visible) system_of_asked visible,
    )
    fault_as_asked Memory is = tt

    -- each guard that is asked is that of a probe
    asked_over : All (IsOver n) extra → All (IsOver n) gs
    asked_over all = each_of (IsOver n) always gs numbers asked.in_order (subst (All (IsOver n)) asked.of_probes all)

    module _ (page : LabelTree) where
      pub given_as_asked : AreGiven ss items extra n page → AreGiven ss items gs n page
      given_as_asked given = record {
        statements = given.statements;
        selectors = given.selectors;
        guards = asked_over given.guards;
        tree = given.tree;
        few_statements = given.few_statements;
        few_nodes = given.few_nodes;
      }

      module _ (limits : Limits) where
        -- ---- answers

        -- the system and the atom of a goal
        abbrev System' : Type 0
        System' = System × ℕ

        both : (g : Goal) → ◌≡◌ {A = System'} (the_system ss once n, seen_atom ss once n (goal_guard g)) (the_system ss each n, seen_atom ss each n (goal_guard g))
        both g = λ i. (system_of_asked i, seen_of_asked (goal_guard g) i)

        same_trace : (g : Goal) (proof : Proof) → trace ss once n page g proof ≡ trace ss each n page g proof
        same_trace g proof = ap (λ (z : System'). unfolded z.0 proof page z.1) (both g)

        used_as_asked : (g : Goal) (proof : Proof) (steps : ℕ) (shown : Option Unfolded) → IsUsed ss once n page limits g proof steps shown → IsUsed ss each n page limits g proof steps shown
        used_as_asked g proof steps shown is =
            let leads = same_trace g proof in
            record {
              reached = is.reached;
              canonical = subst (λ (z : System'). IsCanonical z.0 page z.1 proof) (both g) is.canonical;
              valid = subst (λ (z : System'). IsValid z.0 page proof z.1) (both g) is.valid;
              within = is.within;
              witness = record {
                legal = subst (λ (t : List Step × List ℕ). AreLegal page ss t.0) leads is.witness.legal;
                match = subst (λ (t : List Step × List ℕ). IsMet (end_of page ss t.0) t.1 g) leads is.witness.match;
              };
              count = is.count ∙ ap count_of leads;
              shows = subst (λ (t : List Step × List ℕ). IsShown t limits.list shown) leads is.shows;
            }

        answer_as_asked : (g : Goal) (a : Answer) → IsAnswerFor ss once n page limits g a → IsAnswerFor ss each n page limits g a
        answer_as_asked g unused is = is
        answer_as_asked g used_unshown is = (is.0, subst (λ (z : System'). UsesMore z.0 page z.1 limits.entries) (both g) is.1)
        answer_as_asked g (used proof steps shown) is = used_as_asked g proof steps shown is
        answer_as_asked g (maybe proof steps shown broken) is = absurd is
        answer_as_asked g (skipped cause at) is = absurd is
        answer_as_asked g spent is = absurd is

        -- of the items
        item_as_asked : (o : Outcome) (a : Answer) → IsAnswer ss once n page limits o a → IsAnswer ss each n page limits o a
        item_as_asked (judged s) a is = answer_as_asked (matching s) a is
        item_as_asked (left_out cause at) a is = is

        items_as_asked : (is : List Item) (answers : List Answer) → AreAnswers ss once n page limits is answers → AreAnswers ss each n page limits is answers
        items_as_asked [] [] are = tt
        items_as_asked [] (a ∷ answers) are = absurd are
        items_as_asked (i ∷ is) [] are = absurd are
        items_as_asked (i ∷ is) (a ∷ answers) are = (item_as_asked i.outcome a are.0, items_as_asked is answers are.1)

        -- of the guard at a number
        answer_at : (hs : List Guard) (told : List Answer) → AreAnswersFor ss once n page limits (map holding hs) told → (j : ℕ) → j < length hs
            → IsAnswerFor ss each n page limits (holding (get_or hs j always)) (get_or told j spent)
        answer_at [] told are j less = absurd (omega (arith, less))
        answer_at (h ∷ hs) [] are j less = absurd are
        answer_at (h ∷ hs) (a ∷ told) are zero less = answer_as_asked (holding h) a are.0
        answer_at (h ∷ hs) (a ∷ told) are (suc j) less = answer_at hs told are.1 j (omega (arith, less))

        -- and of the probes that have these numbers
        answers_at : (told : List Answer) → AreAnswersFor ss once n page limits (map holding gs) told → (ks : List ℕ) → All (λ j. j < length gs) ks
            → AreAnswersFor ss each n page limits (map holding (by_number always gs ks)) (by_number spent told ks)
        answers_at told are [] within = tt
        answers_at told are (k ∷ ks) within = (answer_at gs told are k (All-head (λ j. j < length gs) k ks within), answers_at told are ks (All-tail (λ j. j < length gs) k ks within))

        as_many : (hs : List Guard) (told : List Answer) → AreAnswersFor ss once n page limits (map holding hs) told → length told ≡ length hs
        as_many [] [] are = refl
        as_many [] (a ∷ told) are = absurd are
        as_many (h ∷ hs) [] are = absurd are
        as_many (h ∷ hs) (a ∷ told) are = omega (arith, as_many hs told are.1)

        -- each answer has a number, and each number an answer
        pub told_in_order : (answers told : List Answer) → AreJudged ss items gs n page limits answers told → InOrder 0 numbers (length told)
        told_in_order answers told (inl (are, for, enough)) = subst (InOrder 0 numbers) (sym (as_many gs told for)) asked.in_order
        told_in_order answers told (inr (by, by', more)) = subst (InOrder 0 numbers) (sym (ap length by' ∙ length-map gs (λ (g : Guard). spent))) asked.in_order

        spent_at : (ks : List ℕ) → by_number spent (map (λ (g : Guard). spent) gs) ks ≡ map (λ (g : Guard). spent) (by_number always gs ks)
        spent_at [] = refl
        spent_at (k ∷ ks) = let first = get_or-map (λ (g : Guard). spent) gs k always in let rest = spent_at ks in λ i. first i ∷ rest i

        pub judged_as_asked : (answers told : List Answer) → AreJudged ss items gs n page limits answers told → AreJudged ss items extra n page limits answers (by_number spent told numbers)
        judged_as_asked answers told (inl (are, for, enough)) = inl (
          items_as_asked items answers are,
          subst (λ (z : List Guard). AreAnswersFor ss each n page limits (map holding z) (by_number spent told numbers)) (sym asked.of_probes)
              (answers_at told for numbers (in_order_known 0 (length gs) numbers asked.in_order).1),
          λ has. enough (subst (λ (s : System). HasToSpend limits.plain s page limits) (sym system_of_asked) has),
        )
        judged_as_asked answers told (inr (by, by', more)) = inr (
          by,
          ap (λ z. by_number spent z numbers) by' ∙ spent_at numbers ∙ ap (map (λ (g : Guard). spent)) (sym asked.of_probes),
          subst (λ (s : System). MaySpend limits.plain s page limits) system_of_asked more,
        )

-- What is known of answers whose runs begin alike.
use Rattle.std.proofs.Common.{◌≡◌, ◌⊎◌, ℕ, zero, suc, ◌<◌, ◌≤◌, List, [], ◌∷◌, ◌++◌, length, get_or, map, take, drop, All, Option, Some, None, IfSome, slice_get, refl, sym, ap, ◌∙◌, subst, inl, inr, arith, length-append, append-nil}
use Rattle.std.proofs.lemmas.List.{take-append-le, take_all}
use Rattle.std.proofs.Math.Seq.{take-append_seam}
use Rattle.tp_base.proofs.Lists.{slice_get-append_left, slice_get-push}
use Rattle.tree_sem.specs.Trees.{LabelTree, count_of}
use Rattle.tree_sem.specs.declared.actions.Step.{Step}
use Rattle.sel_core.specs.Selectors.{Matches}
use Rattle.sel_text.specs.Selectors.{Selector}
use Rattle.css_read.specs.Sheets as sheets
use Rattle.css_read.specs.Views.{item_of}
use Rattle.css_read.specs.declared.sheets.SheetItem.{SheetItem}
use Rattle.jq_sem.specs.Reachability.{AreLegal, end_of}
use Rattle.jq_stmts.specs.Statements.{Statement}
use Rattle.jq_sem.specs.WholeRuns.{IsRunOf, runs_of}
use Rattle.proof_check.specs.declared.unfolded.Unfolded.{Unfolded}
use Rattle.usage_report.specs.Answers as spec_answers
use Rattle.usage_report.specs.RunTraces as spec
use Rattle.usage_report.specs.declared.answers.Answer.{Answer}
use Rattle.usage_report.specs.declared.run_traces.RunTrace.{RunTrace}
use Rattle.usage_report.specs.Views.{answer_of, trace_of}
use Rattle.run_trace.specs.declared.traces.TheConstants.{MOST_RUN_NODES}
use Rattle.run_trace.specs.Known.{IsKnownAt, AreKnown, IsDone, IsStopped}
use Rattle.run_trace.specs.Replays.{CanRun, IsOverAt}
use Rattle.run_trace.specs.Shown.{IsShownIn, IsShownAt}
use Rattle.run_trace.specs.Traces.{shown_in, IsTracked, AreTracked, IsRunTrace, IsTraceOf}
use Rattle.run_trace.proofs.ReplayLemmas.{can_more, step_over}

-- what an item's answer shows, by its number
pub shown_there : (items : List SheetItem) (answers : List Answer) (n : ℕ) (i : SheetItem) (a : Answer) → n < length items → i ≡ get_or items n i → n < length answers → a ≡ get_or answers n a
    → (s : Selector) (steps : List Step) → IsShownIn (shown_in (item_of i).outcome (answer_of a)) s steps → IsShownAt (map item_of items) (map answer_of answers) n s steps
shown_there [] answers n i a within at within' at' s steps is = absurd (omega arith)
shown_there (j ∷ items) [] n i a within at within' at' s steps is = absurd (omega arith)
shown_there (j ∷ items) (b ∷ answers) zero i a within at within' at' s steps is = rw (at, at') at is
shown_there (j ∷ items) (b ∷ answers) (suc n) i a within at within' at' s steps is = shown_there items answers n i a (omega arith) at (omega arith) at' s steps is

there_shown : (items : List SheetItem) (answers : List Answer) (n : ℕ) (i : SheetItem) (a : Answer) → n < length items → i ≡ get_or items n i → n < length answers → a ≡ get_or answers n a
    → (s : Selector) (steps : List Step) → IsShownAt (map item_of items) (map answer_of answers) n s steps → IsShownIn (shown_in (item_of i).outcome (answer_of a)) s steps
there_shown [] answers n i a within at within' at' s steps is = absurd (omega arith)
there_shown (j ∷ items) [] n i a within at within' at' s steps is = absurd (omega arith)
there_shown (j ∷ items) (b ∷ answers) zero i a within at within' at' s steps is = rw (at, at') is
there_shown (j ∷ items) (b ∷ answers) (suc n) i a within at within' at' s steps is = there_shown items answers n i a (omega arith) at (omega arith) at' s steps is

pub if_some : {X : Type 0} (o : Option X) (P Q : X → Type 0) → ((x : X) → P x → Q x) → IfSome o P → IfSome o Q
if_some None P Q more is = tt
if_some (Some x) P Q more is = more x is

-- steps that are behind others
cut_runs : (i : ℕ) (steps : List Step) → runs_of steps ≡ runs_of (take i steps) ++ runs_of (drop i steps)
cut_runs zero steps = refl
cut_runs (suc i) [] = refl
cut_runs (suc i) (step ∷ steps) = ap (λ z. step.stmt ∷ z) (cut_runs i steps)

pub begins_alike : (steps : List Step) (runs : List ℕ) (i : ℕ) → length runs ≤ i → runs_of (take i steps) ≡ take i runs → runs_of steps ≡ runs ++ runs_of (drop i steps)
begins_alike steps runs i past same = cut_runs i steps ∙ ap (λ z. z ++ runs_of (drop i steps)) (same ∙ take_all i runs past)

pub number_below : (n : ℕ) (steps : List Step) (i : ℕ) (s : Step) → All (λ k. k < n) (runs_of steps) → i < length steps → s ≡ get_or steps i s → s.stmt < n
number_below n [] i s all within at = absurd (omega arith)
number_below n (t ∷ steps) zero s all within at = subst (λ (z : Step). z.stmt < n) (sym at) (all 0 0 (omega arith))
number_below n (t ∷ steps) (suc i) s all within at = number_below n steps i s (λ k d less. all (suc k) d (omega arith)) (omega arith) at

pub none_pushed : (xs : List (Option RunTrace)) → ((n : ℕ) → get_or xs n None ≡ None) → (n : ℕ) → get_or (xs ++ None ∷ []) n None ≡ None
none_pushed [] none zero = refl
none_pushed [] none (suc n) = refl
none_pushed (x ∷ xs) none zero = none 0
none_pushed (x ∷ xs) none (suc n) = none_pushed xs (λ m. none (suc m)) n

pub all_alike : (steps : List Step) (runs rest : List ℕ) → length steps ≤ length runs → runs_of steps ≡ runs ++ rest → runs_of steps ≡ runs
all_alike steps runs [] short is = is ∙ append-nil runs
all_alike steps runs (k ∷ rest) short is =
    let long : length (runs_of steps) ≡ length (runs ++ k ∷ rest) = ap length is in
    absurd (omega (arith, long, many steps, short, length-append runs (k ∷ rest)))
  where
    many : (steps : List Step) → length (runs_of steps) ≡ length steps
    many [] = refl
    many (step ∷ steps) = ap suc (many steps)

module _ (page : LabelTree) (stmts : List Statement) where
  module _ (items : List sheets.Item) (answers : List spec_answers.Answer) where
    pub none_yet : (traces : List (Option RunTrace)) → ((n : ℕ) → get_or traces n None ≡ None) → AreKnown page stmts items answers traces
    none_yet traces none n r is = let no : None ≡ Some r = sym (none n) ∙ is in cc

    -- one trace more
    pub noted : (old new : List (Option RunTrace)) (n : ℕ) (t : RunTrace) → AreKnown page stmts items answers old → IsKnownAt page stmts items answers n t
        → ((m : ℕ) (r : RunTrace) → get_or new m None ≡ Some r → ((m ≡ n) × (r ≡ t)) ⊎ (get_or old m None ≡ Some r)) → AreKnown page stmts items answers new
    noted old new n t known here either m r is = elim (either m r is) [
      | inl same ↦ subst (λ k. IsKnownAt page stmts items answers k r) (sym same.0) (subst (IsKnownAt page stmts items answers n) (sym same.1) here)
      | inr before ↦ known m r before
    ]

    -- what is left of them
    pub known_left : (old new : List (Option RunTrace)) → AreKnown page stmts items answers old → ((n : ℕ) (r : RunTrace) → get_or new n None ≡ Some r → get_or old n None ≡ Some r) → AreKnown page stmts items answers new
    known_left old new known left n r is = known n r (left n r is)

  -- the page, before any run
  pub root_done : (runs : List ℕ) (t : LabelTree) → runs ≡ [] → t ≡ page → IsDone page stmts runs t
  root_done runs t none is = subst (λ (z : List ℕ). IsDone page stmts z t) (sym none) is

  one_tracked : (o : Option (Selector × Unfolded)) (s : Selector) (steps : List Step) → IsTracked page stmts o → IsShownIn o s steps → AreLegal page stmts steps × (v : List ℕ) × Matches (end_of page stmts steps) v s
  one_tracked o s steps tracked shown =
      let is = subst (IsTracked page stmts) shown.1 tracked in
      subst (λ (z : List Step). AreLegal page stmts z × (v : List ℕ) × Matches (end_of page stmts z) v s) shown.2 (is.0, shown.0.at, is.1)

  -- steps that are shown are legal, and the selector matches at their end
  pub shown_tracked : (items : List sheets.Item) (answers : List spec_answers.Answer) (n : ℕ) (s : Selector) (steps : List Step) → AreTracked page stmts items answers → IsShownAt items answers n s steps
      → AreLegal page stmts steps × (v : List ℕ) × Matches (end_of page stmts steps) v s
  shown_tracked [] answers n s steps tracked shown = absurd shown
  shown_tracked (i ∷ items) [] n s steps tracked shown = absurd shown
  shown_tracked (i ∷ items) (a ∷ answers) zero s steps tracked shown = one_tracked (shown_in i.outcome a) s steps tracked.0 shown
  shown_tracked (i ∷ items) (a ∷ answers) (suc n) s steps tracked shown = shown_tracked items answers n s steps tracked.1 shown

  one_known : (o : Option (Selector × Unfolded)) (s : Selector) (steps : List Step) (r : spec.RunTrace) → IsShownIn o s steps → IsRunTrace page stmts s steps r → IsTraceOf page stmts o (Some r)
  one_known o s steps r shown is =
      subst (λ (z : Option (Selector × Unfolded)). IsTraceOf page stmts z (Some r)) (sym shown.1) (subst (λ (z : List Step). IsRunTrace page stmts s z r) (sym shown.2) is)

  -- what is known of an item is its trace
  pub known_trace : (items : List SheetItem) (answers : List Answer) (n : ℕ) (i : SheetItem) (a : Answer) → n < length items → i ≡ get_or items n i → n < length answers → a ≡ get_or answers n a
      → (r : RunTrace) → IsKnownAt page stmts (map item_of items) (map answer_of answers) n r → IsTraceOf page stmts (shown_in (item_of i).outcome (answer_of a)) (Some (trace_of r))
  known_trace items answers n i a within at within' at' r known =
      let (s, steps, shown, is) = known in
      one_known (shown_in (item_of i).outcome (answer_of a)) s steps (trace_of r) (there_shown items answers n i a within at within' at' s steps shown) is

  over_longer : (most : ℕ) (runs rest : List ℕ) (i : ℕ) → i < length runs → IsOverAt page stmts most runs i → IsOverAt page stmts most (runs ++ rest) i
  over_longer most runs rest i within over =
      let front : take i (runs ++ rest) ≡ take i runs = take-append-le i runs rest (omega (arith, within)) in
      let here : slice_get (runs ++ rest) i ≡ slice_get runs i = slice_get-append_left runs rest i within in
      record {
        before = over.before;
        after = over.after;
        can = rw front over.can;
        here = rw here over.here;
        many = over.many;
      }

  -- steps that begin with runs that stop
  pub stops : (s : Selector) (steps : List Step) (runs rest : List ℕ) (n : ℕ) → n ≡ length runs → runs_of steps ≡ runs ++ rest → IsStopped page stmts runs → IsRunTrace page stmts s steps (spec.stopped n)
  stops s steps runs rest n count same stopped =
      let (i, last, over) = stopped in
      (i, omega (arith, count, last), subst (λ (z : List ℕ). IsOverAt page stmts MOST_RUN_NODES z i) (sym same) (over_longer MOST_RUN_NODES runs rest i (omega (arith, last)) over))

  -- a run more
  pub done_more : (runs : List ℕ) (k : ℕ) (t new : LabelTree) → IsDone page stmts runs t → IsRunOf t stmts k new → count_of new ≤ MOST_RUN_NODES → IsDone page stmts (runs ++ k ∷ []) new
  done_more runs k t new done run fits =
      let front : take (length runs) (runs ++ k ∷ []) ≡ runs = take-append_seam runs (k ∷ []) in
      let more = can_more stmts MOST_RUN_NODES (runs ++ k ∷ []) (length runs) k page t new (slice_get-push runs k) (subst (λ (z : List ℕ). CanRun page stmts MOST_RUN_NODES z t) (sym front) done) run fits in
      let all : take (suc (length runs)) (runs ++ k ∷ []) ≡ runs ++ k ∷ [] = take_all (suc (length runs)) (runs ++ k ∷ []) (omega (arith, length-append runs (k ∷ []))) in
      subst (λ (z : List ℕ). CanRun page stmts MOST_RUN_NODES z new) all more

  pub stopped_more : (runs : List ℕ) (k : ℕ) (t u : LabelTree) → IsDone page stmts runs t → IsRunOf t stmts k u → MOST_RUN_NODES < count_of u → IsStopped page stmts (runs ++ k ∷ [])
  stopped_more runs k t u done run many =
      let front : take (length runs) (runs ++ k ∷ []) ≡ runs = take-append_seam runs (k ∷ []) in (
        length runs,
        omega (arith, length-append runs (k ∷ [])),
        step_over stmts MOST_RUN_NODES (runs ++ k ∷ []) (length runs) k page t u (slice_get-push runs k) (subst (λ (z : List ℕ). CanRun page stmts MOST_RUN_NODES z t) (sym front) done) run many,
      )

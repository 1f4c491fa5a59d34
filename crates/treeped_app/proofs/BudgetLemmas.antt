-- A status past a budget comes of an answer that is left open, and that of a budget that doesn't suffice, or of steps that may be illegal.
use Rattle.std.proofs.Common.{if◌then◌else◌, ◌≡◌, ◌⊎◌, ℕ, zero, suc, ◌+◌, ◌||◌, nat_lt, Bool, true, false, List, [], ◌∷◌, ◌++◌, length, map, take, drop, get_or, Contains, Some, slice_get, refl, sym, ap, ◌∙◌, inl, inr, subst, arith}
use Rattle.std.specs.List.{list_any}
use Rattle.std.proofs.lemmas.Bool.{true≢false, cases_Bool, or_cases}
use Rattle.std.proofs.lemmas.List.{map-append, length-map}
use Rattle.std.proofs.lemmas.List.Elements.{Contains-append_left, Contains-append_right}
use Rattle.tp_base.proofs.Rising.{Contains-here, Contains-behind, Contains-cons, Contains-none}
use Rattle.tp_base.proofs.Lists.{any_Contains, Contains-any}
use Rattle.tree_sem.specs.Trees.{LabelTree}
use Rattle.tree_sem.proofs.NodeLemmas.{Contains-map, map-Contains}
use Rattle.sel_text.specs.Selectors.{Selector}
use Rattle.sel_text.specs.declared.faults.Skip.{Skip}
use Rattle.css_read.specs.Sheets.{Outcome, judged, skipped as left_out, Item}
use Rattle.jq_stmts.specs.Sharp.{ExactStatement}
use Rattle.jq_stmts.specs.Statements.{Statement}
use Rattle.guard_sem.specs.Guards.{Guard}
use Rattle.usage_report.specs.Answers.{Answer, used, maybe, used_unshown, unused, skipped, spent}
use Rattle.limits.specs.declared.budgets.Limits.{Limits}
use Rattle.judge.specs.Answers.{judged_of, judged_in}
use Rattle.judge.specs.Goals.{Goal, matching, selecting}
use Rattle.command_words.specs.declared.words.Mode.{Mode}
use Rattle.command_words.specs.declared.words.Mode.TheVariants.{Report, Prune, Dead, Runs, Site, SitePrune}
use Rattle.command_words.specs.Orders.{takes_pages}
use Rattle.dead_script.specs.Probes.{probes, last_probe, all_probes}
use Rattle.dead_script.specs.Verdicts as dead
use Rattle.dead_script.proofs.ProbeLemmas.{probes_counted, last_probe_at}
use Rattle.site_judge.specs.Sites as sites
use Rattle.run_ends.specs.declared.status.Status.TheVariants as status
use Rattle.treeped_app.specs.Answers.{IsRightFor, AreRightFor, IsRightExactly, AreRightExactly, IsPastBudget}
use Rattle.treeped_app.specs.Modes.{Said, goals_in, last_goals_in, guards_in, AreAnswersOf, IsOverBudget, is_open, is_maybe, is_undecided, site_on, best_in, lines_in, lines_on, verdicts_in, status_by, status_of}
use Rattle.treeped_app.specs.Commands.{HasMaybe}
use Rattle.treeped_app.specs.Tasks.{Task}
use Rattle.treeped_app.proofs.ExactLemmas.{any_sharp, one_maybe}

budget_open : (a b : Bool) → status_by a b ≡ status.Budget → a ≡ true
budget_open true b is = refl
budget_open false true is = cc
budget_open false false is = cc

-- ---- what is left open of a goal is past a budget

module _ (t : LabelTree) (ss : List Statement) (guards : List Guard) (n : ℕ) (limits : Limits) (goals : List Goal) where
  abbrev IsPast : Type 0
  IsPast = IsPastBudget t ss guards n limits goals

  goal_open : (g : Goal) (a : Answer) → Contains goals g → IsRightFor t ss guards n limits g a → is_open a ≡ true → IsPast
  goal_open g (used proof steps shown) there right is = absurd (true≢false (sym is))
  goal_open g (maybe proof steps shown broken) there right is = absurd right
  goal_open g used_unshown there right is = inr (g, there, right)
  goal_open g unused there right is = absurd (true≢false (sym is))
  goal_open g (skipped cause at) there right is = absurd right
  goal_open g spent there right is = inl right

  -- the answer at a place is right for the goal there
  right_at : (gs : List Goal) (answers : List Answer) (i : ℕ) (g : Goal) → AreRightFor t ss guards n limits gs answers → slice_get gs i ≡ Some g → IsRightFor t ss guards n limits g (get_or answers i spent)
  right_at [] answers i g right at = cc
  right_at (h ∷ gs) [] i g right at = absurd right
  right_at (h ∷ gs) (a ∷ answers) zero g right at = let same : h ≡ g = cc in subst (λ (z : Goal). IsRightFor t ss guards n limits z a) same right.0
  right_at (h ∷ gs) (a ∷ answers) (suc i) g right at = right_at gs answers i g right.1 at

  right_behind : (front gs : List Goal) (answers : List Answer) → AreRightFor t ss guards n limits (front ++ gs) answers → AreRightFor t ss guards n limits gs (drop (length front) answers)
  right_behind [] gs answers right = right
  right_behind (g ∷ front) gs [] right = absurd right
  right_behind (g ∷ front) gs (a ∷ answers) right = right_behind front gs answers right.1

  -- a dead statement is not open, so that an open verdict is by its own answer
  never_open : (k : ℕ) (answers : List Answer) → dead.is_open (dead.dead_behind k answers) ≡ false
  never_open k [] = refl
  never_open k (a ∷ later) = here a (never_open (k + 1) later)
    where
      here : (a : Answer) → dead.is_open (dead.dead_behind (k + 1) later) ≡ false → dead.is_open (dead.dead_here k a (dead.dead_behind (k + 1) later)) ≡ false
      here (used proof steps shown) is = is
      here (maybe proof steps shown broken) is = is
      here used_unshown is = is
      here unused is = refl
      here (skipped cause at) is = is
      here spent is = is

  own_open : (a : Answer) (v : dead.Verdict) → dead.is_open v ≡ false → dead.is_open (dead.verdict_by a v) ≡ true → (is_open a ≡ true) ⊎ ((c : Skip) × (at : ℕ) × (a ≡ skipped c at))
  own_open (used proof steps shown) v none is = absurd (true≢false (sym is))
  own_open (maybe proof steps shown broken) v none is = inl refl
  own_open used_unshown v none is = inl refl
  own_open unused v none is = absurd (true≢false (sym is ∙ none))
  own_open (skipped cause at) v none is = inr (cause, at, refl)
  own_open spent v none is = inl refl

  verdicts_open : (stmts : List Statement) (answers : List Answer) → ((s : Statement) → Contains stmts s → Contains goals (selecting (last_probe s))) → AreRightFor t ss guards n limits (map selecting (all_probes stmts)) answers
      → list_any dead.is_open (dead.verdicts stmts answers) ≡ true → IsPast
  verdicts_open [] answers among right is = absurd (true≢false (sym is))
  verdicts_open (s ∷ stmts) answers among right is =
      let own = map selecting (probes s) in
      let others = map selecting (all_probes stmts) in
      let parts : map selecting (all_probes (s ∷ stmts)) ≡ own ++ others = map-append selecting (probes s) (all_probes stmts) in
      let many : length own ≡ length s.handlers + 1 = length-map {B = Goal} (probes s) selecting ∙ probes_counted s in
      let right' = subst (λ (z : List Goal). AreRightFor t ss guards n limits z answers) parts right in
      elim (or_cases (dead.is_open (dead.verdict_of (length s.handlers) answers)) (list_any dead.is_open (dead.verdicts stmts (drop (length s.handlers + 1) answers))) is) [
        | inl here ↦
            let own_right = right_at (own ++ others) answers (length s.handlers) (selecting (last_probe s)) right' (last_probe_at selecting s others) in
            elim (own_open (get_or answers (length s.handlers) spent) (dead.dead_behind 0 (take (length s.handlers) answers)) (never_open 0 (take (length s.handlers) answers)) here) [
              | inl open' ↦ goal_open (selecting (last_probe s)) (get_or answers (length s.handlers) spent) (among s (Contains-here s s stmts refl)) own_right open'
              | inr (c, p, same) ↦ absurd (subst (λ (z : Answer). IsRightFor t ss guards n limits (selecting (last_probe s)) z) same own_right)
            ]
        | inr behind ↦
            let left = right_behind own others answers right' in
            verdicts_open stmts (drop (length s.handlers + 1) answers) (λ x there. among x (Contains-behind x s stmts there))
            (subst (λ k. AreRightFor t ss guards n limits others (drop k answers)) many left) behind
      ]

-- ---- answers for items

module _ (t : LabelTree) (exact : List ExactStatement) (ss : List Statement) (guards : List Guard) (n : ℕ) (limits : Limits) where
  -- what is undecided is past a budget
  item_undecided : (goals : List Goal) (o : Outcome) (a : Answer) → ((s : Selector) → Contains (judged_of o) s → Contains goals (matching s)) → IsRightExactly t exact ss guards n limits o a → is_undecided a ≡ true
      → IsPastBudget t ss guards n limits goals
  item_undecided goals (judged s) (used proof steps shown) among right is = absurd (true≢false (sym is))
  item_undecided goals (judged s) (maybe proof steps shown broken) among right is = absurd (true≢false (sym is))
  item_undecided goals (judged s) used_unshown among right is = goal_open t ss guards n limits goals (matching s) used_unshown (among s (Contains-here s s [] refl)) right refl
  item_undecided goals (judged s) unused among right is = absurd (true≢false (sym is))
  item_undecided goals (judged s) (skipped cause at) among right is = absurd right
  item_undecided goals (judged s) spent among right is = goal_open t ss guards n limits goals (matching s) spent (among s (Contains-here s s [] refl)) right refl
  item_undecided goals (left_out cause at) a among right is = absurd (true≢false (sym is ∙ ap is_undecided right))

  items_undecided : (goals : List Goal) (items : List Item) (answers : List Answer) → ((s : Selector) → Contains (judged_in items) s → Contains goals (matching s)) → AreRightExactly t exact ss guards n limits items answers
      → (a : Answer) → Contains answers a → is_undecided a ≡ true → IsPastBudget t ss guards n limits goals
  items_undecided goals [] [] among right a there is = absurd (Contains-none a there)
  items_undecided goals [] (b ∷ answers) among right a there is = absurd right
  items_undecided goals (i ∷ items) [] among right a there is = absurd right
  items_undecided goals (i ∷ items) (b ∷ answers) among right a there is = elim ((Contains-cons a b answers).0 there) [
    | inl same ↦
        item_undecided goals i.outcome a (λ s mine. among s (Contains-append_left (judged_of i.outcome) (judged_in items) s mine))
        (subst (λ (z : Answer). IsRightExactly t exact ss guards n limits i.outcome z) (sym same) right.0) is
    | inr behind ↦ items_undecided goals items answers (λ s mine. among s (Contains-append_right (judged_of i.outcome) (judged_in items) s mine)) right.1 a behind is
  ]

  -- what may be used is of a script with a sharp call
  items_sharp : (items : List Item) (answers : List Answer) → AreRightExactly t exact ss guards n limits items answers → (a : Answer) → Contains answers a → is_maybe a ≡ true → any_sharp exact ≡ true
  items_sharp [] [] right a there is = absurd (Contains-none a there)
  items_sharp [] (b ∷ answers) right a there is = absurd right
  items_sharp (i ∷ items) [] right a there is = absurd right
  items_sharp (i ∷ items) (b ∷ answers) right a there is = elim ((Contains-cons a b answers).0 there) [
    | inl same ↦ one_maybe t exact ss guards n limits i.outcome a (subst (λ (z : Answer). IsRightExactly t exact ss guards n limits i.outcome z) (sym same) right.0) is
    | inr behind ↦ items_sharp items answers right.1 a behind is
  ]

-- ---- the best answers of a site are answers of its pages

module _ (P : Answer → Type 0) where
  better_has : (cs bs : List sites.Best) → ((c : sites.Best) → Contains cs c → P c.answer) → ((b : sites.Best) → Contains bs b → P b.answer) → (d : sites.Best) → Contains (sites.all_better cs bs) d → P d.answer
  better_has [] bs first second d there = absurd (Contains-none d there)
  better_has (c ∷ cs) [] first second d there = absurd (Contains-none d there)
  better_has (c ∷ cs) (b ∷ bs) first second d there = elim ((Contains-cons d (sites.better c b) (sites.all_better cs bs)).0 there) [
    | inl same ↦ subst (λ (z : sites.Best). P z.answer) (sym same) (elim (cases_Bool (nat_lt (sites.rank b.answer) (sites.rank c.answer))) [
      | inl less ↦ rw less (second b (Contains-here b b bs refl))
      | inr least ↦ rw least (first c (Contains-here c c cs refl))
    ])
    | inr behind ↦ better_has cs bs (λ x mine. first x (Contains-behind x c cs mine)) (λ x mine. second x (Contains-behind x b bs mine)) d behind
  ]

  on_has : (k : ℕ) (answers : List Answer) → ((a : Answer) → Contains answers a → P a) → (b : sites.Best) → Contains (sites.items_on k answers) b → P b.answer
  on_has k answers all b there =
      let of = map-Contains (λ (a : Answer). let z : sites.Best = record { page = k; answer = a } in z) answers b there in
      subst (λ (z : sites.Best). P z.answer) (sym of.2) (all of.0 of.1)

  pages_have : (s : sites.Site) (lists : List (List Answer)) → ((b : sites.Best) → Contains s.items b → P b.answer) → ((answers : List Answer) → Contains lists answers → (a : Answer) → Contains answers a → P a)
      → (b : sites.Best) → Contains (sites.with_pages s lists).items b → P b.answer
  pages_have s [] first others b there = first b there
  pages_have s (answers ∷ lists) first others b there =
      pages_have (sites.with_page s answers) lists
      (better_has s.items (sites.items_on (s.pages + 1) answers) first (on_has (s.pages + 1) answers (others answers (Contains-here answers answers lists refl))))
      (λ x mine. others x (Contains-behind x answers lists mine)) b there

  site_has : (lists : List (List Answer)) → ((answers : List Answer) → Contains lists answers → (a : Answer) → Contains answers a → P a) → (b : sites.Best) → Contains (sites.site_of lists).items b → P b.answer
  site_has [] all b there = absurd (Contains-none b there)
  site_has (answers ∷ lists) all b there =
      pages_have (sites.first_page answers) lists (on_has 1 answers (all answers (Contains-here answers answers lists refl))) (λ x mine. all x (Contains-behind x answers lists mine)) b there

abbrev pub FromPage : List Said → Answer → Type 0
FromPage said a = (x : Said) × Contains said x × Contains x.items a

best_from : (said : List Said) (a : Answer) → Contains (best_in said) a → FromPage said a
best_from said a there =
    let of = map-Contains (λ (b : sites.Best). b.answer) (site_on said).items a there in
    subst (FromPage said) (sym of.2) (site_has (FromPage said) (map (λ (s : Said). s.items) said) (λ answers mine b in_them.
    let page = map-Contains (λ (s : Said). s.items) said answers mine in
    (page.0, page.1, subst (λ (z : List Answer). Contains z b) page.2 in_them)) of.0 of.1)

first_from : (said : List Said) (a : Answer) → Contains (lines_on said) a → FromPage said a
first_from [] a there = absurd (Contains-none a there)
first_from (s ∷ said) a there = (s, Contains-here s s said refl, there)

line_from : (m : Mode) (said : List Said) (a : Answer) → Contains (lines_in m said) a → FromPage said a
line_from m said a there = go (takes_pages m) there
  where
    go : (b : Bool) → Contains (if b then best_in said else lines_on said) a → FromPage said a
    go true in_best = best_from said a in_best
    go false in_first = first_from said a in_first

-- ---- the status

abbrev pub OverOn : Task → List Said → Type 0
OverOn t said = (x : Said) × Contains said x × IsOverBudget t.mode t.limits x.inputs

open_is : (a : Answer) → is_open a ≡ true → (is_maybe a ≡ true) ⊎ (is_undecided a ≡ true)
open_is (used proof steps shown) is = absurd (true≢false (sym is))
open_is (maybe proof steps shown broken) is = inl refl
open_is used_unshown is = inr refl
open_is unused is = absurd (true≢false (sym is))
open_is (skipped cause at) is = absurd (true≢false (sym is))
open_is spent is = inr refl

module _ (t : Task) (said : List Said) (all : (x : Said) → Contains said x → AreAnswersOf t.mode t.limits x.inputs x.items x.others) where
  over_by_line : (a : Answer) → FromPage said a → is_undecided a ≡ true → OverOn t said
  over_by_line a (x, there, mine) is =
      let i = x.inputs in (
        x,
        there,
        items_undecided i.tree i.exact i.stmts (guards_in t.mode i) (length i.names) t.limits (map matching (judged_in i.sheet.items) ++ last_goals_in t.mode i) i.sheet.items x.items
            (λ s listed. Contains-append_left (map matching (judged_in i.sheet.items)) (last_goals_in t.mode i) (matching s) (Contains-map matching (judged_in i.sheet.items) s listed)) (all x there).right a mine is,
      )

  over_by_verdict : (m : Mode) → t.mode ≡ m → (ps : List Said) → ((x : Said) → Contains ps x → Contains said x) → list_any dead.is_open (verdicts_in m ps) ≡ true → OverOn t said
  over_by_verdict Dead same [] among is = absurd (true≢false (sym is))
  over_by_verdict Dead same (x ∷ ps) among is =
      let i = x.inputs in
      let there = among x (Contains-here x x ps refl) in
      let right = subst (λ m. AreRightFor i.tree i.stmts (guards_in t.mode i) (length i.names) t.limits (goals_in m i) x.others) same (all x there).are.others_right in
      let asked : (s : Statement) → Contains i.stmts s → Contains (last_goals_in t.mode i) (selecting (last_probe s)) =
      λ s listed. subst (λ m. Contains (last_goals_in m i) (selecting (last_probe s))) (sym same) (Contains-map selecting (map last_probe i.stmts) (last_probe s) (Contains-map last_probe i.stmts s listed)) in
      let past = verdicts_open i.tree i.stmts (guards_in t.mode i) (length i.names) t.limits (map matching (judged_in i.sheet.items) ++ last_goals_in t.mode i) i.stmts x.others
      (λ s listed. Contains-append_right (map matching (judged_in i.sheet.items)) (last_goals_in t.mode i) (selecting (last_probe s)) (asked s listed)) right is in
      (x, there, past)
  over_by_verdict Report same ps among is = absurd (true≢false (sym is))
  over_by_verdict Prune same ps among is = absurd (true≢false (sym is))
  over_by_verdict Runs same ps among is = absurd (true≢false (sym is))
  over_by_verdict Site same ps among is = absurd (true≢false (sym is))
  over_by_verdict SitePrune same ps among is = absurd (true≢false (sym is))

  -- by a line that may be used, or a budget
  pub left_open : status_of t said ≡ status.Budget → HasMaybe t said ⊎ OverOn t said
  left_open is =
      let open' = budget_open (list_any is_open (lines_in t.mode said) || list_any dead.is_open (verdicts_in t.mode said)) _ is in
      elim (or_cases (list_any is_open (lines_in t.mode said)) (list_any dead.is_open (verdicts_in t.mode said)) open') [
        | inl line ↦
            let a = any_Contains is_open (lines_in t.mode said) line in
            elim (open_is a.0 a.2) [ inl maybe' ↦ inl (Contains-any is_maybe (lines_in t.mode said) a.0 a.1 maybe') | inr undecided ↦ inr (over_by_line a.0 (line_from t.mode said a.0 a.1) undecided) ]
        | inr verdict ↦ inr (over_by_verdict t.mode refl said (λ x there. there) verdict)
      ]

  -- within all budgets each line is decided
  pub all_decided : ¬ OverOn t said → list_any is_undecided (lines_in t.mode said) ≡ false
  all_decided never = elim (cases_Bool (list_any is_undecided (lines_in t.mode said))) [
    | inl some ↦ let a = any_Contains is_undecided (lines_in t.mode said) some in absurd (never (over_by_line a.0 (line_from t.mode said a.0 a.1) a.2))
    | inr none ↦ none
  ]

  pub doubt_sharp : HasMaybe t said → (x : Said) × Contains said x × (any_sharp x.inputs.exact ≡ true)
  doubt_sharp has =
      let a = any_Contains is_maybe (lines_in t.mode said) has in
      let from = line_from t.mode said a.0 a.1 in
      let i = from.0.inputs in
      (from.0, from.1, items_sharp i.tree i.exact i.stmts (guards_in t.mode i) (length i.names) t.limits i.sheet.items from.0.items (all from.0 from.1).right a.0 from.2 a.2)

-- What the best answers of a site say of each page.
use Rattle.std.proofs.Common.{◌≡◌, ℕ, zero, suc, ◌<◌, ◌≤◌, List, [], ◌∷◌, length, Contains, Some, slice_get, refl, sym, ap, ◌∙◌, subst, inl, inr, arith}
use Rattle.std.proofs.lemmas.Option.{slice_get_within}
use Rattle.css_prune.proofs.AlikeLemmas.{alike_length}
use Rattle.tp_base.proofs.Rising.{Contains-cons, Contains-none, Contains-here, Contains-behind}
use Rattle.tp_base.proofs.Lists.{element_at}
use Rattle.tree_sem.specs.Trees.{LabelTree}
use Rattle.sel_text.specs.Selectors.{Selector}
use Rattle.sel_text.specs.declared.faults.Skip.{Skip}
use Rattle.css_read.specs.Sheets.{Outcome, judged, skipped as left_out, Item}
use Rattle.jq_sem.specs.Events.{ReachesWithLosses}
use Rattle.jq_stmts.specs.Sharp.{ExactStatement}
use Rattle.jq_stmts.specs.Statements.{Statement}
use Rattle.guard_sem.specs.Guards.{Guard}
use Rattle.limits.specs.declared.budgets.Limits.{Limits}
use Rattle.usage_report.specs.Answers.{Answer, used, maybe, used_unshown, unused, skipped, spent}
use Rattle.site_judge.specs.Sites.{rank, Best, IsBest, IsSite}
use Rattle.site_judge.proofs.SiteLemmas.{all_pages_site}
use Rattle.treeped_app.specs.Answers.{IsRightExactly, AreRightExactly}
use Rattle.treeped_app.specs.Laws.{IsNeverReached, IsOfEachPage}
use Rattle.treeped_app.specs.Modes.{Said, guards_in, site_on}
use Rattle.treeped_app.specs.Runs.{Told, Run, IsSaid, AreSaid, IsWhole}
use Rattle.treeped_app.specs.Tasks.{Visit, Task, visits}
use Rattle.css_read.specs.Shapes.{IsAlikeOutcome, IsAlike, AreAlike}
use Rattle.treeped_app.proofs.SheetLemmas.{one_sheet_read}
use Rattle.treeped_app.proofs.SiteLemmas.{items_in}

-- ---- at a place of a list

pub place_of : (said : List Said) (s : Said) → Contains said s → (p : ℕ) × (slice_get (items_in said) p ≡ Some s.items)
place_of [] s there = absurd (Contains-none s there)
place_of (x ∷ said) s there = elim ((Contains-cons s x said).0 there) [
  | inl same ↦ (0, ap (λ (z : Said). Some z.items) (sym same))
  | inr behind ↦ let rest = place_of said s behind in (suc rest.0, rest.1)
]

page_at : (said : List Said) (p : ℕ) (answers : List Answer) → slice_get (items_in said) p ≡ Some answers → (s : Said) × Contains said s × (s.items ≡ answers)
page_at [] p answers at = cc
page_at (x ∷ said) zero answers at = (x, Contains-here x x said refl, cc)
page_at (x ∷ said) (suc p) answers at = let rest = page_at said p answers at in (rest.0, Contains-behind rest.0 x said rest.1, rest.2)

alike_at : (items others : List Item) (k : ℕ) (x y : Item) → AreAlike items others → slice_get items k ≡ Some x → slice_get others k ≡ Some y → IsAlike x y
alike_at [] [] k x y are at at' = cc
alike_at [] (j ∷ others) k x y are at at' = absurd are
alike_at (i ∷ items) [] k x y are at at' = absurd are
alike_at (i ∷ items) (j ∷ others) zero x y are at at' =
    let one : i ≡ x = cc in
    let two : j ≡ y = cc in
    subst (λ (z : Item). IsAlike z y) one (subst (λ (z : Item). IsAlike i z) two are.0)
alike_at (i ∷ items) (j ∷ others) (suc k) x y are at at' = alike_at items others k x y are.1 at at'

module _ (t : LabelTree) (exact : List ExactStatement) (stmts : List Statement) (guards : List Guard) (n : ℕ) (limits : Limits) where
  pub right_many : (items : List Item) (answers : List Answer) → AreRightExactly t exact stmts guards n limits items answers → length answers ≡ length items
  right_many [] [] are = refl
  right_many [] (a ∷ answers) are = absurd are
  right_many (i ∷ items) [] are = absurd are
  right_many (i ∷ items) (a ∷ answers) are = ap suc (right_many items answers are.1)

  pub right_at : (items : List Item) (answers : List Answer) (k : ℕ) (a : Answer) → AreRightExactly t exact stmts guards n limits items answers → slice_get answers k ≡ Some a
      → (i : Item) × (slice_get items k ≡ Some i) × IsRightExactly t exact stmts guards n limits i.outcome a
  right_at [] [] k a are at = cc
  right_at [] (b ∷ answers) k a are at = absurd are
  right_at (i ∷ items) [] k a are at = absurd are
  right_at (i ∷ items) (b ∷ answers) zero a are at = let same : b ≡ a = cc in (i, refl, subst (IsRightExactly t exact stmts guards n limits i.outcome) same are.0)
  right_at (i ∷ items) (b ∷ answers) (suc k) a are at = right_at items answers k a are.1 at

  -- what is unused is a selector, and isn't reached
  pub never_met : (o : Outcome) → IsRightExactly t exact stmts guards n limits o unused → (u : Selector) × (o ≡ judged u) × (¬ ReachesWithLosses t stmts u)
  never_met (judged u) is = (u, refl, is.0)
  never_met (left_out cause at) is = cc

  -- what is skipped isn't judged
  left : (o : Outcome) (cause : Skip) (at : ℕ) → IsRightExactly t exact stmts guards n limits o (skipped cause at) → (u : Selector) → IsAlikeOutcome o (judged u) → ⊥
  left (judged s) cause at is u alike = is
  left (left_out c a) cause at is u alike = alike

-- ---- the pages of a run

said_at : (told : Told) (t : Task) (vs : List Visit) (said : List Said) → AreSaid told t vs said → (s : Said) → Contains said s → (v : Visit) × IsSaid told t v s
said_at told t [] [] all s there = absurd (Contains-none s there)
said_at told t [] (x ∷ said) all s there = absurd all
said_at told t (v ∷ vs) [] all s there = absurd all
said_at told t (v ∷ vs) (x ∷ said) all s there = elim ((Contains-cons s x said).0 there) [
  | inl same ↦ (v, subst (λ (z : Said). IsSaid told t v z) (sym same) all.0)
  | inr behind ↦ said_at told t vs said all.1 s behind
]

module _ (r : Run) (t : Task) (said : List Said) (whole : IsWhole r t said) where
  pub of_page : (s : Said) → Contains said s → (v : Visit) × IsSaid r.told t v s
  of_page s there = said_at r.told t (visits t.source) said whole.all s there

  abbrev RightOn : Said → Type 0
  RightOn s = AreRightExactly s.inputs.tree s.inputs.exact s.inputs.stmts (guards_in t.mode s.inputs) (length s.inputs.names) t.limits s.inputs.sheet.items s.items

  pub right_on : (s : Said) → Contains said s → RightOn s
  right_on s there = (of_page s there).1.answers.right

  alike : (a b : Said) → Contains said a → Contains said b → AreAlike a.inputs.sheet.items b.inputs.sheet.items
  alike a b there there' =
      let x = of_page a there in
      let y = of_page b there' in
      (one_sheet_read t.mode t.mode x.0.number y.0.number a.texts b.texts a.inputs b.inputs (whole.one_sheet a b there there') x.1.read y.1.read).items

  many : (a b : Said) → Contains said a → Contains said b → length a.items ≡ length b.items
  many a b there there' =
      right_many a.inputs.tree a.inputs.exact a.inputs.stmts (guards_in t.mode a.inputs) (length a.inputs.names) t.limits a.inputs.sheet.items a.items (right_on a there)
      ∙ alike_length a.inputs.sheet.items b.inputs.sheet.items (alike a b there there')
      ∙ sym (right_many b.inputs.tree b.inputs.exact b.inputs.stmts (guards_in t.mode b.inputs) (length b.inputs.names) t.limits b.inputs.sheet.items b.items (right_on b there'))

  first_many : (all : List Said) → ((s : Said) → Contains all s → Contains said s) → IsSite (items_in all) (site_on all)
  first_many [] are = all_pages_site 0 [] (λ answers there. absurd (Contains-none answers there))
  first_many (x ∷ all) are = all_pages_site (length x.items) (items_in (x ∷ all)) (λ answers there. listed (x ∷ all) are answers there)
    where
      listed : (ys : List Said) → ((s : Said) → Contains ys s → Contains said s) → (answers : List Answer) → Contains (items_in ys) answers → length answers ≡ length x.items
      listed [] all' answers there = absurd (Contains-none answers there)
      listed (y ∷ ys) all' answers there = elim ((Contains-cons answers y.items (items_in ys)).0 there) [
        | inl same ↦ ap length same ∙ many y x (all' y (Contains-here y y ys refl)) (are x (Contains-here x x all refl))
        | inr behind ↦ listed ys (λ s at. all' s (Contains-behind s y ys at)) answers behind
      ]

  pub site : IsSite (items_in said) (site_on said)
  site = first_many said (λ s there. there)

  module _ (k : ℕ) (b : Best) (at : slice_get (site_on said).items k ≡ Some b) where
    best : IsBest (items_in said) k b
    best = site.items k b at

    -- the page that gives the best answer
    giver : (s : Said) × Contains said s × (s.items ≡ best.there.0)
    giver = page_at said best.place best.there.0 best.there.1

    giver_says : slice_get giver.0.items k ≡ Some b.answer
    giver_says = ap (λ (z : List Answer). slice_get z k) giver.2 ∙ best.there.2

    -- each page has an answer
    answer_on : (s : Said) → Contains said s → (a : Answer) × (slice_get s.items k ≡ Some a) × (rank b.answer ≤ rank a)
    answer_on s there =
        let place = place_of said s there in
        let within : k < length s.items = omega (arith, slice_get_within (site_on said).items k b at, site.one_length place.0 s.items place.1) in
        let a = element_at s.items k within in
        (a.0, a.1, best.best place.0 a.0 (s.items, place.1, a.1))

    unused_there : (s : Said) → Contains said s → b.answer ≡ unused → (a : Answer) → slice_get s.items k ≡ Some a → 4 ≤ rank a → a ≡ unused
    unused_there s there is (used proof steps shown) says more = absurd (omega (arith, more))
    unused_there s there is (maybe proof steps shown broken) says more = absurd (omega (arith, more))
    unused_there s there is used_unshown says more = absurd (omega (arith, more))
    unused_there s there is spent says more = absurd (omega (arith, more))
    unused_there s there is unused says more = refl
    unused_there s there is (skipped cause at') says more =
        let i = s.inputs in
        let j = giver.0.inputs in
        let here = right_at i.tree i.exact i.stmts (guards_in t.mode i) (length i.names) t.limits i.sheet.items s.items k (skipped cause at') (right_on s there) says in
        let first = right_at j.tree j.exact j.stmts (guards_in t.mode j) (length j.names) t.limits j.sheet.items giver.0.items k unused (right_on giver.0 giver.1) (giver_says ∙ ap Some is) in
        let never = never_met j.tree j.exact j.stmts (guards_in t.mode j) (length j.names) t.limits first.0.outcome first.2 in
        let both = alike_at i.sheet.items j.sheet.items k here.0 first.0 (alike s giver.0 there giver.1) here.1 first.1 in
        absurd
        (left i.tree i.exact i.stmts (guards_in t.mode i) (length i.names) t.limits here.0.outcome cause at' here.2 never.0
        (subst (λ (o : Outcome). IsAlikeOutcome here.0.outcome o) never.1 both.outcome))

    everywhere : b.answer ≡ unused → (s : Said) → Contains said s → slice_get s.items k ≡ Some unused
    everywhere is s there =
        let a = answer_on s there in
        let more : 4 ≤ rank a.0 = omega (arith, a.2, ap rank is) in
        a.1 ∙ ap Some (unused_there s there is a.0 a.1 more)

    never_reached : b.answer ≡ unused → (s : Said) → Contains said s → IsNeverReached s k
    never_reached is s there =
        let i = s.inputs in
        let here = right_at i.tree i.exact i.stmts (guards_in t.mode i) (length i.names) t.limits i.sheet.items s.items k unused (right_on s there) (everywhere is s there) in
        let never = never_met i.tree i.exact i.stmts (guards_in t.mode i) (length i.names) t.limits here.0.outcome here.2 in
        (here.0, never.0, here.1, never.1, never.2)

    pub of_each_page : IsOfEachPage said k b
    of_each_page = record {
      unused_on_each = (everywhere, λ all. let says : Some b.answer ≡ Some unused = sym giver_says ∙ all giver.0 giver.1 in cc);
      never_reached = never_reached;
    }

-- A site, page by page.
use Rattle.std.proofs.Common.{◌≡◌, ℕ, zero, suc, ◌+◌, ◌-◌, ◌<◌, ◌≤◌, ◌||◌, Bool, true, false, nat_lt, if◌then◌else◌, List, [], ◌∷◌, ◌++◌, length, get_or, map, Contains, Option, Some, Result, Ok, Err, refl, sym, ap, ◌∙◌, subst, inl, inr, append_assoc, append-nil, length-append, arith}
use Rattle.std.proofs.lemmas.List.{length-map, map-append}
use Rattle.tp_base.specs.declared.places.Place.{Place}
use Rattle.tp_base.proofs.Rising.{Contains-cons, Contains-none}
use Rattle.tp_base.proofs.Truths.{or_false}
use Rattle.std.specs.List.{list_any}
use Rattle.std.proofs.lemmas.Bool.{true≢false}
use Rattle.css_prune.proofs.AlikeLemmas.{alike_length}
use Rattle.tp_io.specs.Files.{Load}
use Rattle.tp_io.specs.Sinks.{Adds, AddsPrefix}
use Rattle.tp_base.specs.declared.places.TheConstants.{MOST_BYTES}
use Rattle.css_read.specs.Sheets.{Outcome, judged, skipped as left_out, Item}
use Rattle.limits.specs.declared.budgets.Limits.{Limits}
use Rattle.css_read.specs.Pruned.{pruned}
use Rattle.command_words.specs.declared.words.Mode.{Mode}
use Rattle.command_words.specs.declared.words.Mode.TheVariants.{Report, Prune, Dead, Runs, Site, SitePrune}
use Rattle.command_words.specs.Orders.{takes_pages}
use Rattle.usage_report.specs.Answers.{Answer, used, maybe, used_unshown, unused, skipped, spent}
use Rattle.usage_report.specs.Reportable as page
use Rattle.dead_script.specs.Verdicts as dead
use Rattle.site_judge.specs.Sites as sites
use Rattle.site_judge.specs.SiteReport.{site_report, places_on, IsBestReportable, AreReportable}
use Rattle.run_ends.specs.declared.refusals.Part.TheVariants.{Sheet}
use Rattle.treeped_app.specs.declared.sites.Seen.{Seen}
use Rattle.run_ends.specs.declared.status.Status.{Status}
use Rattle.run_ends.specs.declared.stops.Stop.{Stop}
use Rattle.treeped_app.specs.Modes.{Texts, Inputs, Said, AreAnswersOf, guards_in, places_of, text_of, status_of, text_on, of_last, site_by, site_on, best_in, lines_on, verdicts_in, is_open, is_unused, status_by}
use Rattle.treeped_app.specs.Tasks.{Source, several, Wanted, Visit, named, visits, visits_from, wanted_as, loads_of, all_loads, Task, task_by, command}
use Rattle.run_ends.specs.Tells.{Put}
use Rattle.treeped_app.specs.Runs.{Told, Holds, run_of, Ends, AreTexts, IsSaid, AreSaid, IsWhole, IsSheetOf, read_inputs}
use Rattle.treeped_app.specs.Inputs.{AllLoaded, IsSaidOf}
use Rattle.treeped_app.specs.Sites.{IsBegun, HasFirst, HasNext, IsKept, PageAdded, MorePages, Finished, all_places, page_wanted, best_answers, text_of_site, site_status}
use Rattle.treeped_app.specs.Views.{inputs_of}
use Rattle.treeped_app.proofs.PruneLemmas.{items_many}
use Rattle.treeped_app.proofs.ExactLemmas.{all_reportable}
use Rattle.treeped_app.proofs.RunLemmas.{all_joined, load_stops, say_stops, not_whole}
use Rattle.css_read.specs.Shapes.{IsAlikeOutcome, AreAlike}
use Rattle.treeped_app.proofs.SheetLemmas.{one_sheet_read, sheet_read}

-- ---- what can be reported on one of two alike sheets can be on the other

outcome_back : (places : List Place) (o u : Outcome) (a : Answer) → IsAlikeOutcome o u → page.IsReportable places u a → page.IsReportable places o a
outcome_back places (judged s) (judged u) (used proof steps shown) alike is = is
outcome_back places (judged s) (judged u) (maybe proof steps shown broken) alike is = is
outcome_back places (judged s) (judged u) used_unshown alike is = is
outcome_back places (judged s) (judged u) unused alike is = is
outcome_back places (judged s) (judged u) spent alike is = is
outcome_back places (judged s) (judged u) (skipped cause at) alike is = absurd cc
outcome_back places (judged s) (left_out d b) a alike is = absurd alike
outcome_back places (left_out c b) (judged u) a alike is = absurd alike
outcome_back places (left_out c b) (left_out d e) (used proof steps shown) alike is = absurd is.0
outcome_back places (left_out c b) (left_out d e) (maybe proof steps shown broken) alike is = absurd is.0
outcome_back places (left_out c b) (left_out d e) used_unshown alike is = absurd is
outcome_back places (left_out c b) (left_out d e) unused alike is = absurd is
outcome_back places (left_out c b) (left_out d e) spent alike is = absurd is
outcome_back places (left_out c b) (left_out d e) (skipped cause at) alike is = rw (alike.0, alike.1) is

alike_turned : (o u : Outcome) → IsAlikeOutcome o u → IsAlikeOutcome u o
alike_turned (judged s) (judged u) is = tt
alike_turned (judged s) (left_out d b) is = absurd is
alike_turned (left_out c a) (judged u) is = absurd is
alike_turned (left_out c a) (left_out d b) is = (sym is.0, sym is.1)

page_back : (places : List Place) (items others : List Item) (answers : List Answer) → AreAlike items others → page.AreReportable places others answers → page.AreReportable places items answers
page_back places [] [] answers alike is = is
page_back places [] (j ∷ others) answers alike is = absurd alike
page_back places (i ∷ items) [] answers alike is = absurd alike
page_back places (i ∷ items) (j ∷ others) [] alike is = absurd is
page_back places (i ∷ items) (j ∷ others) (a ∷ answers) alike is = (outcome_back places i.outcome j.outcome a alike.0.outcome is.0, page_back places items others answers alike.1 is.1)

site_forth : (places : List (List Place)) (items others : List Item) (bests : List sites.Best) → AreAlike items others → AreReportable places items bests → AreReportable places others bests
site_forth places [] [] bests alike is = is
site_forth places [] (j ∷ others) bests alike is = absurd alike
site_forth places (i ∷ items) [] bests alike is = absurd alike
site_forth places (i ∷ items) (j ∷ others) [] alike is = absurd is
site_forth places (i ∷ items) (j ∷ others) (b ∷ bests) alike is = (
  (is.0.0, is.0.1, outcome_back (places_on places b.page) j.outcome i.outcome b.answer (alike_turned i.outcome j.outcome alike.0.outcome) is.0.2),
  site_forth places items others bests alike.1 is.1,
)

-- ---- one page more

get_front : (places : List (List Place)) (new : List Place) (n : ℕ) → n < length places → get_or (places ++ new ∷ []) n [] ≡ get_or places n []
get_front [] new n less = absurd (omega (arith, less))
get_front (p ∷ places) new zero less = refl
get_front (p ∷ places) new (suc n) less = get_front places new n (omega (arith, less))

get_last : (places : List (List Place)) (new : List Place) → get_or (places ++ new ∷ []) (length places) [] ≡ new
get_last [] new = refl
get_last (p ∷ places) new = get_last places new

module _ (places : List (List Place)) (new : List Place) where
  old_kept : (o : Outcome) (b : sites.Best) → IsBestReportable places o b → IsBestReportable (places ++ new ∷ []) o b
  old_kept o b is = (
    is.0,
    (let less = is.1 in let many = length-append places (new ∷ []) in omega (arith, less, many)),
    subst (λ ps. page.IsReportable ps o b.answer) (sym (get_front places new (b.page - 1) is.1)) is.2,
  )

  new_there : (o : Outcome) (a : Answer) (k : ℕ) → k ≡ length places + 1 → page.IsReportable new o a → IsBestReportable (places ++ new ∷ []) o (record { page = k; answer = a })
  new_there o a k is rep = (
    omega (arith, is),
    (let many = length-append places (new ∷ []) in omega (arith, is, many)),
    subst (λ n. page.IsReportable (get_or (places ++ new ∷ []) n []) o a) (let at : length places ≡ k - 1 = omega (arith, is) in at) (subst (λ ps. page.IsReportable ps o a) (sym (get_last places new)) rep),
  )

  one_better : (o : Outcome) (b c : sites.Best) → IsBestReportable (places ++ new ∷ []) o b → IsBestReportable (places ++ new ∷ []) o c → IsBestReportable (places ++ new ∷ []) o (sites.better b c)
  one_better o b c is is' = go (nat_lt (sites.rank c.answer) (sites.rank b.answer))
    where
      go : (t : Bool) → IsBestReportable (places ++ new ∷ []) o (if t then c else b)
      go true = is'
      go false = is

  page_added : (items : List Item) (bests : List sites.Best) (answers : List Answer) (k : ℕ) → k ≡ length places + 1 → AreReportable places items bests → page.AreReportable new items answers
      → AreReportable (places ++ new ∷ []) items (sites.all_better bests (sites.items_on k answers))
  page_added [] [] [] k is rep rep' = tt
  page_added [] [] (a ∷ answers) k is rep rep' = absurd rep'
  page_added [] (b ∷ bests) answers k is rep rep' = absurd rep
  page_added (i ∷ items) [] answers k is rep rep' = absurd rep
  page_added (i ∷ items) (b ∷ bests) [] k is rep rep' = absurd rep'
  page_added (i ∷ items) (b ∷ bests) (a ∷ answers) k is rep rep' = (
    one_better i.outcome b (record { page = k; answer = a }) (old_kept i.outcome b rep.0) (new_there i.outcome a k is rep'.0),
    page_added items bests answers k is rep.1 rep'.1,
  )

first_added : (places : List Place) (items : List Item) (answers : List Answer) → page.AreReportable places items answers → AreReportable (places ∷ []) items (sites.items_on 1 answers)
first_added places [] [] rep = tt
first_added places [] (a ∷ answers) rep = absurd rep
first_added places (i ∷ items) [] rep = absurd rep
first_added places (i ∷ items) (a ∷ answers) rep = ((omega arith, omega arith, rep.0), first_added places items answers rep.1)

better_many : (bs cs : List sites.Best) → length bs ≡ length cs → length (sites.all_better bs cs) ≡ length bs
better_many [] [] e = refl
better_many [] (c ∷ cs) e = refl
better_many (b ∷ bs) [] e = absurd (omega (arith, e))
better_many (b ∷ bs) (c ∷ cs) e = ap suc (better_many bs cs (omega (arith, e)))

-- what is said of a page can be reported
rep_of : (mode : Mode) (limits : Limits) (s : Said) → AreAnswersOf mode limits s.inputs s.items s.others → page.AreReportable (places_of s.inputs) s.inputs.sheet.items s.items
rep_of mode limits s are = all_reportable s.inputs.tree s.inputs.exact s.inputs.stmts (guards_in mode s.inputs) (length s.inputs.names) limits s.inputs.sheet.items s.items are.right

-- the sheet that was read last
pub kept_read : (sheet : List ℕ) (seen : Seen) → IsKept sheet seen → IsSheetOf sheet (inputs_of seen.last).sheet
kept_read sheet seen is = subst (λ (z : List ℕ). IsSheetOf z (inputs_of seen.last).sheet) is.same (sheet_read is.mode is.page is.texts (inputs_of seen.last) is.read)

-- a page that is read of the same sheet can be added
pub can_add : (sheet : List ℕ) (seen : Seen) (mode : Mode) (limits : Limits) (k : Option ℕ) (s : Said) → IsKept sheet seen → s.texts.sheet ≡ sheet → IsSaidOf mode limits k s → length s.items ≡ length seen.site.items
can_add sheet seen mode limits k s can same is =
    let alike = one_sheet_read can.mode mode can.page k can.texts s.texts (inputs_of seen.last) s.inputs (can.same ∙ sym same) can.read is.read in
    items_many (places_of s.inputs) s.inputs.sheet.items s.items (rep_of mode limits s is.answers) ∙ sym (alike_length (inputs_of seen.last).sheet.items s.inputs.sheet.items alike.items) ∙ sym can.many

-- and then another one
pub added_can : (sheet : List ℕ) (old new : Seen) (mode : Mode) (limits : Limits) (k : ℕ) (s : Said) → IsKept sheet old → s.texts.sheet ≡ sheet → IsSaidOf mode limits (Some k) s → HasNext s old new → IsKept sheet new
added_can sheet old new mode limits k s can same is next =
    let many = can_add sheet old mode limits (Some k) s can same is in
    let alike = one_sheet_read can.mode mode can.page (Some k) can.texts s.texts (inputs_of old.last) s.inputs (can.same ∙ sym same) can.read is.read in
    let before = site_forth (all_places old) (inputs_of old.last).sheet.items s.inputs.sheet.items old.site.items alike.items can.reportable in
    let number : old.site.pages + 1 ≡ length (all_places old) + 1 = ap (λ n. n + 1) can.pages in
    let rep = page_added (all_places old) (places_of s.inputs) s.inputs.sheet.items old.site.items s.items (old.site.pages + 1) number before (rep_of mode limits s is.answers) in
    let on : length (sites.items_on (old.site.pages + 1) s.items) ≡ length s.items = length-map s.items _ in record {
      mode = mode;
      page = Some k;
      texts = s.texts;
      same = same;
      read = is.read ∙ ap Ok (sym next.last);
      many =
          ap (λ (z : sites.Site). length z.items) next.site ∙ better_many old.site.items (sites.items_on (old.site.pages + 1) s.items) (sym many ∙ sym on) ∙ sym many
          ∙ items_many (places_of s.inputs) s.inputs.sheet.items s.items (rep_of mode limits s is.answers) ∙ ap (λ (z : Inputs). length z.sheet.items) (sym next.last);
      pages = ap (λ (z : sites.Site). z.pages) next.site ∙ number ∙ sym (ap length next.places ∙ length-append (all_places old) (places_of s.inputs ∷ []));
      reportable =
          subst (λ (z : sites.Site). AreReportable (all_places new) (inputs_of new.last).sheet.items z.items) (sym next.site)
          (subst (λ (z : Inputs). AreReportable (all_places new) z.sheet.items (sites.with_page old.site s.items).items) (sym next.last)
          (subst (λ ps. AreReportable ps s.inputs.sheet.items (sites.with_page old.site s.items).items) (sym next.places) rep));
    }

pub first_can : (sheet : List ℕ) (seen : Seen) (mode : Mode) (limits : Limits) (s : Said) → s.texts.sheet ≡ sheet → IsSaidOf mode limits (Some 1) s → HasFirst s seen → IsKept sheet seen
first_can sheet seen mode limits s same is first = record {
  pages = ap (λ (z : sites.Site). z.pages) first.site ∙ sym (ap length first.places);
  reportable =
      subst (λ (z : sites.Site). AreReportable (all_places seen) (inputs_of seen.last).sheet.items z.items) (sym first.site)
      (subst (λ (z : Inputs). AreReportable (all_places seen) z.sheet.items (sites.items_on 1 s.items)) (sym first.last)
      (subst (λ ps. AreReportable ps s.inputs.sheet.items (sites.items_on 1 s.items)) (sym first.places) (first_added (places_of s.inputs) s.inputs.sheet.items s.items (rep_of mode limits s is.answers))));
  mode = mode;
  page = Some 1;
  texts = s.texts;
  same = same;
  read = is.read ∙ ap Ok (sym first.last);
  many =
      ap (λ (z : sites.Site). length z.items) first.site ∙ length-map s.items _ ∙ items_many (places_of s.inputs) s.inputs.sheet.items s.items (rep_of mode limits s is.answers)
      ∙ ap (λ (z : Inputs). length z.sheet.items) (sym first.last);
}

-- ---- what is seen behind some pages

abbrev last_said : Said → List Said → Said
last_said s [] = s
last_said s (x ∷ said) = last_said x said

last_joined : (s : Said) (more : List Said) (u : Said) → last_said s (more ++ u ∷ []) ≡ u
last_joined s [] u = refl
last_joined s (x ∷ more) u = last_joined x more u

pages_joined : (site : sites.Site) (lists : List (List Answer)) (answers : List Answer) → sites.with_pages site (lists ++ answers ∷ []) ≡ sites.with_page (sites.with_pages site lists) answers
pages_joined site [] answers = refl
pages_joined site (l ∷ lists) answers = pages_joined (sites.with_page site l) lists answers

of_last_is : (f : Said → List ℕ) (s : Said) (more : List Said) → of_last f (s ∷ more) ≡ f (last_said s more)
of_last_is f s [] = refl
of_last_is f s (x ∷ more) = of_last_is f x more

abbrev pub items_in : List Said → List (List Answer)
items_in said = map (λ (s : Said). s.items) said

abbrev places_in : List Said → List (List Place)
places_in said = map (λ (s : Said). places_of s.inputs) said

module _ (told : Told) (t : Task) (sheet : List ℕ) where
  said_joined : (vs : List Visit) (said : List Said) (v : Visit) (s : Said) → AreSaid told t vs said → IsSaid told t v s → AreSaid told t (vs ++ v ∷ []) (said ++ s ∷ [])
  said_joined [] [] v s are is = (is, tt)
  said_joined [] (x ∷ said) v s are is = absurd are
  said_joined (w ∷ vs) [] v s are is = absurd are
  said_joined (w ∷ vs) (x ∷ said) v s are is = (are.0, said_joined vs said v s are.1 is)

  abbrev HaveSheet : List Said → Type 0
  HaveSheet [] = Unit {0}
  HaveSheet (s ∷ said) = (s.texts.sheet ≡ sheet) × HaveSheet said

  sheet_joined : (said : List Said) (s : Said) → HaveSheet said → s.texts.sheet ≡ sheet → HaveSheet (said ++ s ∷ [])
  sheet_joined [] s have is = (is, tt)
  sheet_joined (x ∷ said) s have is = (have.0, sheet_joined said s have.1 is)

  has_sheet : (said : List Said) → HaveSheet said → (a : Said) → Contains said a → a.texts.sheet ≡ sheet
  has_sheet [] have a there = absurd (Contains-none a there)
  has_sheet (x ∷ said) have a there = elim ((Contains-cons a x said).0 there) [
    | inl same ↦ ap (λ (z : Said). z.texts.sheet) same ∙ have.0
    | inr behind ↦ has_sheet said have.1 a behind
  ]

  pub record IsSeen (done : List Visit) (first : Said) (more : List Said) (seen : Seen) : Type 0 where
    pub all : AreSaid told t done (first ∷ more)
    pub sheets : HaveSheet (first ∷ more)
    pub site : seen.site ≡ sites.with_pages (sites.first_page first.items) (items_in more)
    pub places : all_places seen ≡ places_in (first ∷ more)
    pub last : inputs_of seen.last ≡ (last_said first more).inputs
    pub can : IsKept sheet seen

module _ (told : Told) (mode : Mode) (limits : Limits) (source : Source) (sheet : List ℕ) where
  abbrev t : Task
  t = task_by source mode limits

  seen_first : (v : Visit) (s : Said) (seen : Seen) → v.number ≡ Some 1 → AreTexts told v s.texts → s.texts.sheet ≡ sheet → IsSaidOf mode limits (Some 1) s → HasFirst s seen → IsSeen told t sheet (v ∷ []) s [] seen
  seen_first v s seen number texts same is first = record {
    all = (record { texts = texts; read = subst (λ k. read_inputs mode k s.texts ≡ Ok s.inputs) (sym number) is.read; answers = is.answers; traces = is.traces }, tt);
    sheets = (same, tt);
    site = first.site;
    places = first.places;
    last = first.last;
    can = first_can sheet seen mode limits s same is first;
  }

  seen_next : (done : List Visit) (v : Visit) (k : ℕ) (first : Said) (more : List Said) (s : Said) (old new : Seen) → v.number ≡ Some k → IsSeen told t sheet done first more old → AreTexts told v s.texts → s.texts.sheet ≡ sheet
      → IsSaidOf mode limits (Some k) s → HasNext s old new → IsSeen told t sheet (done ++ v ∷ []) first (more ++ s ∷ []) new
  seen_next done v k first more s old new number seen texts same is next = record {
    all = said_joined told t sheet done (first ∷ more) v s seen.all (record { texts = texts; read = subst (λ k. read_inputs mode k s.texts ≡ Ok s.inputs) (sym number) is.read; answers = is.answers; traces = is.traces });
    sheets = sheet_joined told t sheet (first ∷ more) s seen.sheets same;
    site =
        next.site ∙ ap (λ z. sites.with_page z s.items) seen.site ∙ sym (pages_joined (sites.first_page first.items) (items_in more) s.items)
        ∙ ap (sites.with_pages (sites.first_page first.items)) (sym (map-append (λ (z : Said). z.items) more (s ∷ [])));
    places = next.places ∙ ap (λ z. z ++ places_of s.inputs ∷ []) seen.places ∙ sym (map-append (λ (z : Said). places_of z.inputs) (first ∷ more) (s ∷ []));
    last = next.last ∙ sym (ap (λ (z : Said). z.inputs) (last_joined first more s));
    can = added_can sheet old new mode limits k s seen.can same is next;
  }

  -- ---- from page to page

  module _ (words : List (List ℕ)) (task : command words ≡ Some t) (name : List ℕ) (held : Holds told name sheet) (small : length sheet ≤ MOST_BYTES) (start : List Load) where
    abbrev visit_of : ℕ → List ℕ × List ℕ → Visit
    visit_of k pair = record { number = Some k; origin = named (record { page = pair.0; sheet = name; script = pair.1 }); wanted = page_wanted k pair }

    texts_of_page : (k : ℕ) (pair : List ℕ × List ℕ) (before after : List Load) (x : Texts) → x.sheet ≡ sheet → AllLoaded told (page_wanted k pair) before after (Ok (x.page ∷ x.script ∷ [])) → AreTexts told (visit_of k pair) x
    texts_of_page k pair before after x same loaded = record {
      from = record { page = loaded.1.0; sheet = subst (Holds told name) (sym same) held; script = loaded.1.2.0 };
      fit = record { page = loaded.1.1; sheet = subst (λ z. length z ≤ MOST_BYTES) (sym same) small; script = loaded.1.2.1 };
    }

    -- the visits that are left
    order_on : (done : List Visit) (k : ℕ) (pair : List ℕ × List ℕ) (pairs : List (List ℕ × List ℕ)) → visits source ≡ done ++ visits_from k name (pair ∷ pairs) → visits source ≡ (done ++ visit_of k pair ∷ []) ++ visits_from (k + 1) name pairs
    order_on done k pair pairs order = order ∙ sym (append_assoc done (visit_of k pair ∷ []) (visits_from (k + 1) name pairs))

    loads_on : (done : List Visit) (v : Visit) (mid end : List Load) → mid ≡ start ++ all_loads done → end ≡ mid ++ loads_of v.wanted → end ≡ start ++ all_loads (done ++ v ∷ [])
    loads_on done v mid end loads more =
        more ∙ ap (λ z. z ++ loads_of v.wanted) loads ∙ append_assoc start (all_loads done) (loads_of v.wanted)
        ∙ ap (λ z. start ++ z) (ap (λ z. all_loads done ++ z) (sym (append-nil (loads_of v.wanted))) ∙ sym (all_joined done (v ∷ [])))

    pub walk : {U : Type 0} (u : U) (pairs : List (List ℕ × List ℕ)) (k : ℕ) (done : List Visit) (first : Said) (more : List Said) (mid end : List Load) (old new : Seen) → visits source ≡ done ++ visits_from k name pairs
        → mid ≡ start ++ all_loads done → IsSeen told t sheet done first more old → MorePages {U = U} told mode limits sheet k pairs mid end old new (Ok u)
        → (more' : List Said) × (end ≡ start ++ all_loads (visits source)) × IsSeen told t sheet (visits source) first more' new
    walk u [] k done first more mid end old new order loads seen (same, same') =
        let all : visits source ≡ done = order ∙ append-nil done in (
          more,
          same ∙ loads ∙ ap (λ z. start ++ all_loads z) (sym all),
          subst (λ z. IsSeen told t sheet (visits source) first more z) (sym same') (subst (λ z. IsSeen told t sheet z first more old) (sym all) seen),
        )
    walk u (pair ∷ pairs) k done first more mid end old new order loads seen (mid', m, (s, same, loaded, is, next), rest) =
        walk u pairs (k + 1) (done ++ visit_of k pair ∷ []) first (more ++ s ∷ []) mid' end m new (order_on done k pair pairs order) (loads_on done (visit_of k pair) mid mid' loads loaded.0)
        (seen_next done (visit_of k pair) k first more s old m refl seen (texts_of_page k pair mid mid' s.texts same loaded) same is next) rest

    pub walk_stops : (U : Type 0) (pairs : List (List ℕ × List ℕ)) (k : ℕ) (done : List Visit) (first : Said) (more : List Said) (mid end : List Load) (old new : Seen) (e : Stop) (out : Put) → out.held' ≡ out.held
        → visits source ≡ done ++ visits_from k name pairs → mid ≡ start ++ all_loads done → IsSeen told t sheet done first more old → MorePages {U = U} told mode limits sheet k pairs mid end old new (Err e) → Ends (run_of told words start end out) (Err e)
    walk_stops U [] k done first more mid end old new e out silent order loads seen is = absurd is
    walk_stops U (pair ∷ pairs) k done first more mid end old new e out silent order loads seen (inl (inl load)) =
        load_stops told words start end out source mode limits task silent done (visit_of k pair) (visits_from (k + 1) name pairs) order (first ∷ more) seen.all e
        (subst (λ z. AllLoaded told (page_wanted k pair) z end (Err e)) loads load)
    walk_stops U (pair ∷ pairs) k done first more mid end old new e out silent order loads seen (inl (inr (x, same, loaded, is))) =
        say_stops told words start end out source mode limits task silent done (visit_of k pair) (visits_from (k + 1) name pairs) order (first ∷ more) seen.all x e
        (loaded.0 ∙ ap (λ z. z ++ loads_of (page_wanted k pair)) loads) (texts_of_page k pair mid end x same loaded) is
    walk_stops U (pair ∷ pairs) k done first more mid end old new e out silent order loads seen (inr (mid', m, u, (s, same, loaded, is, next), rest)) =
        walk_stops U pairs (k + 1) (done ++ visit_of k pair ∷ []) first (more ++ s ∷ []) mid' end m new e out silent (order_on done k pair pairs order) (loads_on done (visit_of k pair) mid mid' loads loaded.0)
        (seen_next done (visit_of k pair) k first more s old m refl seen (texts_of_page k pair mid mid' s.texts same loaded) same is next) rest

-- one page, and then the others
pub more_joined : (U : Type 0) (u : U) (told told' : Told) (same : told' ≡ told) (mode : Mode) (limits : Limits) (sheet : List ℕ) (k : ℕ) (pair : List ℕ × List ℕ) (pairs : List (List ℕ × List ℕ)) (start mid end : List Load) (old m new : Seen) (r : Result U Stop)
    → PageAdded {U = U} told mode limits sheet k pair start mid old m (Ok u) → MorePages {U = U} told' mode limits sheet (k + 1) pairs mid end m new r → MorePages {U = U} told mode limits sheet k (pair ∷ pairs) start end old new r
more_joined U u told told' same mode limits sheet k pair pairs start mid end old m new (Ok v) added more =
    (mid, m, added, subst (λ (z : Told). MorePages {U = U} z mode limits sheet (k + 1) pairs mid end m new (Ok v)) same more)
more_joined U u told told' same mode limits sheet k pair pairs start mid end old m new (Err e) added more =
    inr (mid, m, u, added, subst (λ (z : Told). MorePages {U = U} z mode limits sheet (k + 1) pairs mid end m new (Err e)) same more)

-- a mode that writes the report
pub site_reported : (m : Mode) (sheet : List ℕ) (seen : Seen) → (m ≡ SitePrune → ⊥) → text_of_site m sheet seen ≡ site_report sheet (inputs_of seen.last).names (all_places seen) (inputs_of seen.last).sheet seen.site
site_reported Report sheet seen other = refl
site_reported Prune sheet seen other = refl
site_reported Dead sheet seen other = refl
site_reported Runs sheet seen other = refl
site_reported Site sheet seen other = refl
site_reported SitePrune sheet seen other = absurd (other refl)

-- ---- the end

module _ (told : Told) (words : List (List ℕ)) (start : List Load) (mode : Mode) (on_pages : takes_pages mode ≡ true) (limits : Limits) (name page1 script1 : List ℕ) (pairs : List (List ℕ × List ℕ))
    (task : command words ≡ Some (task_by (several name ((page1, script1) ∷ pairs)) mode limits)) where
  abbrev source' : Source
  source' = several name ((page1, script1) ∷ pairs)

  abbrev t' : Task
  t' = task_by source' mode limits

  abbrev first_wanted : List Wanted
  first_wanted = wanted_as Sheet name ∷ page_wanted 1 (page1, script1)

  abbrev first_visit : Visit
  first_visit = record { number = Some 1; origin = named (record { page = page1; sheet = name; script = script1 }); wanted = first_wanted }

  first_texts : (x : Texts) (end : List Load) → AllLoaded told first_wanted start end (Ok (x.sheet ∷ x.page ∷ x.script ∷ [])) → AreTexts told first_visit x
  first_texts x end loaded = record {
    from = record { page = loaded.1.2.0; sheet = loaded.1.0; script = loaded.1.2.2.0 };
    fit = record { page = loaded.1.2.1; sheet = loaded.1.1; script = loaded.1.2.2.1 };
  }

  pub site_not_loaded : (end : List Load) (out : Put) (e : Stop) → out.held' ≡ out.held → AllLoaded told first_wanted start end (Err e) → Ends (run_of told words start end out) (Err e)
  site_not_loaded end out e silent loaded =
      load_stops told words start end out source' mode limits task silent [] first_visit (visits_from 2 name pairs) refl [] tt e (subst (λ z. AllLoaded told first_wanted z end (Err e)) (sym (append-nil start)) loaded)

  pub site_not_begun : (x : Texts) (end : List Load) (out : Put) (e : Stop) → out.held' ≡ out.held → AllLoaded told first_wanted start end (Ok (x.sheet ∷ x.page ∷ x.script ∷ [])) → IsBegun mode limits x (Err e)
      → Ends (run_of told words start end out) (Err e)
  site_not_begun x end out e silent loaded is =
      say_stops told words start end out source' mode limits task silent [] first_visit (visits_from 2 name pairs) refl [] tt x e (loaded.0 ∙ ap (λ z. z ++ loads_of first_wanted) (sym (append-nil start))) (first_texts x end loaded) is

  begun_seen : (x : Texts) (mid : List Load) (seen : Seen) → AllLoaded told first_wanted start mid (Ok (x.sheet ∷ x.page ∷ x.script ∷ [])) → (begun : IsBegun mode limits x (Ok seen)) → IsSeen told t' x.sheet (first_visit ∷ []) begun.0 [] seen
  begun_seen x mid seen loaded (s, same, is, first) =
      seen_first told mode limits source' x.sheet first_visit s seen refl (subst (AreTexts told first_visit) (sym same) (first_texts x mid loaded)) (ap (λ (z : Texts). z.sheet) same) is first

  loads_first : (x : Texts) (mid : List Load) → AllLoaded told first_wanted start mid (Ok (x.sheet ∷ x.page ∷ x.script ∷ [])) → mid ≡ start ++ all_loads (first_visit ∷ [])
  loads_first x mid loaded = loaded.0 ∙ ap (λ z. start ++ z) (sym (append-nil (loads_of first_wanted)))

  pub site_stops : (U : Type 0) (x : Texts) (mid end : List Load) (out : Put) (old new : Seen) (e : Stop) → out.held' ≡ out.held → AllLoaded told first_wanted start mid (Ok (x.sheet ∷ x.page ∷ x.script ∷ [])) → IsBegun mode limits x (Ok old)
      → MorePages {U = U} told mode limits x.sheet 2 pairs mid end old new (Err e) → Ends (run_of told words start end out) (Err e)
  site_stops U x mid end out old new e silent loaded begun more =
      walk_stops told mode limits source' x.sheet words task name loaded.1.0 loaded.1.1 start U pairs 2 (first_visit ∷ []) begun.0 [] mid end old new e out silent refl (loads_first x mid loaded) (begun_seen x mid old loaded begun) more

  module _ (x : Texts) (mid end : List Load) (old new : Seen) (loaded : AllLoaded told first_wanted start mid (Ok (x.sheet ∷ x.page ∷ x.script ∷ []))) (begun : IsBegun mode limits x (Ok old)) {U : Type 0} (u : U)
      (more : MorePages {U = U} told mode limits x.sheet 2 pairs mid end old new (Ok u)) where
    abbrev all : (more' : List Said) × (end ≡ start ++ all_loads (visits source')) × IsSeen told t' x.sheet (visits source') begun.0 more' new
    all = walk told mode limits source' x.sheet words task name loaded.1.0 loaded.1.1 start u pairs 2 (first_visit ∷ []) begun.0 [] mid end old new refl (loads_first x mid loaded) (begun_seen x mid old loaded begun) more

    whole : (out : Put) → IsWhole (run_of told words start end out) t' (begun.0 ∷ all.0)
    whole out = record {
      task = task;
      loads = all.1;
      all = all.2.all;
      one_sheet = λ a b there there'. has_sheet told t' x.sheet (begun.0 ∷ all.0) all.2.sheets a there ∙ sym (has_sheet told t' x.sheet (begun.0 ∷ all.0) all.2.sheets b there');
    }

    abbrev said' : List Said
    said' = begun.0 ∷ all.0

    abbrev last' : Said
    last' = last_said begun.0 all.0

    last_sheet : (s : Said) (more' : List Said) → HaveSheet told t' x.sheet (s ∷ more') → (last_said s more').texts.sheet ≡ x.sheet
    last_sheet s [] have = have.0
    last_sheet s (y ∷ more') have = last_sheet y more' have.1

    report_is : site_report last'.texts.sheet last'.inputs.names (places_in said') last'.inputs.sheet (site_on said')
        ≡ site_report x.sheet (inputs_of new.last).names (all_places new) (inputs_of new.last).sheet new.site
    report_is =
        sym (ap (λ z. site_report x.sheet (inputs_of new.last).names z (inputs_of new.last).sheet new.site) all.2.places
        ∙ ap (λ (z : Inputs). site_report x.sheet z.names (places_in said') z.sheet new.site) all.2.last
        ∙ ap (λ z. site_report x.sheet last'.inputs.names (places_in said') last'.inputs.sheet z) all.2.site
        ∙ ap (λ z. site_report z last'.inputs.names (places_in said') last'.inputs.sheet (site_on said')) (sym (last_sheet begun.0 all.0 all.2.sheets)))

    left_is : pruned last'.texts.sheet last'.inputs.sheet (map is_unused (best_in said')) ≡ pruned x.sheet (inputs_of new.last).sheet (map is_unused (best_answers new.site))
    left_is =
        sym (ap (λ (z : Inputs). pruned x.sheet z.sheet (map is_unused (best_answers new.site))) all.2.last
        ∙ ap (λ z. pruned x.sheet last'.inputs.sheet (map is_unused (best_answers z))) all.2.site
        ∙ ap (λ z. pruned z last'.inputs.sheet (map is_unused (best_in said'))) (sym (last_sheet begun.0 all.0 all.2.sheets)))

    site_is : (m : Mode) → site_by m said' last' ≡ text_of_site m x.sheet new
    site_is Report = report_is
    site_is Prune = report_is
    site_is Dead = report_is
    site_is Runs = report_is
    site_is Site = report_is
    site_is SitePrune = left_is

    text_is : text_of t' said' ≡ text_of_site mode x.sheet new
    text_is = ap (λ (b : Bool). of_last (if b then site_by mode said' else text_on mode) said') on_pages ∙ of_last_is (site_by mode said') begun.0 all.0 ∙ site_is mode

    no_verdicts : (m : Mode) → takes_pages m ≡ true → verdicts_in m said' ≡ []
    no_verdicts Report is = refl
    no_verdicts Prune is = refl
    no_verdicts Dead is = absurd (true≢false (sym is))
    no_verdicts Runs is = refl
    no_verdicts Site is = refl
    no_verdicts SitePrune is = refl

    abbrev status_by_lines : List Answer → List dead.Verdict → Status
    status_by_lines lines verdicts = status_by (list_any is_open lines || list_any dead.is_open verdicts) (list_any is_unused lines || list_any dead.is_dead verdicts)

    status_is : status_of t' said' ≡ site_status new.site
    status_is =
        ap (λ (b : Bool). status_by_lines (if b then best_in said' else lines_on said') (verdicts_in mode said')) on_pages
        ∙ ap (status_by_lines (best_in said')) (no_verdicts mode on_pages)
        ∙ ap (λ b. status_by b (list_any is_unused (best_in said') || false)) (or_false (list_any is_open (best_in said')))
        ∙ ap (status_by (list_any is_open (best_in said'))) (or_false (list_any is_unused (best_in said')))
        ∙ sym (ap site_status all.2.site)

    pub site_ends : (out : Put) (result : Result Status Stop) → Finished mode x.sheet new out result → Ends (run_of told words start end out) result
    site_ends out (Ok st) (adds, status) = (t', begun.0 ∷ all.0, whole out, subst (λ z. Adds out.held out.held' z) (sym text_is) adds, status ∙ sym status_is)
    site_ends out (Err e) (f, same, prefix, rose) =
        subst (λ z. Ends (run_of told words start end out) (Err z)) (sym same) (not_whole (run_of told words start end out) t' (begun.0 ∷ all.0) f (whole out) (subst (λ z. AddsPrefix out.held out.held' z) (sym text_is) prefix) rose)

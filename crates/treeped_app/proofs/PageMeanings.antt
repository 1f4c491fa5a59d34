-- The text for several pages means what it says, from answers that are right on each of them.
use Rattle.std.proofs.Common.{◌≡◌, ℕ, zero, suc, ◌-◌, List, [], ◌∷◌, ◌++◌, length, map, Contains, Option, Some, None, option_map, slice_get, refl, sym, ap, ◌∙◌, subst, inl, inr, arith}
use Rattle.std.proofs.lemmas.List.{length-map, map-append}
use Rattle.std.proofs.lemmas.Option.{slice_get-map}
use Rattle.std.proofs.lemmas.Simd.{map-map}
use Rattle.tp_base.proofs.Rising.{Contains-cons, Contains-none, Contains-here, Contains-behind}
use Rattle.tp_base.specs.declared.places.Place.{Place}
use Rattle.jq_stmts.specs.Sharp.{wides}
use Rattle.sel_text.specs.Selectors.{Selector}
use Rattle.css_read.specs.Pruned.{pruned}
use Rattle.css_read.specs.Sheets.{judged, Item}
use Rattle.command_words.specs.declared.words.Mode.TheVariants.{Site, SitePrune}
use Rattle.usage_report.specs.Answers.{Answer, used, maybe, used_unshown, unused, skipped, spent, line_of}
use Rattle.usage_report.specs.Lines as says
use Rattle.site_judge.specs.Sites as sites
use Rattle.site_judge.specs.SiteLines as site_lines
use Rattle.site_judge.specs.SiteReport.{best_line}
use Rattle.treeped_app.specs.Meaning.{Each, NeverMatches, MeansLine, MeansReport, MeansPruned, MeansDead, MeansRuns, Page, MeansBest, MeansSite, MeansSitePruned, DoesTheSame}
use Rattle.treeped_app.specs.Meaning as meaning
use Rattle.treeped_app.specs.Modes.{Said, guards_in, text_by, of_last, site_by, site_on, is_unused}
use Rattle.treeped_app.specs.Readings.{places_of}
use Rattle.treeped_app.specs.Runs.{Run, IsWhole}
use Rattle.treeped_app.specs.Tasks.{Task}
use Rattle.treeped_app.proofs.EachPageLemmas.{right_many, right_at, never_met, of_page, right_on, site, place_of, of_each_page}
use Rattle.treeped_app.proofs.SiteLemmas.{items_in}
use Rattle.treeped_app.proofs.PreservationLemmas.{on_site}
use Rattle.treeped_app.proofs.SheetLemmas.{sheet_read, wide_read}
use Rattle.treeped_app.proofs.MeaningLemmas.{right_means, unused_line, same_left}

-- ---- several pages

abbrev pub page_of : Said → Page
page_of s = (s.texts, s.inputs)

abbrev pub pages_of : List Said → List Page
pages_of said = map page_of said

-- a page is that of something that is said
said_of_page : (said : List Said) (p : Page) → Contains (pages_of said) p → (s : Said) × Contains said s × (page_of s ≡ p)
said_of_page [] p there = absurd (Contains-none p there)
said_of_page (x ∷ said) p there = elim ((Contains-cons p (page_of x) (pages_of said)).0 there) [
  | inl same ↦ (x, Contains-here x x said refl, sym same)
  | inr behind ↦ let rest = said_of_page said p behind in (rest.0, Contains-behind rest.0 x said rest.1, rest.2)
]

-- what is said at a place of a list
said_at : (said : List Said) (k : ℕ) (answers : List Answer) → slice_get (items_in said) k ≡ Some answers → (s : Said) × (slice_get said k ≡ Some s) × Contains said s × (s.items ≡ answers)
said_at [] k answers at = cc
said_at (x ∷ said) zero answers at = (x, refl, Contains-here x x said refl, cc)
said_at (x ∷ said) (suc k) answers at = let rest = said_at said k answers at in (rest.0, rest.1, Contains-behind rest.0 x said rest.2, rest.3)

-- the last of what is said
last_of : (x : Said) (said : List Said) → (s : Said) × Contains (x ∷ said) s × ((f : Said → List ℕ) → of_last f (x ∷ said) ≡ f s) × (before : List Said) × (x ∷ said ≡ before ++ s ∷ [])
last_of x [] = (x, Contains-here x x [] refl, λ f. refl, [], refl)
last_of x (y ∷ said) = let rest = last_of y said in (rest.0, Contains-behind rest.0 x (y ∷ said) rest.1, rest.2, x ∷ rest.3, ap (λ (z : List Said). x ∷ z) rest.4)

line_unused : (a : Answer) → line_of a ≡ says.unused → a ≡ unused
line_unused (used proof steps shown) is = cc
line_unused (maybe proof steps shown broken) is = cc
line_unused used_unshown is = cc
line_unused unused is = refl
line_unused (skipped cause at) is = cc
line_unused spent is = cc

best_behind : (o : Option sites.Best) (b : site_lines.Best) → option_map best_line o ≡ Some b → (c : sites.Best) × (o ≡ Some c) × (best_line c ≡ b)
best_behind None b is = cc
best_behind (Some c) b is = (c, refl, cc)

best_at : (bs : List sites.Best) (k : ℕ) (b : site_lines.Best) → slice_get (map best_line bs) k ≡ Some b → (c : sites.Best) × (slice_get bs k ≡ Some c) × (best_line c ≡ b)
best_at bs k b at = best_behind (slice_get bs k) b (sym (slice_get-map best_line bs k) ∙ at)

module _ (r : Run) (t : Task) (said : List Said) (whole : IsWhole r t said) where
  wide_on : (s : Said) → Contains said s → wides s.inputs.exact ≡ s.inputs.stmts
  wide_on s there' = let page = of_page r t said whole s there' in wide_read t.mode page.0.number s.texts s.inputs page.1.read

  -- what is unused on a page never matches there
  never_on : (s : Said) → Contains said s → (k : ℕ) → slice_get s.items k ≡ Some unused → (item : Item) × (u : Selector) × (slice_get s.inputs.sheet.items k ≡ Some item) × (item.outcome ≡ judged u) × NeverMatches s.inputs u
  never_on s there' k at =
      let j = s.inputs in
      let right = right_on r t said whole s there' in
      let here = right_at j.tree j.exact j.stmts (guards_in t.mode j) (length j.names) t.limits j.sheet.items s.items k unused right at in
      let never = never_met j.tree j.exact j.stmts (guards_in t.mode j) (length j.names) t.limits here.0.outcome here.2 in
      let means = right_means j (guards_in t.mode j) (length j.names) t.limits (wide_on s there') here.0 unused here.2 in
      (here.0, never.0, here.1, never.1, means.unused never.0 never.1 refl)

  best_means : (k : ℕ) (c : sites.Best) → slice_get (site_on said).items k ≡ Some c → MeansBest (pages_of said) k (best_line c)
  best_means k c at =
      let best = (site r t said whole).items k c at in
      let giver = said_at said best.place best.there.0 best.there.1 in
      let s = giver.0 in
      let j = s.inputs in
      let says_so : slice_get s.items k ≡ Some c.answer = ap (λ (z : List Answer). slice_get z k) giver.3 ∙ best.there.2 in
      let here = right_at j.tree j.exact j.stmts (guards_in t.mode j) (length j.names) t.limits j.sheet.items s.items k c.answer (right_on r t said whole s giver.2) says_so in
      let place : c.page - 1 ≡ best.place = omega (arith, best.page) in
      record {
        unused =
            λ is p among.
            let x = said_of_page said p among in
            let each = of_each_page r t said whole k c at in
            subst (λ (z : Page). (item : Item) × (u : Selector) × (slice_get z.1.sheet.items k ≡ Some item) × (item.outcome ≡ judged u) × NeverMatches z.1 u) x.2
            (never_on x.0 x.1 k (each.unused_on_each.0 (line_unused c.answer is) x.0 x.1));
        page = page_of s;
        named = (omega (arith, best.page), ap (λ m. slice_get (pages_of said) m) place ∙ slice_get-map page_of said best.place ∙ ap (option_map page_of) giver.1);
        item = here.0;
        there = here.1;
        line = right_means j (guards_in t.mode j) (length j.names) t.limits (wide_on s giver.2) here.0 c.answer here.2;
      }

  each_best : (k : ℕ) (b : site_lines.Best) → slice_get (map best_line (site_on said).items) k ≡ Some b → MeansBest (pages_of said) k b
  each_best k b at = let c = best_at (site_on said).items k b at in subst (λ (z : site_lines.Best). MeansBest (pages_of said) k z) c.2 (best_means k c.0 c.1)

  one_each : (s : Said) → Contains said s → length (map best_line (site_on said).items) ≡ length s.inputs.sheet.items
  one_each s there' =
      let j = s.inputs in
      let place = place_of said s there' in
      length-map (site_on said).items best_line
      ∙ sym ((site r t said whole).one_length place.0 s.items place.1)
      ∙ right_many j.tree j.exact j.stmts (guards_in t.mode j) (length j.names) t.limits j.sheet.items s.items (right_on r t said whole s there')

  places_seen : map (λ (p : Page). places_of p.1) (pages_of said) ≡ map (λ (x : Said). places_of x.inputs) said
  places_seen = map-map (λ (p : Page). places_of p.1) page_of said

  how_many : (site_on said).pages ≡ length (pages_of said)
  how_many = (site r t said whole).pages ∙ length-map said (λ (x : Said). x.items) ∙ sym (length-map said page_of)

  pub site_means : (x : Said) (later : List Said) → said ≡ x ∷ later → MeansSite (pages_of said) (text_by Site said)
  site_means x later is =
      let last = last_of x later in
      let s = last.0 in
      let among : Contains said s = subst (λ (z : List Said). Contains z s) (sym is) last.1 in
      record {
        bests = map best_line (site_on said).items;
        last = page_of s;
        is_last = record { before = pages_of last.3; is = ap pages_of (is ∙ last.4) ∙ map-append page_of last.3 (s ∷ []) };
        written =
            ap (λ (z : List Said). of_last (site_by Site said) z) is ∙ last.2 (site_by Site said)
            ∙ ap (λ (ps : List (List Place)). site_lines.site_report s.texts.sheet s.inputs.names ps s.inputs.sheet (site_on said).pages (map best_line (site_on said).items)) (sym places_seen)
            ∙ ap (λ n. site_lines.site_report s.texts.sheet s.inputs.names (map (λ (p : Page). places_of p.1) (pages_of said)) s.inputs.sheet n (map best_line (site_on said).items)) how_many;
        one_each = one_each s among;
        each = each_best;
      }

  flags_seen : (bs : List sites.Best) → map is_unused (map (λ (b : sites.Best). b.answer) bs) ≡ map (λ (b : site_lines.Best). meaning.is_unused b.line) (map best_line bs)
  flags_seen [] = refl
  flags_seen (b ∷ bs) = let first = unused_line b.answer in let others = flags_seen bs in λ j. first j ∷ others j

  pub site_pruned_means : (x : Said) (later : List Said) → said ≡ x ∷ later → MeansSitePruned (pages_of said) (text_by SitePrune said)
  site_pruned_means x later is =
      let last = last_of x later in
      let s = last.0 in
      let among : Contains said s = subst (λ (z : List Said). Contains z s) (sym is) last.1 in
      record {
        bests = map best_line (site_on said).items;
        last = page_of s;
        is_last = record { before = pages_of last.3; is = ap pages_of (is ∙ last.4) ∙ map-append page_of last.3 (s ∷ []) };
        one_each = one_each s among;
        each = each_best;
        written =
            ap (λ (z : List Said). of_last (site_by SitePrune said) z) is ∙ last.2 (site_by SitePrune said)
            ∙ ap (λ flags. pruned s.texts.sheet s.inputs.sheet flags) (flags_seen (site_on said).items);
        same =
            λ p there'.
            let y = said_of_page said p there' in
            let page = of_page r t said whole y.0 y.1 in
            let read = sheet_read t.mode page.0.number y.0.texts y.0.inputs page.1.read in
            subst (λ (z : Page). DoesTheSame z.0 z.1 (text_by SitePrune said)) y.2
            (same_left y.0 (text_by SitePrune said) (wide_on y.0 y.1) read.0 read.1 read.2 (on_site r t said whole y.0 y.1));
      }

-- The results for a site, page by page. No public contract cites this file: its definitions are the contracts of inner
-- functions.
--     IsBegun ..        the result of the first page
--     PageAdded ..      the result of one more page
--     MorePages ..      the result of all further pages
--     Finished ..       the result of writing
use Rattle.std.specs.Prelude.{◌≡◌, ◌⊎◌, ℕ, ◌+◌, List, [], ◌∷◌, ◌++◌, length, map, Option, Some, Result, Ok, Err, Vec}
use Rattle.std.specs.declared.alloc.Global.{Global}
use Rattle.std.specs.List.{list_any}
use Rattle.tp_base.specs.declared.places.Place.{Place}
use Rattle.css_read.specs.Pruned.{pruned}
use Rattle.tp_io.specs.Files.{Load}
use Rattle.tp_io.specs.Sinks.{Adds, AddsPrefix, Rose}
use Rattle.limits.specs.declared.budgets.Limits.{Limits}
use Rattle.command_words.specs.declared.words.Mode.{Mode}
use Rattle.command_words.specs.declared.words.Mode.TheVariants.{SitePrune}
use Rattle.usage_report.specs.Answers.{Answer}
use Rattle.usage_report.specs.Views.{answer_of}
use Rattle.usage_report.specs.declared.faults.ReportFault.{ReportFault}
use Rattle.usage_report.specs.declared.faults.ReportFault.TheVariants as report_fault
use Rattle.site_judge.specs.Sites as sites
use Rattle.site_judge.specs.SiteReport.{AreReportable, site_report}
use Rattle.run_ends.specs.declared.refusals.Part.TheVariants.{Page, Script}
use Rattle.treeped_app.specs.declared.saying.Said as code
use Rattle.treeped_app.specs.declared.sites.Seen.{Seen}
use Rattle.run_ends.specs.declared.status.Status.{Status}
use Rattle.run_ends.specs.declared.stops.Stop.{Stop}
use Rattle.treeped_app.specs.Inputs.{AllLoaded, IsSaidOf, IsSaying}
use Rattle.treeped_app.specs.Modes.{Texts, Said, places_of, is_open, is_unused, status_by}
use Rattle.run_ends.specs.Tells.{Put}
use Rattle.treeped_app.specs.Runs.{Told, read_inputs}
use Rattle.run_ends.specs.Stops.{stop_of}
use Rattle.treeped_app.specs.Tasks.{Wanted, wanted_as}
use Rattle.treeped_app.specs.Views.{inputs_of}

abbrev pub all_places : Seen → List (List Place)
all_places seen = map (λ (ps : Vec Place Global). ps.items) seen.places.items

-- the state after the first page
pub record HasFirst (s : Said) (seen : Seen) : Type 0 where
  pub site : seen.site ≡ sites.first_page s.items
  pub places : all_places seen ≡ places_of s.inputs ∷ []
  pub last : inputs_of seen.last ≡ s.inputs

abbrev pub IsBegun : Mode → Limits → Texts → Result Seen Stop → Type 0
IsBegun m limits x (Ok seen) = (s : Said) × (s.texts ≡ x) × IsSaidOf m limits (Some 1) s × HasFirst s seen
IsBegun m limits x (Err e) = IsSaying m limits (Some 1) x (Err e)

-- the last inputs were read with this sheet, each of its items has an answer, and a report on the sheet can be written from the answers
pub record IsKept (sheet : List ℕ) (seen : Seen) : Type 0 where
  pub mode : Mode
  pub page : Option ℕ
  pub texts : Texts
  pub same : texts.sheet ≡ sheet
  pub read : read_inputs mode page texts ≡ Ok (inputs_of seen.last)
  pub many : length seen.site.items ≡ length (inputs_of seen.last).sheet.items
  pub pages : seen.site.pages ≡ length (all_places seen)
  pub reportable : AreReportable (all_places seen) (inputs_of seen.last).sheet.items seen.site.items

pub record HasNext (s : Said) (old new : Seen) : Type 0 where
  pub site : new.site ≡ sites.with_page old.site s.items
  pub places : all_places new ≡ all_places old ++ places_of s.inputs ∷ []
  pub last : inputs_of new.last ≡ s.inputs

-- the same for the results as the code has them
abbrev pub IsFirst : code.Said → Seen → Type 0
IsFirst s seen = (seen.site ≡ sites.first_page (map answer_of s.items.items)) × (all_places seen ≡ places_of (inputs_of s.inputs) ∷ [])

abbrev pub IsAdded : code.Said → Seen → Seen → Type 0
IsAdded s old new = (new.site ≡ sites.with_page old.site (map answer_of s.items.items)) × (all_places new ≡ all_places old ++ places_of (inputs_of s.inputs) ∷ [])

abbrev pub page_wanted : ℕ → List ℕ × List ℕ → List Wanted
page_wanted k pair = wanted_as (Page (Some k)) pair.0 ∷ wanted_as (Script (Some k)) pair.1 ∷ []

-- The result of one more page, with this number and these names.
abbrev pub PageAdded : {U : Type 0} → Told → Mode → Limits → List ℕ → ℕ → List ℕ × List ℕ → List Load → List Load → Seen → Seen → Result U Stop → Type 0
PageAdded told m limits sheet k pair start end old new (Ok u) =
    (s : Said) × (s.texts.sheet ≡ sheet) × AllLoaded told (page_wanted k pair) start end (Ok (s.texts.page ∷ s.texts.script ∷ [])) × IsSaidOf m limits (Some k) s × HasNext s old new
PageAdded told m limits sheet k pair start end old new (Err e) =
    AllLoaded told (page_wanted k pair) start end (Err e)
    ⊎ ((x : Texts) × (x.sheet ≡ sheet) × AllLoaded told (page_wanted k pair) start end (Ok (x.page ∷ x.script ∷ [])) × IsSaying m limits (Some k) x (Err e))

-- The result of the pages with these names, from this number on, up to the first that is refused.
abbrev pub MorePages : {U : Type 0} → Told → Mode → Limits → List ℕ → ℕ → List (List ℕ × List ℕ) → List Load → List Load → Seen → Seen → Result U Stop → Type 0
MorePages told m limits sheet k [] start end old new (Ok u) = (end ≡ start) × (new ≡ old)
MorePages told m limits sheet k [] start end old new (Err e) = ⊥
MorePages told m limits sheet k (pair ∷ pairs) start end old new (Ok u) =
    (mid : List Load) × (seen : Seen) × PageAdded told m limits sheet k pair start mid old seen (Ok u) × MorePages told m limits sheet (k + 1) pairs mid end seen new (Ok u)
MorePages {U = U} told m limits sheet k (pair ∷ pairs) start end old new (Err e) =
    PageAdded {U = U} told m limits sheet k pair start end old new (Err e)
    ⊎ ((mid : List Load) × (seen : Seen) × (u : U) × PageAdded told m limits sheet k pair start mid old seen (Ok u) × MorePages {U = U} told m limits sheet (k + 1) pairs mid end seen new (Err e))

abbrev pub best_answers : sites.Site → List Answer
best_answers site = map (λ (b : sites.Best). b.answer) site.items

abbrev pub site_status : sites.Site → Status
site_status site = status_by (list_any is_open (best_answers site)) (list_any is_unused (best_answers site))

abbrev pub text_of_site : Mode → List ℕ → Seen → List ℕ
text_of_site SitePrune sheet seen = pruned sheet (inputs_of seen.last).sheet (map is_unused (best_answers seen.site))
text_of_site _ sheet seen = site_report sheet (inputs_of seen.last).names (all_places seen) (inputs_of seen.last).sheet seen.site

-- The result of writing the mode's text for all pages.
abbrev pub Finished : Mode → List ℕ → Seen → Put → Result Status Stop → Type 0
Finished m sheet seen out (Ok s) = Adds out.held out.held' (text_of_site m sheet seen) × (s ≡ site_status seen.site)
Finished m sheet seen out (Err e) = (f : ReportFault) × (e ≡ stop_of f) × AddsPrefix out.held out.held' (text_of_site m sheet seen) × (f ≡ report_fault.Write → Rose out.faults out.faults')

-- A run that comes with a report has written what it means.
use Rattle.std.proofs.Common.{◌≡◌, ℕ, ◌+◌, true, List, [], ◌∷◌, Option, Some, Result, Ok, Err, OnOk, refl, sym, ◌∙◌, subst, inl, inr}
use Rattle.tp_io.specs.Files.{Load}
use Rattle.tp_io.specs.Sinks.{Adds}
use Rattle.limits.specs.declared.budgets.Limits.{Limits}
use Rattle.command_words.specs.declared.words.Mode.{Mode}
use Rattle.command_words.specs.declared.words.Mode.TheVariants.{Report, Prune, Dead, Runs, Site, SitePrune}
use Rattle.command_words.specs.Orders.{takes_pages}
use Rattle.run_ends.specs.declared.status.Status.{Status}
use Rattle.run_ends.specs.declared.status.Status.TheVariants as status
use Rattle.run_ends.specs.declared.stops.Stop.{Stop}
use Rattle.run_ends.specs.declared.stops.Stop.TheVariants as stop
use Rattle.run_ends.specs.Stops.{status_of_stop}
use Rattle.run_ends.specs.Tells.{Put, Says, Tells}
use Rattle.treeped_app.specs.Inputs.{AllLoaded}
use Rattle.treeped_app.specs.Meaning.{ArePages, MeansFrom, MeansPage, MeansPages, MeansRing, Reports}
use Rattle.treeped_app.specs.MeansParts.{Writes, WritesOf}
use Rattle.treeped_app.specs.Modes.{Said, text_of}
use Rattle.treeped_app.specs.Readings.{Told, Texts, ring_texts}
use Rattle.treeped_app.specs.Runs.{Run, Ends, AreSaid, IsWhole}
use Rattle.treeped_app.specs.Tasks.{Names, one, several, ring, only_visit, visits_from, Task, task_by, command}
use Rattle.treeped_app.proofs.PageMeanings.{pages_of, site_means, site_pruned_means}

-- ---- one page, or a ring

pub page_from : {T E : Type 0} (r : Result T E) (told : Told) (n : Names) (m : Mode) (x : Texts) (held held' : Option (List ℕ)) (start end : List Load) → AllLoaded told (only_visit n).wanted start end (Ok (x.page ∷ x.sheet ∷ x.script ∷ []))
    → OnOk r (WritesOf m x held held' (MeansPage m x)) → OnOk r (Writes held held' (MeansFrom told (one n) m))
page_from (Ok s) told n m x held held' start end loaded (i, read, writes) =
    (writes.0, writes.1, ((x, i), record { held = record { page = loaded.1.0; sheet = loaded.1.2.0; script = loaded.1.2.2.0 }; read = read }, writes.2))
page_from (Err e) told n m x held held' start end loaded writes = tt

pub ring_from : {T E : Type 0} (r : Result T E) (told : Told) (k : ℕ) (m : Mode) (held held' : Option (List ℕ)) → OnOk r (WritesOf m (ring_texts k) held held' (MeansRing k)) → OnOk r (Writes held held' (MeansFrom told (ring k) m))
ring_from (Ok s) told k m held held' (i, read, writes) = (writes.0, writes.1, (i, read, writes.2))
ring_from (Err e) told k m held held' writes = tt

-- ---- several pages

module _ (told : Told) (t : Task) where
  pages_read : (sheet : List ℕ) (k : ℕ) (pairs : List (List ℕ × List ℕ)) (said : List Said) → AreSaid told t (visits_from k sheet pairs) said → ArePages told t.mode sheet k pairs (pages_of said)
  pages_read sheet k [] [] are = tt
  pages_read sheet k [] (s ∷ said) are = absurd are
  pages_read sheet k ((page, script) ∷ pairs) [] are = absurd are
  pages_read sheet k ((page, script) ∷ pairs) (s ∷ said) are = (record { held = are.0.texts.from; read = are.0.read }, pages_read sheet (k + 1) pairs said are.1)

module _ (r : Run) (sheet : List ℕ) (pair : List ℕ × List ℕ) (pairs : List (List ℕ × List ℕ)) (limits : Limits) where
  abbrev order : Mode → Task
  order m = task_by (several sheet (pair ∷ pairs)) m limits

  text_means : (m : Mode) (s : Said) (said : List Said) → takes_pages m ≡ true → IsWhole r (order m) (s ∷ said) → MeansPages m (pages_of (s ∷ said)) (text_of (order m) (s ∷ said))
  text_means Report s said takes whole = cc
  text_means Prune s said takes whole = cc
  text_means Dead s said takes whole = cc
  text_means Runs s said takes whole = cc
  text_means Site s said takes whole = site_means r (order Site) (s ∷ said) whole s said refl
  text_means SitePrune s said takes whole = site_pruned_means r (order SitePrune) (s ∷ said) whole s said refl

  all_mean : (m : Mode) (said : List Said) → takes_pages m ≡ true → IsWhole r (order m) said → MeansFrom r.told (several sheet (pair ∷ pairs)) m (text_of (order m) said)
  all_mean m [] takes whole = absurd whole.all
  all_mean m (s ∷ said) takes whole = (
    pages_of (s ∷ said),
    (record { held = whole.all.0.texts.from; read = whole.all.0.read }, pages_read r.told (order m) sheet 2 pairs said whole.all.1),
    text_means m s said takes whole,
  )

  pub site_from : (m : Mode) (result : Result Status Stop) → takes_pages m ≡ true → command r.words ≡ Some (order m) → Ends r result → OnOk result (Writes r.out.held r.out.held' (MeansFrom r.told (several sheet (pair ∷ pairs)) m))
  site_from m (Ok s) takes task ends =
      let was : Some ends.0 ≡ Some (order m) = sym ends.2.task ∙ task in
      let same : ends.0 ≡ order m = cc in
      let all = subst (λ (t : Task). IsWhole r t ends.1 × Adds r.out.held r.out.held' (text_of t ends.1)) same (ends.2, ends.3) in
      (text_of (order m) ends.1, all.1, all_mean m ends.1 takes all.0)
  site_from m (Err e) takes task ends = tt

-- ---- no status of a report is that of a stop

differ : (e s : Status) → (e ≡ status.Complete → ⊥) → (e ≡ status.Unused → ⊥) → (e ≡ status.Budget → ⊥) → s ≡ e → Reports s → ⊥
differ e s a b c is (inl d) = a (sym is ∙ d)
differ e s a b c is (inr (inl d)) = b (sym is ∙ d)
differ e s a b c is (inr (inr d)) = c (sym is ∙ d)

no_report : (stop : Stop) (s : Status) → s ≡ status_of_stop stop → Reports s → ⊥
no_report stop.Words s is = differ status.Words s (λ x. cc) (λ x. cc) (λ x. cc) is
no_report (stop.TooLarge part) s is = differ status.Refused s (λ x. cc) (λ x. cc) (λ x. cc) is
no_report (stop.ReadFault part) s is = differ status.ReadFault s (λ x. cc) (λ x. cc) (λ x. cc) is
no_report (stop.Unread refusal) s is = differ status.Refused s (λ x. cc) (λ x. cc) (λ x. cc) is
no_report (stop.Judging refusal) s is = differ status.Refused s (λ x. cc) (λ x. cc) (λ x. cc) is
no_report stop.WriteFault s is = differ status.WriteFault s (λ x. cc) (λ x. cc) (λ x. cc) is
no_report stop.NoMemory s is = differ status.NoMemory s (λ x. cc) (λ x. cc) (λ x. cc) is

module _ (err : Put) (s : Status) where
  none_beside : (why : Stop) → Says why err s → Reports s → ⊥
  none_beside why (inl whole) = no_report why s whole.0
  none_beside why (inr (inl fault)) = no_report stop.WriteFault s fault.1.2.0
  none_beside why (inr (inr short)) = no_report stop.NoMemory s short.2.0

  pub none_reported : (why : Stop) → Tells why err s → Reports s → ⊥
  none_reported stop.Words tells = none_beside stop.Words tells
  none_reported (stop.TooLarge part) tells = none_beside (stop.TooLarge part) tells
  none_reported (stop.ReadFault part) tells = none_beside (stop.ReadFault part) tells
  none_reported (stop.Unread refusal) tells = none_beside (stop.Unread refusal) tells
  none_reported (stop.Judging refusal) tells = none_beside (stop.Judging refusal) tells
  none_reported stop.WriteFault tells = no_report stop.WriteFault s tells.0
  none_reported stop.NoMemory tells = no_report stop.NoMemory s tells.0

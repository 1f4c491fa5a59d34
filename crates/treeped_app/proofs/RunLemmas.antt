-- From the parts of a run to its end.
use Rattle.std.proofs.Common.{◌≡◌, ◌||◌, ℕ, Bool, false, if◌then◌else◌, List, [], ◌∷◌, ◌++◌, length, take, Some, None, Result, Ok, Err, refl, sym, ap, ◌∙◌, subst, inl, inr, append_assoc, append-nil}
use Rattle.std.specs.List.{list_any}
use Rattle.std.proofs.Math.Seq.{take-append_seam}
use Rattle.tp_base.proofs.Lists.{Contains-only}
use Rattle.tp_io.specs.Files.{Load}
use Rattle.tp_io.specs.Sinks.{Adds, AddsPrefix, Rose}
use Rattle.limits.specs.declared.budgets.Limits.{Limits}
use Rattle.command_words.specs.declared.words.Mode.{Mode}
use Rattle.command_words.specs.Orders.{takes_pages}
use Rattle.dead_script.specs.Verdicts as dead
use Rattle.usage_report.specs.Answers.{Answer}
use Rattle.usage_report.specs.declared.faults.ReportFault.{ReportFault}
use Rattle.usage_report.specs.declared.faults.ReportFault.TheVariants as report_fault
use Rattle.run_ends.specs.declared.status.Status.{Status}
use Rattle.run_ends.specs.declared.stops.Stop.{Stop}
use Rattle.run_ends.specs.declared.stops.Stop.TheVariants.{Words, TooLarge, ReadFault, Unread, Judging, WriteFault, NoMemory}
use Rattle.run_ends.specs.Stops.{stop_of}
use Rattle.usage_report.specs.Summary.{summary}
use Rattle.treeped_app.specs.Modes.{Texts, Said, text_on, text_of, of_last, site_by, best_in, verdicts_in, is_open, is_unused, status_by, status_on, status_of}
use Rattle.treeped_app.specs.Tasks.{Names, Source, one, ring, Wanted, Visit, visits, only_visit, loads_of, all_loads, succeeded, failed, Task, task_by, command}
use Rattle.run_ends.specs.Tells.{Put}
use Rattle.treeped_app.specs.Runs.{Told, Run, run_of, Ends, Fit, AreTexts, AreSaid, IsWhole, IsAt, IsLast, IsLoaded, ring_texts}
use Rattle.treeped_app.specs.Inputs.{AllLoaded, IsLastOf, IsSaidOf, IsSaying, Written}

-- ---- loads

pub all_joined : (vs ws : List Visit) → all_loads (vs ++ ws) ≡ all_loads vs ++ all_loads ws
all_joined [] ws = refl
all_joined (v ∷ vs) ws = ap (λ z. loads_of v.wanted ++ z) (all_joined vs ws) ∙ sym (append_assoc (loads_of v.wanted) (all_loads vs) (all_loads ws))

-- loads that begin a list of loads are some of them, from the first on
begun : (all start end front behind : List Load) → all ≡ front ++ behind → end ≡ start ++ front → (count : ℕ) × (end ≡ start ++ take count all)
begun all start end front behind parts loads = (length front, loads ∙ ap (λ z. start ++ z) (sym (take-append_seam front behind) ∙ ap (take (length front)) (sym parts)))

-- ---- the run stops at a visit, after some others

module _ (told : Told) (words : List (List ℕ)) (start end : List Load) (out : Put) (s : Source) (m : Mode) (limits : Limits) (task : command words ≡ Some (task_by s m limits)) (silent : out.held' ≡ out.held) where
  abbrev r : Run
  r = run_of told words start end out

  abbrev t : Task
  t = task_by s m limits

  module _ (done : List Visit) (v : Visit) (later : List Visit) (order : visits s ≡ done ++ v ∷ later) (said : List Said) (all : AreSaid told t done said) where
    at : IsAt r t done v
    at = record { task = task; later = later; order = order; said = said; all = all }

    last_of : (w : Wanted) (last : Load) → IsLastOf told v.wanted w (start ++ all_loads done) end last → IsLast r done v w last
    last_of w last is = record { before = is.before; after = is.after; order = is.order; loads = is.loads; fit = is.fit }

    parts : all_loads (visits s) ≡ all_loads done ++ (loads_of v.wanted ++ all_loads later)
    parts = ap all_loads order ∙ all_joined done (v ∷ later)

    some_parts : (front behind : List Load) → loads_of v.wanted ≡ front ++ behind → all_loads (visits s) ≡ (all_loads done ++ front) ++ (behind ++ all_loads later)
    some_parts front behind is =
        parts ∙ ap (λ z. all_loads done ++ (z ++ all_loads later)) is ∙ ap (λ z. all_loads done ++ z) (append_assoc front behind (all_loads later))
        ∙ sym (append_assoc (all_loads done) front (behind ++ all_loads later))

    no_memory : (front behind : List Load) → loads_of v.wanted ≡ front ++ behind → end ≡ (start ++ all_loads done) ++ front → Ends r (Err NoMemory)
    no_memory front behind is loads =
        let some = begun (all_loads (visits s)) start end (all_loads done ++ front) (behind ++ all_loads later) (some_parts front behind is) (loads ∙ append_assoc start (all_loads done) front) in
        inr (inl (t, some.0, task, some.1, silent))

    -- at a load
    pub load_stops : (e : Stop) → AllLoaded told v.wanted (start ++ all_loads done) end (Err e) → Ends r (Err e)
    load_stops Words is = absurd is
    load_stops (TooLarge p) (w, part, last, exceeds) = (t, done, v, w, at, last_of w (succeeded w.name) last, part, exceeds, silent)
    load_stops (ReadFault p) (w, part, last) = (t, done, v, w, at, last_of w (failed w.name) last, part, silent)
    load_stops (Unread refusal) is = absurd is
    load_stops (Judging f) is = absurd is
    load_stops WriteFault is = absurd is
    load_stops NoMemory some = no_memory some.front some.behind some.order some.loads

    loaded_at : (x : Texts) → end ≡ (start ++ all_loads done) ++ loads_of v.wanted → AreTexts told v x → IsLoaded r done v x
    loaded_at x loads texts = record {
      loads = loads ∙ append_assoc start (all_loads done) (loads_of v.wanted) ∙ ap (λ z. start ++ z) (ap (λ z. all_loads done ++ z) (sym (append-nil (loads_of v.wanted))) ∙ sym (all_joined done (v ∷ [])));
      texts = texts;
    }

    -- at reading or judging
    pub say_stops : (x : Texts) (e : Stop) → end ≡ (start ++ all_loads done) ++ loads_of v.wanted → AreTexts told v x → IsSaying m limits v.number x (Err e) → Ends r (Err e)
    say_stops x Words loads texts is = absurd is
    say_stops x (TooLarge p) loads texts is = absurd is
    say_stops x (ReadFault p) loads texts is = absurd is
    say_stops x (Unread refusal) loads texts is = (t, done, v, x, at, loaded_at x loads texts, is, silent)
    say_stops x (Judging f) loads texts is = (t, done, v, x, is.0, at, loaded_at x loads texts, is.1, is.2, silent)
    say_stops x WriteFault loads texts is = absurd is
    say_stops x NoMemory loads texts is = no_memory (loads_of v.wanted) [] (sym (append-nil (loads_of v.wanted))) loads

-- ---- what is not written whole

pub not_whole : (r : Run) (t : Task) (said : List Said) (e : ReportFault) → IsWhole r t said → AddsPrefix r.out.held r.out.held' (text_of t said) → (e ≡ report_fault.Write → Rose r.out.faults r.out.faults') → Ends r (Err (stop_of e))
not_whole r t said report_fault.Write whole prefix rose = (t, said, whole, prefix, rose refl)
not_whole r t said report_fault.Memory whole prefix rose = inr (inr (t, said, whole, prefix))

-- ---- one page

-- a source with one visit
module _ (told : Told) (words : List (List ℕ)) (start end : List Load) (out : Put) (s : Source) (m : Mode) (limits : Limits) (task : command words ≡ Some (task_by s m limits)) where
  abbrev r' : Run
  r' = run_of told words start end out

  abbrev t' : Task
  t' = task_by s m limits

  module _ (v : Visit) (only : visits s ≡ v ∷ []) (number : v.number ≡ None) (x : Texts) (texts : AreTexts told v x) (loads : end ≡ start ++ loads_of v.wanted) (text : Said → List ℕ)
      (text_is : (u : Said) → text_of t' (u ∷ []) ≡ text u) (status_is : (u : Said) → status_of t' (u ∷ []) ≡ status_on m u) where
    whole : (u : Said) → u.texts ≡ x → IsSaidOf m limits None u → IsWhole r' t' (u ∷ [])
    whole u same is = record {
      task = task;
      loads = loads ∙ ap (λ z. start ++ z) (sym (append-nil (loads_of v.wanted)) ∙ ap all_loads (sym only));
      all = subst (λ (vs : List Visit). AreSaid told t' vs (u ∷ [])) (sym only) (
        record { texts = subst (AreTexts told v) (sym same) texts; read = subst (λ k. Rattle.treeped_app.specs.Runs.read_inputs m k u.texts ≡ Ok u.inputs) (sym number) is.read; answers = is.answers; traces = is.traces },
        tt,
      );
      one_sheet = λ a b there there'. ap (λ (z : Said). z.texts.sheet) (sym (Contains-only u a there) ∙ Contains-only u b there');
    }

    no_start : start ≡ start ++ all_loads []
    no_start = sym (append-nil start)

    loads_from : end ≡ (start ++ all_loads []) ++ loads_of v.wanted
    loads_from = loads ∙ ap (λ z. z ++ loads_of v.wanted) no_start

    stops : (e : Stop) → out.held' ≡ out.held → IsSaying m limits None x (Err e) → Ends r' (Err e)
    stops e silent is =
        say_stops told words start end out s m limits task silent [] v [] only [] tt x e loads_from texts (subst (λ k. IsSaying m limits k x (Err e)) (sym number) is)

    pub written_ends : (result : Result Status Stop) → Written m limits x text out result → Ends r' result
    written_ends (Ok st) (u, same, is, adds, status) = (t', u ∷ [], whole u same is, subst (Adds out.held out.held') (sym (text_is u)) adds, status ∙ sym (status_is u))
    written_ends (Err Words) is = absurd is
    written_ends (Err (TooLarge p)) is = absurd is
    written_ends (Err (ReadFault p)) is = absurd is
    written_ends (Err (Unread refusal)) is = stops (Unread refusal) is.1 is.0
    written_ends (Err (Judging f)) is = stops (Judging f) is.3 (is.0, is.1, is.2)
    written_ends (Err WriteFault) (u, same, is, prefix, rose) = (t', u ∷ [], whole u same is, subst (AddsPrefix out.held out.held') (sym (text_is u)) prefix, rose)
    written_ends (Err NoMemory) (inl silent) = stops NoMemory silent tt
    written_ends (Err NoMemory) (inr (u, same, is, prefix)) = inr (inr (t', u ∷ [], whole u same is, subst (AddsPrefix out.held out.held') (sym (text_is u)) prefix))

-- what is written of one page, and its status
page_text : (n : Names) (m : Mode) (limits : Limits) → takes_pages m ≡ false → (u : Said) → text_of (task_by (one n) m limits) (u ∷ []) ≡ text_on m u
page_text n m limits one_page u = ap (λ (b : Bool). of_last (if b then site_by m (u ∷ []) else text_on m) (u ∷ [])) one_page

page_status : (s : Source) (m : Mode) (limits : Limits) → takes_pages m ≡ false → (u : Said) → status_of (task_by s m limits) (u ∷ []) ≡ status_on m u
page_status s m limits one_page u =
    ap (λ (b : Bool). let lines : List Answer = if b then best_in (u ∷ []) else u.items in
    status_by (list_any is_open lines || list_any dead.is_open (verdicts_in m (u ∷ []))) (list_any is_unused lines || list_any dead.is_dead (verdicts_in m (u ∷ [])))) one_page

pub page_ends : (told : Told) (words : List (List ℕ)) (start end : List Load) (out : Put) (n : Names) (m : Mode) (limits : Limits) (x : Texts) (result : Result Status Stop) → takes_pages m ≡ false → command words ≡ Some (task_by (one n) m limits)
    → AllLoaded told (only_visit n).wanted start end (Ok (x.page ∷ x.sheet ∷ x.script ∷ [])) → Written m limits x (text_on m) out result → Ends (run_of told words start end out) result
page_ends told words start end out n m limits x result other task loaded written =
    written_ends told words start end out (one n) m limits task (only_visit n) refl refl x
    (record {
      from = record { page = loaded.1.0; sheet = loaded.1.2.0; script = loaded.1.2.2.0 };
      fit = record { page = loaded.1.1; sheet = loaded.1.2.1; script = loaded.1.2.2.1 };
    }) loaded.0 (text_on m) (page_text n m limits other) (page_status (one n) m limits other) result written

pub page_stops : (told : Told) (words : List (List ℕ)) (start end : List Load) (out : Put) (n : Names) (m : Mode) (limits : Limits) (e : Stop) → out.held' ≡ out.held → command words ≡ Some (task_by (one n) m limits)
    → AllLoaded told (only_visit n).wanted start end (Err e) → Ends (run_of told words start end out) (Err e)
page_stops told words start end out n m limits e silent task loaded =
    load_stops told words start end out (one n) m limits task silent [] (only_visit n) [] refl [] tt e (subst (λ z. AllLoaded told (only_visit n).wanted z end (Err e)) (sym (append-nil start)) loaded)

pub ring_ends : (told : Told) (words : List (List ℕ)) (loads : List Load) (out : Put) (k : ℕ) (m : Mode) (limits : Limits) (x : Texts) (result : Result Status Stop) → takes_pages m ≡ false → command words ≡ Some (task_by (ring k) m limits)
    → x ≡ ring_texts k → Fit x → Written m limits x (λ u. summary k u.items) out result → Ends (run_of told words loads loads out) result
ring_ends told words loads out k m limits x result other task from fit written =
    written_ends told words loads loads out (ring k) m limits task _ refl refl x (record { from = from; fit = fit }) (sym (append-nil loads)) (λ u. summary k u.items) (λ u. refl) (page_status (ring k) m limits other) result written

-- ---- judging and writing on one page

module _ (m : Mode) (limits : Limits) (x : Texts) (text : Said → List ℕ) (out : Put) where
  pub unsaid : (e : Stop) → out.held' ≡ out.held → IsSaying m limits None x (Err e) → Written m limits x text out (Err e)
  unsaid Words silent is = absurd is
  unsaid (TooLarge p) silent is = absurd is
  unsaid (ReadFault p) silent is = absurd is
  unsaid (Unread refusal) silent is = (is, silent)
  unsaid (Judging f) silent is = (is.0, is.1, is.2, silent)
  unsaid WriteFault silent is = absurd is
  unsaid NoMemory silent is = inl silent

  pub not_written : (u : Said) (e : ReportFault) → u.texts ≡ x → IsSaidOf m limits None u → AddsPrefix out.held out.held' (text u) → (e ≡ report_fault.Write → Rose out.faults out.faults') → Written m limits x text out (Err (stop_of e))
  not_written u report_fault.Write same is prefix rose = (u, same, is, prefix, rose refl)
  not_written u report_fault.Memory same is prefix rose = inr (u, same, is, prefix)

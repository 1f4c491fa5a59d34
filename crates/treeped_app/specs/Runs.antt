-- The ends of a run of the command, with their causes.
--     IsSaid told t v s          a visit was loaded and read, and its results are right
--     IsWhole r t said           all visits were loaded and read, and their results are right
--     IsAt r t .. v              the same for the visits before this one
--     Ends r end                 the end of the run: the mode's text with its status, or the reason why there is none
use Rattle.std.specs.Prelude.{◌≡◌, ◌⊎◌, ℕ, ◌<◌, ◌≤◌, List, [], ◌∷◌, ◌++◌, length, take, All, Contains, Some, None, IfSome, Result, Ok, Err}
use Rattle.tp_io.specs.Files.{Load}
use Rattle.tp_io.specs.Sinks.{Adds, AddsPrefix, Rose}
use Rattle.tp_base.specs.declared.places.TheConstants.{MOST_BYTES}
use Rattle.run_ends.specs.declared.status.Status.{Status}
use Rattle.run_ends.specs.declared.refusals.JudgeRefusal.{JudgeRefusal}
use Rattle.run_ends.specs.declared.refusals.JudgeRefusal.TheVariants as refused
use Rattle.run_ends.specs.declared.stops.Stop.{Stop}
use Rattle.run_ends.specs.declared.stops.Stop.TheVariants.{Words, TooLarge, ReadFault, Unread, Judging, WriteFault, NoMemory}
use Rattle.tp_base.specs.Names.{Named}
use Rattle.css_read.specs.Reading.{read_sheet}
use Rattle.css_read.specs.Sheets.{Sheet}
use Rattle.guard_simplify.specs.declared.simplified.SimplifyFault.{SimplifyFault}
use Rattle.guard_simplify.specs.declared.simplified.SimplifyFault.TheVariants as fault
use Rattle.judge.specs.Outcomes.{IsFault, IsWithin}
use Rattle.command_words.specs.declared.words.Mode.{Mode}
use Rattle.treeped_app.specs.Modes.{Texts, Inputs, Said, extra_in, AreAnswersOf, HasTraces, text_of, status_of}
use Rattle.run_ends.specs.Tells.{Put}
use Rattle.treeped_app.specs.Readings.{AreFrom}
pub use Rattle.treeped_app.specs.Readings.{◌>>=◌, read_as, plainly, statements_in, read_script_as, read_inputs, Told, Holds, Fit, AreHeld, ring_texts, AreFrom}
use Rattle.treeped_app.specs.Tasks.{Wanted, Visit, visits, succeeded, failed, loads_of, all_loads, Task, command}

-- ---- reading

-- the sheet was read from this text, with any names before
abbrev pub IsSheetOf : List ℕ → Sheet → Type 0
IsSheetOf text sheet = (names : List Named) × (later : List Named) × (read_sheet text names ≡ (later, Ok sheet))

-- ---- loading

-- a name's text is within the limit on bytes, or past it, where its bytes are told
abbrev pub Fits : Told → List ℕ → Type 0
Fits told name = IfSome (told name) (λ bytes. length bytes ≤ MOST_BYTES)

abbrev pub Exceeds : Told → List ℕ → Type 0
Exceeds told name = IfSome (told name) (λ bytes. MOST_BYTES < length bytes)

-- the visit's files hold these texts, and none is past the limit on bytes
pub record AreTexts (told : Told) (v : Visit) (x : Texts) : Type 0 where
  pub from : AreFrom told v.origin x
  pub fit : Fit x

-- ---- judging

abbrev pub fault_of : JudgeRefusal → SimplifyFault
fault_of refused.TooManyAtoms = fault.TooManyAtoms
fault_of refused.TooManyVisible = fault.TooManyVisible

-- there are no answers for this reason: the system is past one of its limits
abbrev pub IsRefusedBy : Mode → Inputs → JudgeRefusal → Type 0
IsRefusedBy m i f = IsFault i.stmts i.sheet.items (extra_in m i) (length i.names) (fault_of f)

-- there are answers
abbrev pub IsJudgeable : Mode → Inputs → Type 0
IsJudgeable m i = IsWithin i.stmts i.sheet.items (extra_in m i) (length i.names)

-- the visit's texts were loaded and read, and the results for them are right
pub record IsSaid (told : Told) (t : Task) (v : Visit) (s : Said) : Type 0 where
  pub texts : AreTexts told v s.texts
  pub read : read_inputs t.mode v.number s.texts ≡ Ok s.inputs
  pub answers : AreAnswersOf t.mode t.limits s.inputs s.items s.others
  pub traces : HasTraces t.mode s

abbrev pub AreSaid : Told → Task → List Visit → List Said → Type 0
AreSaid told t [] [] = Unit {0}
AreSaid told t [] (s ∷ said) = ⊥
AreSaid told t (v ∷ vs) [] = ⊥
AreSaid told t (v ∷ vs) (s ∷ said) = IsSaid told t v s × AreSaid told t vs said

-- ---- the end of a run

-- The observable parts of a run: the told bytes of the named files, the words, the loads before and after, and the sink of
-- the report.
pub record Run : Type 0 where
  pub told : Told
  pub words : List (List ℕ)
  pub loads : List Load
  pub loads' : List Load
  pub out : Put

abbrev pub run_of : Told → List (List ℕ) → List Load → List Load → Put → Run
run_of told words loads loads' out = record { told = told; words = words; loads = loads; loads' = loads'; out = out }

-- the words order this task, and every visit was loaded, read and judged, with one sheet for all
pub record IsWhole (r : Run) (t : Task) (said : List Said) : Type 0 where
  pub task : command r.words ≡ Some t
  pub loads : r.loads' ≡ r.loads ++ all_loads (visits t.source)
  pub all : AreSaid r.told t (visits t.source) said
  pub one_sheet : (a b : Said) → Contains said a → Contains said b → a.texts.sheet ≡ b.texts.sheet

-- the words order this task, and the visits before this one were loaded, read and judged
pub record IsAt (r : Run) (t : Task) (done : List Visit) (v : Visit) : Type 0 where
  pub task : command r.words ≡ Some t
  pub later : List Visit
  pub order : visits t.source ≡ done ++ v ∷ later
  pub said : List Said
  pub all : AreSaid r.told t done said

-- The load of this file of the visit was the last. The files before it were within the limit on bytes.
pub record IsLast (r : Run) (done : List Visit) (v : Visit) (w : Wanted) (last : Load) : Type 0 where
  pub before : List Wanted
  pub after : List Wanted
  pub order : v.wanted ≡ before ++ w ∷ after
  pub loads : r.loads' ≡ r.loads ++ all_loads done ++ loads_of before ++ last ∷ []
  pub fit : All (λ (b : Wanted). Fits r.told b.name) before

-- the visit's texts were loaded
pub record IsLoaded (r : Run) (done : List Visit) (v : Visit) (x : Texts) : Type 0 where
  pub loads : r.loads' ≡ r.loads ++ all_loads (done ++ v ∷ [])
  pub texts : AreTexts r.told v x

-- nothing was written
abbrev pub IsSilent : Run → Type 0
IsSilent r = r.out.held' ≡ r.out.held

-- The text is written, with its status. Or the words order no task, a file is too large, can't be loaded or can't be read, or the
-- judging is refused. Or the sink failed, or there was no memory.
abbrev pub Ends : Run → Result Status Stop → Type 0
Ends r (Ok s) = (t : Task) × (said : List Said) × IsWhole r t said × Adds r.out.held r.out.held' (text_of t said) × (s ≡ status_of t said)
Ends r (Err Words) = (command r.words ≡ None) × (r.loads' ≡ r.loads) × IsSilent r
Ends r (Err (TooLarge p)) = (t : Task) × (done : List Visit) × (v : Visit) × (w : Wanted) × IsAt r t done v × IsLast r done v w (succeeded w.name) × (w.part ≡ p) × Exceeds r.told w.name × IsSilent r
Ends r (Err (ReadFault p)) = (t : Task) × (done : List Visit) × (v : Visit) × (w : Wanted) × IsAt r t done v × IsLast r done v w (failed w.name) × (w.part ≡ p) × IsSilent r
Ends r (Err (Unread refusal)) = (t : Task) × (done : List Visit) × (v : Visit) × (x : Texts) × IsAt r t done v × IsLoaded r done v x × (read_inputs t.mode v.number x ≡ Err (Unread refusal)) × IsSilent r
Ends r (Err (Judging f)) =
    (t : Task) × (done : List Visit) × (v : Visit) × (x : Texts) × (i : Inputs) × IsAt r t done v × IsLoaded r done v x × (read_inputs t.mode v.number x ≡ Ok i) × IsRefusedBy t.mode i f × IsSilent r
Ends r (Err WriteFault) = (t : Task) × (said : List Said) × IsWhole r t said × AddsPrefix r.out.held r.out.held' (text_of t said) × Rose r.out.faults r.out.faults'
Ends r (Err NoMemory) =
    ((r.loads' ≡ r.loads) × IsSilent r)
    ⊎ ((t : Task) × (count : ℕ) × (command r.words ≡ Some t) × (r.loads' ≡ r.loads ++ take count (all_loads (visits t.source))) × IsSilent r)
    ⊎ ((t : Task) × (said : List Said) × IsWhole r t said × AddsPrefix r.out.held r.out.held' (text_of t said))

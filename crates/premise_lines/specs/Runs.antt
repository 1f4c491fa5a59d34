-- What a run of the command comes to.
--     OneLoaded ..      what loading a file comes to
--     Finds ..          what two texts come to: what is found in them, or why they aren't read
--     Reads ..          the same from loading on
--     Ordered ..        the same by the words
--     WritesWith ..     what writing comes to
--     IsRun ..          all of it, with what is said
use Rattle.std.specs.Prelude.{◌≡◌, ◌⊎◌, ℕ, ◌<◌, ◌≤◌, ◌==◌, true, false, if◌then◌else◌, List, [], ◌∷◌, ◌++◌, length, Option, Some, None, IfSome, Result, Ok, Err, Vec}
use Rattle.std.specs.Str.Lossy.{utf8_valid_len}
use Rattle.std.specs.declared.alloc.Global.{Global}
use Rattle.tp_base.specs.Places.{place_at}
use Rattle.tp_base.specs.declared.places.TheConstants.{MOST_BYTES}
use Rattle.tp_io.specs.Files.{Load}
use Rattle.tp_io.specs.Sinks.{Adds, AddsPrefix, Rose}
use Rattle.premise_finds.specs.declared.findings.Finding.{Finding}
use Rattle.premise_finds.specs.declared.names.Name.{Name}
use Rattle.premise_lines.specs.declared.stops.Part.{Part}
use Rattle.premise_lines.specs.declared.stops.Part.TheVariants.{Page, Sheet}
use Rattle.premise_lines.specs.declared.stops.Status.{Status}
use Rattle.premise_lines.specs.declared.stops.Status.TheVariants as status
use Rattle.premise_lines.specs.declared.stops.Stop.{Stop}
use Rattle.premise_lines.specs.declared.stops.Stop.TheVariants.{Words, TooLarge, ReadFault, NotUtf8, WriteFault, NoMemory}
use Rattle.premise_lines.specs.declared.words.Order.{Order}
use Rattle.premise_lines.specs.declared.report.Report.{Report}
use Rattle.premise_lines.specs.Lines.{AreFound, report_of}
use Rattle.premise_lines.specs.Words.{order_of}
use Rattle.premise_lines.specs.Tells.{Put, Tells}

-- ---- loading

-- the bytes that a name holds, where they are told
abbrev pub Told : Type 0
Told = List ℕ → Option (List ℕ)

abbrev pub load_of : List ℕ → Load
load_of name = record { name = name; failed = false }

abbrev pub failed_load : List ℕ → Load
failed_load name = record { name = name; failed = true }

abbrev pub loaded_text : Result (Vec ℕ Global) Stop → Result (List ℕ) Stop
loaded_text (Ok v) = Ok v.items
loaded_text (Err e) = Err e

-- the file's text; or it has too many bytes, it couldn't be read, or there was no memory for it
abbrev pub OneLoaded : Told → Part → List ℕ → List Load → List Load → Result (List ℕ) Stop → Type 0
OneLoaded told p name before after (Ok text) = (after ≡ before ++ load_of name ∷ []) × IfSome (told name) (λ bytes. text ≡ bytes) × (length text ≤ MOST_BYTES)
OneLoaded told p name before after (Err (TooLarge q)) = (q ≡ p) × (after ≡ before ++ load_of name ∷ []) × IfSome (told name) (λ bytes. MOST_BYTES < length bytes)
OneLoaded told p name before after (Err (ReadFault q)) = (q ≡ p) × (after ≡ before ++ failed_load name ∷ [])
OneLoaded told p name before after (Err NoMemory) = after ≡ before
OneLoaded told p name before after (Err e) = ⊥

-- the page is loaded, and then the sheet
abbrev pub with_page : List ℕ → Result (List ℕ) Stop → Result (List ℕ × List ℕ) Stop
with_page page (Ok sheet) = Ok (page, sheet)
with_page page (Err e) = Err e

abbrev pub ThenLoaded : Told → Order → Result (List ℕ) Stop → List Load → List Load → Result (List ℕ × List ℕ) Stop → Type 0
ThenLoaded told o (Ok page) before after r = (sheet : Result (List ℕ) Stop) × OneLoaded told Sheet o.sheet before after sheet × (r ≡ with_page page sheet)
ThenLoaded told o (Err e) before after r = (r ≡ Err e) × (after ≡ before)

abbrev pub BothLoaded : Told → Order → List Load → List Load → Result (List ℕ × List ℕ) Stop → Type 0
BothLoaded told o before after r = (page : Result (List ℕ) Stop) × (between : List Load) × OneLoaded told Page o.page before between page × ThenLoaded told o page between after r

abbrev pub loaded_texts : Result (Vec ℕ Global × Vec ℕ Global) Stop → Result (List ℕ × List ℕ) Stop
loaded_texts (Ok x) = Ok (x.0.items, x.1.items)
loaded_texts (Err e) = Err e

-- ---- reading

-- why a file isn't read
abbrev pub refusal_of : Part → List ℕ → Option Stop
refusal_of p text = if utf8_valid_len text == length text then None else Some (NotUtf8 p (place_at text (utf8_valid_len text)))

-- the first refusal of two
abbrev pub first_of : Option Stop → Option Stop → Option Stop
first_of None second = second
first_of (Some stop) second = Some stop

abbrev pub refusal_in : List ℕ × List ℕ → Option Stop
refusal_in x = first_of (refusal_of Page x.0) (refusal_of Sheet x.1)

-- what is found in a page and a sheet besides these names
pub record IsFound (names : List Name) (x : List ℕ × List ℕ) (f : Report) : Type 0 where
  pub page : f.page ≡ x.0
  pub sheet : f.sheet ≡ x.1
  pub in_page : AreFound names Page x.0 f.in_page
  pub in_sheet : AreFound names Sheet x.1 f.in_sheet

-- they are read, or refused; memory may run out at any time
abbrev pub Finds : List Name → List ℕ × List ℕ → Result Report Stop → Type 0
Finds names x (Ok f) = (refusal_in x ≡ None) × IsFound names x f
Finds names x (Err NoMemory) = Unit {0}
Finds names x (Err e) = refusal_in x ≡ Some e

abbrev pub FindsLoaded : List Name → Result (List ℕ × List ℕ) Stop → Result Report Stop → Type 0
FindsLoaded names (Ok x) r = Finds names x r
FindsLoaded names (Err e) r = r ≡ Err e

abbrev pub Reads : Told → Order → List Load → List Load → Result Report Stop → Type 0
Reads told o before after r = (loaded : Result (List ℕ × List ℕ) Stop) × BothLoaded told o before after loaded × FindsLoaded o.excepted loaded r

abbrev pub ReadsOrder : Told → Option Order → List Load → List Load → Result Report Stop → Type 0
ReadsOrder told None before after r = (r ≡ Err Words) × (after ≡ before)
ReadsOrder told (Some o) before after r = Reads told o before after r

-- what the words ask for is read, or there was no memory to read them
abbrev pub Ordered : Told → List (List ℕ) → List Load → List Load → Result Report Stop → Type 0
Ordered told words before after r = ReadsOrder told (order_of words) before after r ⊎ ((r ≡ Err NoMemory) × (after ≡ before))

-- ---- writing

-- nothing is written
abbrev pub IsKept : Put → Type 0
IsKept out = out.held' ≡ out.held

-- these bytes are written whole, or, where the sink fails or wants memory, their first ones
abbrev pub Writes : List ℕ → Put → Result (Unit {0}) Stop → Type 0
Writes text out (Ok done) = Adds out.held out.held' text × (out.faults ≤ out.faults')
Writes text out (Err WriteFault) = AddsPrefix out.held out.held' text × Rose out.faults out.faults'
Writes text out (Err NoMemory) = AddsPrefix out.held out.held' text × (out.faults ≤ out.faults')
Writes text out (Err e) = ⊥

-- the same with the status of a whole text
abbrev pub WritesWith : List ℕ → Status → Put → Result Status Stop → Type 0
WritesWith text whole out (Ok s) = (s ≡ whole) × Adds out.held out.held' text
WritesWith text whole out (Err WriteFault) = AddsPrefix out.held out.held' text × Rose out.faults out.faults'
WritesWith text whole out (Err NoMemory) = AddsPrefix out.held out.held' text
WritesWith text whole out (Err e) = ⊥

abbrev pub status_by : List Finding → List Finding → Status
status_by [] [] = status.Clear
status_by _ _ = status.Found

abbrev pub status_of : Report → Status
status_of f = status_by f.in_page f.in_sheet

abbrev pub WritesRead : Result Report Stop → Put → Result Status Stop → Type 0
WritesRead (Ok f) out r = WritesWith (report_of f) (status_of f) out r
WritesRead (Err e) out r = (r ≡ Err e) × IsKept out

-- ---- a run

-- standard error gets nothing where all lines are written
abbrev pub IsSaid : Result Status Stop → Put → Status → Type 0
IsSaid (Ok written) err s = (s ≡ written) × IsKept err
IsSaid (Err stop) err s = Tells stop err s

pub record IsRun (told : Told) (words : List (List ℕ)) (before after : List Load) (out err : Put) (s : Status) : Type 0 where
  pub report : Result Report Stop
  pub ordered : Ordered told words before after report
  pub answer : Result Status Stop
  pub written : WritesRead report out answer
  pub said : IsSaid answer err s

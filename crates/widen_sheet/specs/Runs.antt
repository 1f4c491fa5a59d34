-- What a run of the command comes to.
--     OneLoaded ..    what loading the sheet comes to
--     Answers ..      what is written of its text, or why nothing is
--     Ordered ..      the same by the words
--     IsRun ..        and what is said of it
use Rattle.std.specs.Prelude.{◌≡◌, ◌⊎◌, ℕ, ◌<◌, ◌≤◌, true, false, List, [], ◌∷◌, ◌++◌, length, Option, Some, None, IfSome, Result, Ok, Err, Vec}
use Rattle.std.specs.declared.alloc.Global.{Global}
use Rattle.tp_base.specs.declared.places.TheConstants.{MOST_BYTES}
use Rattle.tp_io.specs.Files.{Load}
use Rattle.tp_io.specs.Sinks.{Adds, AddsPrefix, Rose}
use Rattle.widen_sheet.specs.declared.stops.Status.{Status}
use Rattle.widen_sheet.specs.declared.stops.Stop.{Stop}
use Rattle.widen_sheet.specs.declared.stops.Stop.TheVariants.{Words, TooLarge, ReadFault, WriteFault, NoMemory}
use Rattle.widen_sheet.specs.declared.words.Way.{Way}
use Rattle.widen_sheet.specs.Command.{answer_of, status_by}
use Rattle.widen_sheet.specs.Tells.{Put, Tells}
use Rattle.widen_sheet.specs.Words.{order_of}

-- the bytes that a name holds, where they are told
abbrev pub Told : Type 0
Told = List ℕ → Option (List ℕ)

abbrev pub load_of : List ℕ → Load
load_of name = record { name = name; failed = false }

abbrev pub failed_load : List ℕ → Load
failed_load name = record { name = name; failed = true }

abbrev pub loaded_text : Result (Vec ℕ Global) Stop → Result (List ℕ) Stop
loaded_text (Ok v) = Ok v.items
loaded_text (Err e) = Err e

-- the file's text; or it has too many bytes, it couldn't be read, or there was no memory for it
abbrev pub OneLoaded : Told → List ℕ → List Load → List Load → Result (List ℕ) Stop → Type 0
OneLoaded told name before after (Ok text) = (after ≡ before ++ load_of name ∷ []) × IfSome (told name) (λ bytes. text ≡ bytes) × (length text ≤ MOST_BYTES)
OneLoaded told name before after (Err TooLarge) = (after ≡ before ++ load_of name ∷ []) × IfSome (told name) (λ bytes. MOST_BYTES < length bytes)
OneLoaded told name before after (Err ReadFault) = after ≡ before ++ failed_load name ∷ []
OneLoaded told name before after (Err NoMemory) = after ≡ before
OneLoaded told name before after (Err e) = ⊥

-- nothing is written
abbrev pub IsKept : Put → Type 0
IsKept out = out.held' ≡ out.held

-- these bytes of a text are written whole, or, where the sink fails or wants memory, their first ones
abbrev pub Writes : List ℕ → List ℕ → Put → Result Status Stop → Type 0
Writes text written out (Ok s) = (s ≡ status_by text written) × Adds out.held out.held' written
Writes text written out (Err WriteFault) = Rose out.faults out.faults' × AddsPrefix out.held out.held' written
Writes text written out (Err NoMemory) = AddsPrefix out.held out.held' written
Writes text written out (Err e) = ⊥

abbrev pub WritesAnswer : List ℕ → Result (List ℕ) Stop → Put → Result Status Stop → Type 0
WritesAnswer text (Ok written) out r = Writes text written out r
WritesAnswer text (Err e) out r = (r ≡ Err e) × IsKept out

-- what is to be written of a text is, or there was no memory for it
abbrev pub Answers : Way → List ℕ → Put → Result Status Stop → Type 0
Answers way text out r = WritesAnswer text (answer_of way text) out r ⊎ ((r ≡ Err NoMemory) × IsKept out)

abbrev pub AnswersLoaded : Way → Result (List ℕ) Stop → Put → Result Status Stop → Type 0
AnswersLoaded way (Ok text) out r = Answers way text out r
AnswersLoaded way (Err e) out r = (r ≡ Err e) × IsKept out

abbrev pub Runs : Told → Way → List ℕ → List Load → List Load → Put → Result Status Stop → Type 0
Runs told way name before after out r = (loaded : Result (List ℕ) Stop) × OneLoaded told name before after loaded × AnswersLoaded way loaded out r

abbrev pub RunsOrder : Told → Option (Way × List ℕ) → List Load → List Load → Put → Result Status Stop → Type 0
RunsOrder told None before after out r = (r ≡ Err Words) × (after ≡ before) × IsKept out
RunsOrder told (Some o) before after out r = Runs told o.0 o.1 before after out r

-- what the words ask for, or there was no memory to read them
abbrev pub Ordered : Told → List (List ℕ) → List Load → List Load → Put → Result Status Stop → Type 0
Ordered told words before after out r = RunsOrder told (order_of words) before after out r ⊎ ((r ≡ Err NoMemory) × (after ≡ before) × IsKept out)

-- standard error gets nothing where the text is written
abbrev pub IsSaid : Result Status Stop → Put → Status → Type 0
IsSaid (Ok written) err s = (s ≡ written) × IsKept err
IsSaid (Err stop) err s = Tells stop err s

pub record IsRun (told : Told) (words : List (List ℕ)) (before after : List Load) (out err : Put) (s : Status) : Type 0 where
  pub answer : Result Status Stop
  pub ordered : Ordered told words before after out answer
  pub said : IsSaid answer err s

-- The results of loading, reading and judging, part by part. No public contract cites this file: each definition is the contract of one
-- inner function, over its answer or its reason to stop. `Runs` puts them together.
--     OneLoaded ..       the result of loading one file
--     AllLoaded ..       the result of loading several files, up to the first that is refused
--     IsRead ..          the result of reading the texts of a page
--     IsSaying ..        the result of reading and judging them
--     Written ..         the result of reading, judging and writing on one page
use Rattle.std.specs.Prelude.{◌≡◌, ◌⊎◌, ℕ, ◌≤◌, List, [], ◌∷◌, ◌++◌, length, All, Option, None, Result, Ok, Err, Vec}
use Rattle.std.specs.declared.alloc.Global.{Global}
use Rattle.tp_base.specs.Names.{Named}
use Rattle.tp_io.specs.Files.{Load}
use Rattle.tp_io.specs.Sinks.{Adds, AddsPrefix, Rose}
use Rattle.tp_base.specs.declared.places.TheConstants.{MOST_BYTES}
use Rattle.limits.specs.declared.budgets.Limits.{Limits}
use Rattle.command_words.specs.declared.words.Mode.{Mode}
use Rattle.guard_simplify.specs.declared.simplified.SimplifyFault.{SimplifyFault}
use Rattle.guard_simplify.specs.declared.simplified.SimplifyFault.TheVariants as judge
use Rattle.judge.specs.Outcomes.{AreGiven}
use Rattle.run_ends.specs.declared.refusals.JudgeRefusal.TheVariants as refused
use Rattle.run_ends.specs.declared.refusals.Part.{Part}
use Rattle.run_ends.specs.declared.status.Status.{Status}
use Rattle.run_ends.specs.declared.stops.Stop.{Stop}
use Rattle.run_ends.specs.declared.stops.Stop.TheVariants.{TooLarge, ReadFault, Unread, Judging, WriteFault, NoMemory}
use Rattle.treeped_app.specs.declared.reading.Inputs.{Inputs}
use Rattle.treeped_app.specs.declared.saying.Said.{Said}
use Rattle.treeped_app.specs.Modes as modes
use Rattle.treeped_app.specs.Tasks.{Wanted, succeeded, failed, loads_of}
use Rattle.run_ends.specs.Tells.{Put}
use Rattle.treeped_app.specs.Runs.{Told, Holds, Fits, Exceeds, IsRefusedBy, read_inputs}
use Rattle.treeped_app.specs.Views.{inputs_of, said_of}

-- ---- loading

abbrev pub loaded_text : Result (Vec ℕ Global) Stop → Result (List ℕ) Stop
loaded_text (Ok v) = Ok v.items
loaded_text (Err e) = Err e

abbrev pub loaded_two : Result (Vec ℕ Global × Vec ℕ Global) Stop → Result (List (List ℕ)) Stop
loaded_two (Ok x) = Ok (x.0.items ∷ x.1.items ∷ [])
loaded_two (Err e) = Err e

abbrev pub loaded_three : Result (Vec ℕ Global × Vec ℕ Global × Vec ℕ Global) Stop → Result (List (List ℕ)) Stop
loaded_three (Ok x) = Ok (x.0.items ∷ x.1.items ∷ x.2.items ∷ [])
loaded_three (Err e) = Err e

-- The result of loading one file, with the list of loads before and after.
abbrev pub OneLoaded : Told → List ℕ → Part → List Load → List Load → Result (List ℕ) Stop → Type 0
OneLoaded told name p before after (Ok text) = (after ≡ before ++ succeeded name ∷ []) × Holds told name text × (length text ≤ MOST_BYTES)
OneLoaded told name p before after (Err (TooLarge q)) = (q ≡ p) × (after ≡ before ++ succeeded name ∷ []) × Exceeds told name
OneLoaded told name p before after (Err (ReadFault q)) = (q ≡ p) × (after ≡ before ++ failed name ∷ [])
OneLoaded told name p before after (Err NoMemory) = after ≡ before
OneLoaded told name p before after (Err e) = ⊥

-- each file holds its text, which is within the limit on bytes
abbrev pub AreHeldBy : Told → List Wanted → List (List ℕ) → Type 0
AreHeldBy told [] [] = Unit {0}
AreHeldBy told (w ∷ ws) (x ∷ xs) = Holds told w.name x × (length x ≤ MOST_BYTES) × AreHeldBy told ws xs
AreHeldBy told [] (x ∷ xs) = ⊥
AreHeldBy told (w ∷ ws) [] = ⊥

-- The load of this file was the last; those before it were within the limit on bytes.
pub record IsLastOf (told : Told) (ws : List Wanted) (w : Wanted) (start end : List Load) (last : Load) : Type 0 where
  pub before : List Wanted
  pub after : List Wanted
  pub order : ws ≡ before ++ w ∷ after
  pub loads : end ≡ start ++ loads_of before ++ last ∷ []
  pub fit : All (λ (b : Wanted). Fits told b.name) before

-- some of the loads, from the first on
pub record AreSome (ws : List Wanted) (start end : List Load) : Type 0 where
  pub front : List Load
  pub behind : List Load
  pub order : loads_of ws ≡ front ++ behind
  pub loads : end ≡ start ++ front

-- The result of loading files one after another.
abbrev pub AllLoaded : Told → List Wanted → List Load → List Load → Result (List (List ℕ)) Stop → Type 0
AllLoaded told ws start end (Ok xs) = (end ≡ start ++ loads_of ws) × AreHeldBy told ws xs
AllLoaded told ws start end (Err (TooLarge p)) = (w : Wanted) × (w.part ≡ p) × IsLastOf told ws w start end (succeeded w.name) × Exceeds told w.name
AllLoaded told ws start end (Err (ReadFault p)) = (w : Wanted) × (w.part ≡ p) × IsLastOf told ws w start end (failed w.name)
AllLoaded told ws start end (Err NoMemory) = AreSome ws start end
AllLoaded told ws start end (Err e) = ⊥

-- ---- reading

-- the view of a text that was read, with the names after it, or the reason to stop; nothing is said where memory ran out
abbrev pub IsOpened : {X Y : Type 0} → (X → Y) → Result (Y × List Named) Stop → Result X Stop → List Named → Type 0
IsOpened view read (Ok x) names = read ≡ Ok (view x, names)
IsOpened view read (Err (Unread refusal)) names = read ≡ Err (Unread refusal)
IsOpened view read (Err NoMemory) names = Unit {0}
IsOpened view read (Err e) names = ⊥

-- the inputs that were read from all three texts, or the reason to stop; nothing is said where memory ran out
abbrev pub IsRead : Result modes.Inputs Stop → Result Inputs Stop → Type 0
IsRead read (Ok i) = read ≡ Ok (inputs_of i)
IsRead read (Err (Unread refusal)) = read ≡ Err (Unread refusal)
IsRead read (Err NoMemory) = Unit {0}
IsRead read (Err e) = ⊥

-- ---- judging

-- the inputs may be judged: their atoms are of the table, and their statements are few enough
abbrev pub AreInputs : modes.Inputs → Type 0
AreInputs i = AreGiven i.stmts i.sheet.items [] (length i.names) i.tree

-- the reason to stop where there are no answers
abbrev pub judging_stop : SimplifyFault → Stop
judging_stop judge.TooManyAtoms = Judging refused.TooManyAtoms
judging_stop judge.TooManyVisible = Judging refused.TooManyVisible
judging_stop judge.Memory = NoMemory

-- there are no answers for this reason; memory may run out at any time
abbrev pub IsUnanswered : Mode → modes.Inputs → Stop → Type 0
IsUnanswered m i (Judging f) = IsRefusedBy m i f
IsUnanswered m i NoMemory = Unit {0}
IsUnanswered m i e = ⊥

-- the results for texts that were read
pub record IsSaidOf (m : Mode) (limits : Limits) (page : Option ℕ) (s : modes.Said) : Type 0 where
  pub read : read_inputs m page s.texts ≡ Ok s.inputs
  pub answers : modes.AreAnswersOf m limits s.inputs s.items s.others
  pub traces : modes.HasTraces m s

-- the same, or the reason why there are no results
abbrev pub IsSaying : Mode → Limits → Option ℕ → modes.Texts → Result Said Stop → Type 0
IsSaying m limits page x (Ok s) = IsSaidOf m limits page (said_of x s)
IsSaying m limits page x (Err (Unread refusal)) = read_inputs m page x ≡ Err (Unread refusal)
IsSaying m limits page x (Err (Judging f)) = (i : modes.Inputs) × (read_inputs m page x ≡ Ok i) × IsRefusedBy m i f
IsSaying m limits page x (Err NoMemory) = Unit {0}
IsSaying m limits page x (Err e) = ⊥

-- ---- writing

-- the results can be written: their texts were read, and the answers are right, within some limits
abbrev pub IsWritable : Mode → modes.Said → Type 0
IsWritable m s = (limits : Limits) × (page : Option ℕ) × IsSaidOf m limits page s

-- The result of reading, judging and writing, where this text is written for the results.
abbrev pub Written : Mode → Limits → modes.Texts → (modes.Said → List ℕ) → Put → Result Status Stop → Type 0
Written m limits x text out (Ok s) = (said : modes.Said) × (said.texts ≡ x) × IsSaidOf m limits None said × Adds out.held out.held' (text said) × (s ≡ modes.status_on m said)
Written m limits x text out (Err WriteFault) = (said : modes.Said) × (said.texts ≡ x) × IsSaidOf m limits None said × AddsPrefix out.held out.held' (text said) × Rose out.faults out.faults'
Written m limits x text out (Err (Unread refusal)) = (read_inputs m None x ≡ Err (Unread refusal)) × (out.held' ≡ out.held)
Written m limits x text out (Err (Judging f)) = (i : modes.Inputs) × (read_inputs m None x ≡ Ok i) × IsRefusedBy m i f × (out.held' ≡ out.held)
Written m limits x text out (Err NoMemory) = (out.held' ≡ out.held) ⊎ ((said : modes.Said) × (said.texts ≡ x) × IsSaidOf m limits None said × AddsPrefix out.held out.held' (text said))
Written m limits x text out (Err e) = ⊥

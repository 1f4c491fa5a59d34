-- What standard error gets of a run that ends without its lines.
--     Tells stop err s       the line of the stop is said whole; or it is cut short, and why is said as far as it goes
--     SaysWhy wants err s    the last line is whole where the run ends for want of memory or at a failed write
use Rattle.std.specs.Prelude.{◌≡◌, ◌⊎◌, ℕ, List, Option}
use Rattle.tp_io.specs.Sinks.{Adds, AddsPrefix, Rose}
use Rattle.premise_lines.specs.declared.stops.Status.{Status}
use Rattle.premise_lines.specs.declared.stops.Status.TheVariants as status
use Rattle.premise_lines.specs.declared.stops.Stop.{Stop}
use Rattle.premise_lines.specs.declared.stops.Stop.TheVariants.{Words, TooLarge, ReadFault, NotUtf8, WriteFault, NoMemory}
use Rattle.premise_lines.specs.Stops.{stop_line, status_of_stop}

-- what a sink held, and the count of its faults, before and after
pub record Put : Type 0 where
  pub held : Option (List ℕ)
  pub held' : Option (List ℕ)
  pub faults : ℕ
  pub faults' : ℕ

abbrev pub put_of : Option (List ℕ) → Option (List ℕ) → ℕ → ℕ → Put
put_of held held' faults faults' = record { held = held; held' = held'; faults = faults; faults' = faults' }

-- the line of this stop is said as far as it goes
abbrev pub SaysLast : Stop → Option (List ℕ) → Option (List ℕ) → Status → Type 0
SaysLast stop held held' s = (s ≡ status_of_stop stop) × AddsPrefix held held' (stop_line stop)

-- the line of a stop is cut short, and that of another one is said as far as it goes
abbrev pub IsCutShort : Stop → Stop → Put → Status → Type 0
IsCutShort stop last err s = (between : Option (List ℕ)) × AddsPrefix err.held between (stop_line stop) × SaysLast last between err.held' s

-- the line is said whole; or it is cut short, by a fault of the sink or for want of memory
abbrev pub Says : Stop → Put → Status → Type 0
Says stop err s =
    ((s ≡ status_of_stop stop) × Adds err.held err.held' (stop_line stop))
    ⊎ (Rose err.faults err.faults' × IsCutShort stop WriteFault err s)
    ⊎ IsCutShort stop NoMemory err s

abbrev pub Tells : Stop → Put → Status → Type 0
Tells Words err s = Says Words err s
Tells (TooLarge part) err s = Says (TooLarge part) err s
Tells (ReadFault part) err s = Says (ReadFault part) err s
Tells (NotUtf8 part place) err s = Says (NotUtf8 part place) err s
Tells WriteFault err s = SaysLast WriteFault err.held err.held' s
Tells NoMemory err s = SaysLast NoMemory err.held err.held' s

-- the line of this stop is the last that standard error got, and it is whole; or standard error failed, or may have wanted memory
abbrev pub SaysWhole : Type 0 → Stop → Put → Type 0
SaysWhole wants_memory stop err = ((between : Option (List ℕ)) × Adds between err.held' (stop_line stop)) ⊎ Rose err.faults err.faults' ⊎ wants_memory

-- a run that ends for want of memory or at a failed write doesn't end in silence
pub record SaysWhy (wants_memory : Type 0) (err : Put) (s : Status) : Type 0 where
  pub write_fault : s ≡ status.WriteFault → SaysWhole wants_memory WriteFault err
  pub no_memory : s ≡ status.NoMemory → SaysWhole wants_memory NoMemory err

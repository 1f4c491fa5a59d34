-- Files in memory, and how a load of them goes.
use Rattle.std.specs.Prelude.{ℕ, List, [], ◌∷◌, ◌++◌, map, Option, None, Some, unwrap_or, length, nat_le, ◌==◌, if◌then◌else◌, Bool, false, Result, Ok, Err, String, Vec, string_bytes}
use Rattle.std.specs.List.{list_any}
use Rattle.std.specs.Str.{bytes_eq}
use Rattle.std.specs.declared.alloc.Global.{Global}
use Rattle.tp_io.specs.declared.files.LoadFault.{LoadFault}
use Rattle.tp_io.specs.declared.files.LoadFault.TheVariants.{Failed, TooLarge, Memory}
use Rattle.tp_base.specs.declared.places.TheConstants.{MOST_BYTES}
use Rattle.tp_io.specs.Counts.{next_count}
use Rattle.tp_io.specs.Files.{Load}

-- names, each with its bytes
abbrev pub Contents : Type 0
Contents = List (List ℕ × List ℕ)

-- what the entries say that a caller gives
abbrev pub contents_of : List (String Global × Vec ℕ Global) → Contents
contents_of entries = map (λ e. (string_bytes e.0, e.1.items)) entries

-- the bytes of a name: those of its first entry
abbrev pub held : Contents → List ℕ → Option (List ℕ)
held [] name = None
held (e ∷ es) name = if bytes_eq e.0 name then Some e.1 else held es name

-- the answer of a load that reads these bytes, where there is memory
abbrev pub answer_to : Option (List ℕ) → Result (Unit {0}) LoadFault
answer_to None = Err Failed
answer_to (Some bytes) = if nat_le (length bytes) MOST_BYTES then Ok tt else Err TooLarge

-- files that fail as they were told to: what they hold, the numbers of the loads that fail,
-- how many loads were asked for, and the list of them
pub record MemoryFiles : Type 0 where
  pub contents : Contents
  pub fail : List ℕ
  pub calls : ℕ
  pub loads : List Load

-- whether a load with this number fails
abbrev pub fails_at : List ℕ → ℕ → Bool
fails_at fail call = list_any (λ n. n == call) fail

-- what the next load reads: nothing where it fails by its number, or the name isn't held
abbrev pub next_read : MemoryFiles → List ℕ → Option (List ℕ)
next_read f name = if fails_at f.fail (next_count f.calls) then None else held f.contents name

-- files that never fail: what they hold, and the names that were loaded
pub record SureContents : Type 0 where
  pub contents : Contents
  pub loaded : List (List ℕ)

-- the bytes of a name, which are none where it isn't held
abbrev pub held_or_none : Contents → List ℕ → List ℕ
held_or_none contents name = unwrap_or (held contents name) []

-- the names loaded after one more load, with this answer
abbrev pub loaded_after : List (List ℕ) → List ℕ → Result (Unit {0}) LoadFault → List (List ℕ)
loaded_after before name (Err Memory) = before
loaded_after before name answer = before ++ name ∷ []

-- the loads of these names, none of which failed
abbrev pub sure_loads : List (List ℕ) → List Load
sure_loads names = map (λ name. record { name = name; failed = false }) names

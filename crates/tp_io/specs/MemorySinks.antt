-- A sink in memory that fails as it was told to.
use Rattle.std.specs.Prelude.{ℕ, List, ◌++◌, take, ◌==◌, if◌then◌else◌, Result, Ok, Err}
use Rattle.tp_io.specs.declared.sinks.SinkFault.{SinkFault}
use Rattle.tp_io.specs.declared.sinks.SinkFault.TheVariants.{Failed, Memory}
use Rattle.tp_io.specs.Counts.{next_count}

-- the bytes that it keeps, the numbers of the puts that fail, how many bytes a put takes at most,
-- and how many puts and faults there were
pub record MemorySink : Type 0 where
  pub bytes : List ℕ
  pub fail : List ℕ
  pub most : ℕ
  pub puts : ℕ
  pub faults : ℕ

-- the bytes kept after a put with this answer
abbrev pub bytes_after : List ℕ → List ℕ → Result ℕ SinkFault → List ℕ
bytes_after bytes piece (Ok count) = bytes ++ take count piece
bytes_after bytes piece (Err e) = bytes

-- the faults after a put with this answer: failing is one, and taking nothing too
abbrev pub faults_after : ℕ → Result ℕ SinkFault → ℕ
faults_after faults (Ok count) = if count == 0 then next_count faults else faults
faults_after faults (Err Failed) = next_count faults
faults_after faults (Err Memory) = faults

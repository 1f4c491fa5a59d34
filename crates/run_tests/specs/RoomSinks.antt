-- A sink in memory that has its room from the start.
use Rattle.std.specs.Prelude.{◌≡◌, ℕ, ◌<◌, ◌≤◌, List, Vec, vec_len, vec_capacity}
use Rattle.std.specs.declared.alloc.Global.{Global}
use Rattle.run_tests.specs.declared.room_sink.TheConstants.{ROOM}

-- the bytes that it keeps, and how many faults there were
pub record RoomySink : Type 0 where
  pub bytes : List ℕ
  pub faults : ℕ

-- the room is there, and no put failed but in a sink that is full
pub record HasRoom (bytes : Vec ℕ Global) (faults : ℕ) : Type 0 where
  pub there : ROOM ≤ vec_capacity bytes
  pub within : vec_len bytes ≤ ROOM
  pub full : 0 < faults → vec_len bytes ≡ ROOM

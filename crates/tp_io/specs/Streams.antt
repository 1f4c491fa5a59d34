-- A stream whose faults are counted.
use Rattle.std.specs.Prelude.{ℕ}

pub record CountedStream (W : Type 0) : Type 0 where
  pub stream : W
  pub faults : ℕ

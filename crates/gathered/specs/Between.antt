-- A set between two others, such as an addition leaves that ran out of memory.
--     IsBetween least most set     the set includes `least` and is a subset of `most`
use Rattle.std.specs.Prelude.{ℕ, List, Contains}

pub record IsBetween (least most set : List ℕ) : Type 0 where
  pub kept : (a : ℕ) → Contains least a → Contains set a
  pub within : (a : ℕ) → Contains set a → Contains most a

-- Suffixes: what is left of a text or of another list behind a part of it.
use Rattle.std.specs.Prelude.{◌≡◌, ◌≤◌, ◌-◌, List, length, drop}

-- the rest is the last of the list
pub record IsRest {X : Type 0} (all rest : List X) : Type 0 where
  pub shorter : length rest ≤ length all
  pub last : drop (length all - length rest) all ≡ rest

-- Selectors, as the definitions see them.
use Rattle.std.specs.Prelude.{ℕ, List, []}

-- how a compound stands to the one on its right: `a > b` at the parent, `a b` at some node above
pub data Join : Type 0 where
  child : Join
  inside : Join

-- a compound, as the atoms that a node has to have, and how it is joined to the one on its right
pub record Outer : Type 0 where
  pub join : Join
  pub atoms : List ℕ

-- the atoms of the last compound, and then the compounds on its left, from right to left
pub record Selector : Type 0 where
  pub subject : List ℕ
  pub outer : List Outer

-- the selector of one compound
abbrev pub simple : List ℕ → Selector
simple atoms = record { subject = atoms; outer = [] }

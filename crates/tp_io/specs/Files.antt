-- The loads of files.
use Rattle.std.specs.Prelude.{ℕ, Bool, true, false, List, [], ◌∷◌, ◌++◌, Result, Err}
use Rattle.tp_io.specs.declared.files.LoadFault.{LoadFault}
use Rattle.tp_io.specs.declared.files.LoadFault.TheVariants.{Failed, Memory}

-- one load: the name that was asked for, and whether it failed
pub record Load : Type 0 where
  pub name : List ℕ
  pub failed : Bool

-- whether a load with this answer failed
abbrev pub is_failure : Result (Unit {0}) LoadFault → Bool
is_failure (Err Failed) = true
is_failure _ = false

-- the loads after one more, of this name and with this answer: for want of memory it isn't listed
abbrev pub loads_after : List Load → List ℕ → Result (Unit {0}) LoadFault → List Load
loads_after before name (Err Memory) = before
loads_after before name answer = before ++ (record { name = name; failed = is_failure answer }) ∷ []

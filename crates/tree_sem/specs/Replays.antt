-- What the answer to a list of changes says. Which of them can be made, and which is the first that can't be, is said by `CanTake`,
-- `IsIllegalAt` and `IsFullAt`.
use Rattle.std.specs.Prelude.{◌≡◌, ℕ, ◌<◌, List, length, take, Result, Ok, Err}
use Rattle.tree_sem.specs.Series.{FitsAfter, IsTooLarge, CanTake, IsIllegalAt, IsFullAt, end_by, tree_before}
use Rattle.tree_sem.specs.Trees.{LabelTree}
use Rattle.tree_sem.specs.declared.replay_fault.ReplayFault.{ReplayFault}
use Rattle.tree_sem.specs.declared.replay_fault.ReplayFault.TheVariants.{IllegalStep, TooManyNodes, Memory}

-- the change at which it stopped
abbrev pub step_of : ReplayFault → ℕ
step_of (IllegalStep i) = i
step_of (TooManyNodes i) = i
step_of (Memory i) = i

module _ {X E : Type 0} (IsLegal : LabelTree → X → E → Type 0) (after : LabelTree → X → E → LabelTree) where
  -- what the answer to one says, with the tree after it
  abbrev pub IsStep : LabelTree → X → E → ℕ → LabelTree → Result (Unit {0}) ReplayFault → Type 0
  IsStep t x e i new (Ok done) = IsLegal t x e × FitsAfter after t x e × (new ≡ after t x e)
  IsStep t x e i new (Err (IllegalStep j)) = (¬ IsLegal t x e) × (j ≡ i) × (new ≡ t)
  IsStep t x e i new (Err (TooManyNodes j)) = IsLegal t x e × IsTooLarge after t x e × (j ≡ i) × (new ≡ t)
  IsStep t x e i new (Err (Memory j)) = (j ≡ i) × (new ≡ t)

  -- what the answer to a list says, with the tree after it
  abbrev pub IsReplay : LabelTree → X → List E → LabelTree → Result (Unit {0}) ReplayFault → Type 0
  IsReplay t x es new (Ok done) = CanTake IsLegal after t x es × (new ≡ end_by after t x es)
  IsReplay t x es new (Err (IllegalStep i)) = IsIllegalAt IsLegal after t x es i × (new ≡ tree_before after t x es i)
  IsReplay t x es new (Err (TooManyNodes i)) = IsFullAt IsLegal after t x es i × (new ≡ tree_before after t x es i)
  IsReplay t x es new (Err (Memory i)) = (i < length es) × CanTake IsLegal after t x (take i es) × (new ≡ tree_before after t x es i)

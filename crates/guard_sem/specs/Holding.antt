-- Where a guard holds. It holds at no path without a node.
use Rattle.std.specs.Prelude.{◌≡◌, ◌⊎◌, ℕ, ◌<◌, List, [], ◌∷◌, ◌++◌, length, take}
use Rattle.tree_sem.specs.Trees.{LabelTree}
use Rattle.tree_sem.specs.Nodes.{IsNode, HasAtom}
use Rattle.guard_sem.specs.Guards.{Guard, always, atom, all, any, parent, ancestor, child, descendant, somewhere, Guards, no_guards, guard}

abbrev mutual
  pub Holds : LabelTree → List ℕ → Guard → Type 0
  Holds t v always = IsNode t v
  Holds t v (atom a) = HasAtom t v a
  Holds t v (all gs) = IsNode t v × HoldAll t v gs
  Holds t v (any gs) = HoldsOne t v gs
  Holds t v (parent g) = IsNode t v × (k : ℕ) × (p : List ℕ) × (v ≡ p ++ k ∷ []) × Holds t p g
  Holds t v (ancestor g) = IsNode t v × (m : ℕ) × (m < length v) × Holds t (take m v) g
  Holds t v (child g) = (k : ℕ) × Holds t (v ++ k ∷ []) g
  Holds t v (descendant g) = (k : ℕ) × (q : List ℕ) × Holds t (v ++ k ∷ q) g
  Holds t v (somewhere g) = IsNode t v × (w : List ℕ) × Holds t w g

  pub HoldAll : LabelTree → List ℕ → Guards → Type 0
  HoldAll t v no_guards = Unit {0}
  HoldAll t v (guard g gs) = Holds t v g × HoldAll t v gs

  pub HoldsOne : LabelTree → List ℕ → Guards → Type 0
  HoldsOne t v no_guards = ⊥
  HoldsOne t v (guard g gs) = Holds t v g ⊎ HoldsOne t v gs

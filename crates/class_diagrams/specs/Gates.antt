-- Gates: pairs of atoms of which each satisfying set has one.
use Rattle.std.specs.Prelude.{◌≡◌, ℕ, false, List, ◌⊎◌}
use Rattle.tp_base.specs.Classes.{has_class}
use Rattle.class_diagrams.specs.Trees.{Tree, leaf, branch, eval}

-- each set that satisfies the tree has one of the two atoms
abbrev pub IsGate : ℕ → ℕ → Tree → Type 0
IsGate a b t = (set : List ℕ) → has_class a set ≡ false → has_class b set ≡ false → eval t set ≡ false

-- the low part of a branch is false
abbrev pub IsLowFalse : Tree → Type 0
IsLowFalse (leaf value) = ⊥
IsLowFalse (branch atom low high) = low ≡ leaf false

-- the low parts end in false behind one branch or two
abbrev pub EndsInFalse : Tree → Type 0
EndsInFalse (leaf value) = ⊥
EndsInFalse (branch atom low high) = (low ≡ leaf false) ⊎ IsLowFalse low

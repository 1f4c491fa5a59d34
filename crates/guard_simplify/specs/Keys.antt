-- The atoms of guards while the numbering is at work.
use Rattle.std.specs.Prelude.{ℕ, ◌+◌, ◌<◌, List, Contains}
use Rattle.guard_sem.specs.Guards.{Guard, always, atom, all, any, parent, ancestor, child, descendant, somewhere, Guards, no_guards, guard, same_guard}
use Rattle.guard_simplify.specs.Firsts.{place_of}

-- the atom of a guard, while only the formulas fs have numbers yet
abbrev pub atom_in : ℕ → List Guard → Guard → ℕ
atom_in n fs (atom a) = a
atom_in n fs g = n + place_of same_guard g fs

-- a guard that has an atom already
abbrev pub HasNumber : ℕ → List Guard → Guard → Type 0
HasNumber n fs (atom a) = a < n
HasNumber n fs g = Contains fs g

abbrev pub HaveNumbers : ℕ → List Guard → Guards → Type 0
HaveNumbers n fs no_guards = Unit {0}
HaveNumbers n fs (guard g gs) = HasNumber n fs g × HaveNumbers n fs gs

-- its parts have
abbrev pub PartsHaveNumbers : ℕ → List Guard → Guard → Type 0
PartsHaveNumbers n fs always = Unit {0}
PartsHaveNumbers n fs (atom a) = Unit {0}
PartsHaveNumbers n fs (all gs) = HaveNumbers n fs gs
PartsHaveNumbers n fs (any gs) = HaveNumbers n fs gs
PartsHaveNumbers n fs (parent g) = HasNumber n fs g
PartsHaveNumbers n fs (ancestor g) = HasNumber n fs g
PartsHaveNumbers n fs (child g) = HasNumber n fs g
PartsHaveNumbers n fs (descendant g) = HasNumber n fs g
PartsHaveNumbers n fs (somewhere g) = HasNumber n fs g

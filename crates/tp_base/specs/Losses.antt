-- A set without one of its atoms.
use Rattle.std.specs.Prelude.{ℕ, List, ◌==◌, not, filter}

-- the numbers but x
abbrev pub without_class : ℕ → List ℕ → List ℕ
without_class x ys = filter (λ y. not (y == x)) ys

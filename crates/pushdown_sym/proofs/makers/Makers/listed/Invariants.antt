use Rattle.std.proofs.Common.{ℕ, Contains, take}
use Rattle.row_index.specs.Rows.{row_of}
use Rattle.pushdown_sym.proofs.makers.Makers.listed.Given as goal

abbrev pub invariant-loop-i : goal.invariant-loop-i
invariant-loop-i l = (j : ℕ) → Contains (take l.i l.kinds) j → (i : ℕ) → Contains (row_of l.self j) i → Contains l.places.items i

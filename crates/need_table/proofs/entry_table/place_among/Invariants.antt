use Rattle.std.proofs.Common.{◌⊎◌, ℕ, length, Contains}
use Rattle.need_table.specs.Tables.{IsNotAt}
use Rattle.need_table.proofs.entry_table.place_among.Given as goal

abbrev pub invariant-places : goal.invariant-places
invariant-places l = (i : ℕ) → Contains l.places i → Contains l.rest i ⊎ IsNotAt l.entries (l.kind, l.parent) i

abbrev pub decreases-places : goal.decreases-places
decreases-places l = length l.rest

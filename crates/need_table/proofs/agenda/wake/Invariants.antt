use Rattle.std.proofs.Common.{◌⊎◌, ℕ, length, Contains}
use Rattle.need_table.specs.Rows.{row_in, IsRicher, AreSameBelow}
use Rattle.need_table.proofs.agenda.wake.Given as goal

abbrev pub invariant-places : goal.invariant-places
invariant-places l = record {
  woken : (a : ℕ) → Contains l.places a → Contains l.rest a ⊎ Contains (row_in l.due l.k) a;
  more : IsRicher l.initial.due l.due;
  same : AreSameBelow l.k l.initial.due l.due;
}

abbrev pub decreases-places : goal.decreases-places
decreases-places l = length l.rest

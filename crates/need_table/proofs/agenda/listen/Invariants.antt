use Rattle.std.proofs.Common.{◌⊎◌, ◌≤◌, ◌-◌, ℕ, length, Contains}
use Rattle.need_table.specs.Rows.{row_in, IsRicher}
use Rattle.need_table.proofs.agenda.listen.Given as goal

abbrev pub invariant-places : goal.invariant-places
invariant-places l = record {
  heard : (j : ℕ) → Contains l.new j → Contains l.rest j ⊎ (l.first ≤ j → Contains (row_in l.askers (j - l.first)) l.i);
  more : IsRicher l.initial.askers l.askers;
}

abbrev pub decreases-places : goal.decreases-places
decreases-places l = length l.rest

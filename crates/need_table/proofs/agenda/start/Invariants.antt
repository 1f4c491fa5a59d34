use Rattle.std.proofs.Common.{◌≤◌, ◌<◌, ◌-◌, ℕ, Contains}
use Rattle.need_table.specs.Rows.{row_in, IsRicher}
use Rattle.need_table.proofs.agenda.start.Given as goal

abbrev pub invariant-places : goal.invariant-places
invariant-places l = record {
  started : (j : ℕ) → l.from ≤ j → j < l.i → Contains (row_in l.due 0) j;
  more : IsRicher l.initial.due l.due;
  from : l.from ≤ l.i;
}

abbrev pub decreases-places : goal.decreases-places
decreases-places l = l.to - l.i

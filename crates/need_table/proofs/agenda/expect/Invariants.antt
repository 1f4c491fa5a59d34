use Rattle.std.proofs.Common.{◌≡◌, ◌⊎◌, ◌≤◌, ℕ, length, Some, slice_get, Contains}
use Rattle.simple_core.specs.declared.summaries.First.{First}
use Rattle.need_table.specs.declared.entries.Entry.{Entry}
use Rattle.need_table.specs.Rows.{IsRicher, AreSameBelow, IsDue}
use Rattle.need_table.proofs.agenda.expect.Given as goal

abbrev pub invariant-places : goal.invariant-places
invariant-places l = record {
  due : (j : ℕ) → Contains l.children j → Contains l.rest j ⊎ ((c : Entry) (f : First) → slice_get l.entries j ≡ Some c → Contains c.firsts.items f → l.from ≤ f.round → IsDue l.due l.i l.from f.round);
  more : IsRicher l.initial.due l.due;
  same : AreSameBelow l.from l.initial.due l.due;
}

abbrev pub decreases-places : goal.decreases-places
decreases-places l = length l.rest

use Rattle.std.proofs.Common.{◌-◌, length}
use Rattle.need_table.proofs.SettleLemmas.{AreRestedTo}
use Rattle.need_table.proofs.entry_table.rest_all.Given as goal

abbrev pub invariant-entries : goal.invariant-entries
invariant-entries l = AreRestedTo l.initial.entries.items l.entries.items l.i

abbrev pub decreases-entries : goal.decreases-entries
decreases-entries l = length l.entries.items - l.i

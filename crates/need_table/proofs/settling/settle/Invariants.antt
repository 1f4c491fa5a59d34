use Rattle.std.proofs.Common.{◌+◌, ◌-◌, ◌*◌, List, length}
use Rattle.simple_core.specs.Pairs.{Pair}
use Rattle.need_table.specs.Rows.{row_in, IsEmptyBelow}
use Rattle.need_table.specs.Agendas.{IsGoing}
use Rattle.need_table.specs.Tables.{IsMore, AreNeeded}
use Rattle.need_table.proofs.settling.settle.Given as goal

abbrev pub invariant-rounds : goal.invariant-rounds
invariant-rounds l = record {
  going : IsGoing l.system l.pairs l.table l.agenda;
  early : IsEmptyBelow l.k l.agenda.due;
  more : IsMore l.initial.table l.table;
  needed : (qs : List Pair) → AreNeeded l.system qs l.initial.table → AreNeeded l.system qs l.table;
}

-- the pairs that there may be yet, then the rounds that are left, then what is due in this one
abbrev pub decreases-rounds : goal.decreases-rounds
decreases-rounds l = (l.pairs - length l.table) * 340282366920938463500268095579187314689 + (18446744073709551616 - l.k) * 18446744073709551617 + (18446744073709551616 - (18446744073709551616 - length (row_in l.agenda.due l.k)))

use Rattle.std.proofs.Common.{◌⊎◌, ℕ, List, length, Contains}
use Rattle.simple_core.specs.Pairs.{Pair, Asks, Needed}
use Rattle.need_table.specs.Tables.{IsTable, IsMore, IsHeard, IsAskedAt, AreNeeded}
use Rattle.need_table.specs.Agendas.{IsAppended}
use Rattle.need_table.proofs.filling.ask_kinds.Given as goal

abbrev pub invariant-kinds : goal.invariant-kinds
invariant-kinds l = record {
  table : IsTable l.system l.pairs l.table;
  more : IsMore l.initial.table l.table;
  listed : (j : ℕ) → Contains l.rest j → Contains l.kinds j;
  heard : (j : ℕ) → Contains l.kinds j → Contains l.rest j ⊎ IsHeard l.table l.children.items (j, l.seen);
  only : (j : ℕ) → Contains l.children.items j → IsAskedAt l.system l.table l.own j;
  appended : IsAppended l.initial.table l.table;
  needed : (qs : List Pair) → AreNeeded l.system qs l.initial.table → ((r : Pair) → Asks l.system l.own r → Needed l.system (Contains qs) r) → AreNeeded l.system qs l.table;
}

abbrev pub decreases-kinds : goal.decreases-kinds
decreases-kinds l = length l.rest

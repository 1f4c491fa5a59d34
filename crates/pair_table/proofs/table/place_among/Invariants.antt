use Rattle.std.proofs.Common.{map, take}
use Rattle.pair_table.specs.Rows.{pair_of, NoneAt}
use Rattle.pair_table.proofs.table.place_among.Given as goal

abbrev pub invariant-loop-i : goal.invariant-loop-i
invariant-loop-i g l = NoneAt (map pair_of l.rows) (l.kind, l.label) (take l.i l.places)

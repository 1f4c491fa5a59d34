use Rattle.std.proofs.Common.{take}
use Rattle.saturation.specs.Tables.{noted_in, OfLinks}
use Rattle.saturation.proofs.tables.Table.of_links.Given as goal

abbrev pub invariant-loop-i : goal.invariant-loop-i
invariant-loop-i l = OfLinks (take l.i l.links) (noted_in l.table)

use Rattle.std.proofs.Common.{List, map, sym, subst}
use Rattle.pair_table.specs.declared.table.Row.{Row}
use Rattle.pair_table.specs.Rows.{pair_of, AreFound}
use Rattle.pair_table.proofs.RowLemmas.{found_take}
use Rattle.pair_table.proofs.table.PairTable.truncate.Goals as goal

pub invariant_of-self : goal.invariant_of-self
invariant_of-self g c =
    subst (λ (z : List (Row g.row.V.Denot)). AreFound c.self.inside.places (map pair_of z)) (sym c.truncate.ensures.items)
    (found_take pair_of c.self.inside.rows.items c.args.len c.self.inside.places c.self.invariant)

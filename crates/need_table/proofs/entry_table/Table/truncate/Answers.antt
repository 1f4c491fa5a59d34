use Rattle.std.proofs.Common.{List, map, sym, subst}
use Rattle.pair_table.specs.Rows.{AreFound}
use Rattle.pair_table.proofs.RowLemmas.{found_take}
use Rattle.need_table.specs.declared.entries.Entry.{Entry}
use Rattle.need_table.specs.Tables.{pair_of}
use Rattle.need_table.proofs.entry_table.Table.truncate.Goals as goal

pub invariant_of-self : goal.invariant_of-self
invariant_of-self c =
    subst (λ (z : List Entry). AreFound c.self.inside.places (map pair_of z)) (sym c.truncate.ensures.items)
    (found_take pair_of c.self.inside.entries.items c.args.len c.self.inside.places c.self.invariant)

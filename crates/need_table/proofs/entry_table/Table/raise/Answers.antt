use Rattle.std.proofs.Common.{◌<◌, List, map, length, sym, subst}
use Rattle.need_table.specs.declared.entries.Entry.{Entry}
use Rattle.need_table.specs.Tables.{pair_of}
use Rattle.need_table.proofs.PlaceLemmas.{found_alike, pairs_raised}
use Rattle.need_table.proofs.entry_table.Table.raise.Goals as goal

pub invariant_of-self : goal.invariant_of-self
invariant_of-self c =
    found_alike c.self.inside.places (map pair_of c.self.inside.entries.items) (map pair_of c.raise.new.entries.items)
    (pairs_raised c.self.inside.entries.items c.raise.new.entries.items c.args.i c.args.k
    (subst (λ (z : List Entry). c.args.i < length z) (sym c.self.view_is) c.requires) c.raise.ensures) c.self.invariant

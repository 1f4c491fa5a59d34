use Rattle.std.proofs.Common.{map}
use Rattle.need_table.specs.Tables.{pair_of}
use Rattle.need_table.proofs.PlaceLemmas.{found_alike, pairs_rested}
use Rattle.need_table.proofs.entry_table.Table.rest_all.Goals as goal

pub invariant_of-self : goal.invariant_of-self
invariant_of-self c =
    found_alike c.self.inside.places (map pair_of c.self.inside.entries.items) (map pair_of c.rest_all.new.entries.items) (pairs_rested c.self.inside.entries.items c.rest_all.new.entries.items c.rest_all.ensures) c.self.invariant

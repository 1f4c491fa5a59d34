use Rattle.std.proofs.Common.{sym, subst}
use Rattle.need_table.specs.Tables.{AreInOrder}
use Rattle.need_table.proofs.OrderLemmas.{order_take, part_is}
use Rattle.need_table.proofs.entries.within.Goals as goal

pub place_from-requires-2 : goal.place_from-requires-2
place_from-requires-2 c = subst AreInOrder (sym c.before-known.ensures) (order_take c.args.firsts.now c.place_from.result c.requires.order)

pub returns : goal.returns
returns c =
    part_is c.args.firsts.now c.before-known.result.now c.behind.result.now c.args.from c.args.to c.place_from.result c.place_from-2.result c.before-known.ensures c.behind.ensures c.place_from.ensures c.place_from-2.ensures

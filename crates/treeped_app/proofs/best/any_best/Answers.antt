use Rattle.std.proofs.Common.{◌<◌, length, sym, arith}
use Rattle.treeped_app.proofs.BestLemmas.{so_then, so_next}
use Rattle.treeped_app.proofs.best.any_best.Goals as goal

pub returns-then-best_meets : goal.returns-then-best_meets
returns-then-best_meets c =
    let less : c.items.item < length c.args.site.now.items = omega (arith, c.requires.many) in
    sym (so_then c.args.question c.args.site.now.items c.items.item c.best_meets.result less c.best_meets.ensures c.if-best_meets.true)

pub items-preserved : goal.items-preserved
items-preserved c =
    let less : c.items.item < length c.args.site.now.items = omega (arith, c.requires.many) in
    so_next c.args.question c.args.site.now.items c.items.item c.best_meets.result less c.best_meets.ensures c.if-best_meets.false c.items.invariant

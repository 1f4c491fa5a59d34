use Rattle.std.proofs.Common.{◌<◌, ◌++◌, ◌∷◌, [], length, ap, ◌∙◌, arith}
use Rattle.treeped_app.proofs.BestLemmas.{unused_next}
use Rattle.treeped_app.proofs.best.unused_on_site.Goals as goal

pub items-preserved : goal.items-preserved
items-preserved c =
    let less : c.items.item < length c.args.site.now.items = omega (arith, c.requires.many) in
    c.in_ok-push.ensures.items ∙ ap (λ z. z ++ c.best_meets.result ∷ []) c.items.invariant ∙ unused_next c.args.site.now.items c.items.item c.best_meets.result less c.best_meets.ensures

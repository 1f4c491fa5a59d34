use Rattle.std.proofs.Common.{◌≡◌, map, take}
use Rattle.treeped_app.specs.Modes.{is_unused}
use Rattle.treeped_app.specs.Sites.{best_answers}
use Rattle.treeped_app.proofs.best.unused_on_site.Given as goal

abbrev pub invariant-items : goal.invariant-items
invariant-items l = l.flags.items ≡ take l.item (map is_unused (best_answers l.site))

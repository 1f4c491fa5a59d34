use Rattle.std.proofs.Common.{◌≡◌, false, take}
use Rattle.std.specs.List.{list_any}
use Rattle.treeped_app.specs.Sites.{best_answers}
use Rattle.treeped_app.specs.Verdicts.{is_answer_so}
use Rattle.treeped_app.proofs.best.any_best.Given as goal

abbrev pub invariant-items : goal.invariant-items
invariant-items l = list_any (is_answer_so l.question) (take l.item (best_answers l.site)) ≡ false

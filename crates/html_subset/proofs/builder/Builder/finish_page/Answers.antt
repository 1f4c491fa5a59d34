use Rattle.std.proofs.Common.{[], ◌∷◌, refl}
use Rattle.html_subset.proofs.StandLemmas.{there_after_classes}
use Rattle.std.proofs.lemmas.Result.{err_from_is_err_and}
use Rattle.html_subset.proofs.builder.Builder.finish_page.Goals as goal

pub give_label-requires-3 : goal.give_label-requires-3
give_label-requires-3 c =
    rw c.in_ok-give_label-2.ensures (there_after_classes (0 ∷ []) (1 ∷ []) c.args.self.head.label c.give_label.new.growing.tree (rw c.in_ok-give_label.ensures (c.requires.stands.body c.requires.page)))

pub returns-in_err-give_label-clause-memory : goal.returns-in_err-give_label-clause-memory
returns-in_err-give_label-clause-memory c =
    let p = err_from_is_err_and c.from_residual.result c.from_residual.ensures.1 in
    rw (p.1, p.2) refl

pub returns-in_err-give_label-2-clause-memory : goal.returns-in_err-give_label-2-clause-memory
returns-in_err-give_label-2-clause-memory c =
    let p = err_from_is_err_and c.from_residual-in_err-give_label-2.result c.from_residual-in_err-give_label-2.ensures.1 in
    rw (p.1, p.2) refl

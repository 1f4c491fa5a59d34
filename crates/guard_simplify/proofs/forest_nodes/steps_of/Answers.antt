use Rattle.std.proofs.Common.{[], ◌∷◌, ◌++◌, sym, ap, ◌∙◌}
use Rattle.tp_base.proofs.Lists.{take_next}
use Rattle.guard_simplify.proofs.forest_nodes.steps_of.Goals as goal

pub steps-preserved : goal.steps-preserved
steps-preserved c = c.in_ok-push.ensures.items ∙ ap (λ z. z ++ c.at.result ∷ []) c.steps.invariant ∙ sym (take_next c.args.at.now c.steps.i c.at.result c.at.ensures)

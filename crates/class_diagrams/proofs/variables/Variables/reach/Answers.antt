use Rattle.std.proofs.Common.{List, Option, None, get_or, ap, ◌∙◌}
use Rattle.class_diagrams.specs.declared.refs.Target.{Target}
use Rattle.class_diagrams.proofs.VariableLemmas.{nothing_more}
use Rattle.class_diagrams.proofs.variables.Variables.reach.Goals as goal

pub places-preserved : goal.places-preserved
places-preserved c = λ n.
    ap (λ (places : List (Option Target)). get_or places n None) c.in_ok-push.ensures.items ∙ nothing_more c.places.self-inside.places.items n ∙ c.places.invariant n

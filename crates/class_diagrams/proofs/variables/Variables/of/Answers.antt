use Rattle.std.proofs.Common.{List, Option, None, get_or, ap, ◌∙◌}
use Rattle.class_diagrams.specs.declared.refs.Target.{Target}
use Rattle.class_diagrams.proofs.variables.Variables.of.Goals as goal

pub returns : goal.returns
returns c = rw (← c.self.view_is)
    (c.noted_at.ensures ∙ ap (λ (places : List (Option Target)). get_or places c.atom.inside.0 None) c.deref.ensures.value
    ∙ ap (λ a. get_or c.self.inside.places.items a None) c.atom.view_is)

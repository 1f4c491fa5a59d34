use Rattle.std.proofs.Common.{List, Bool, false, get_or, sym, ap, ◌∙◌}
use Rattle.class_diagrams.proofs.MarkLemmas.{has_marked}
use Rattle.class_diagrams.proofs.marks.Marks.has.Goals as goal

pub returns : goal.returns
returns c = rw (← c.self.view_is)
    (c.mark_at.ensures ∙ ap (λ (marks : List Bool). get_or marks c.atom.inside.0 false) c.deref.ensures.value
    ∙ ap (λ a. get_or c.self.inside.marks.items a false) c.atom.view_is ∙ sym (has_marked c.self.inside.marks.items c.args.atom))

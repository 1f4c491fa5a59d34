use Rattle.std.proofs.Common.{List, ℕ, sym, ap, subst}
use Rattle.closed_page.specs.Labelled.{Labelled}
use Rattle.closed_page.specs.Notes.{AreAtSpots}
use Rattle.closed_page.proofs.page_labels.PageLabels.with_notes.Goals as goal

pub invariant_of-result : goal.invariant_of-result
invariant_of-result c = (c.self.invariant.0, subst (λ (z : List (List ℕ)). AreAtSpots z c.args.notes.items) (sym (ap (λ (z : Labelled). z.nodes) c.self.view_is)) c.requires)

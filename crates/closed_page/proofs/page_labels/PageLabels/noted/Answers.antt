use Rattle.std.proofs.Common.{List, ℕ, sym, ap, subst}
use Rattle.closed_page.specs.declared.notes.NodeNews.{NodeNews}
use Rattle.closed_page.specs.Labelled.{Labelled}
use Rattle.closed_page.specs.Notes.{AreAtSpots}
use Rattle.closed_page.proofs.page_labels.PageLabels.noted.Goals as goal

pub returns-clause-spots : goal.returns-clause-spots
returns-clause-spots c =
    subst (λ (z : List (List ℕ)). AreAtSpots z c.deref.result.now) (ap (λ (z : Labelled). z.nodes) c.self.view_is)
    (subst (λ (z : List NodeNews). AreAtSpots c.self.inside.nodes z) (sym c.deref.ensures.value) c.self.invariant.1)

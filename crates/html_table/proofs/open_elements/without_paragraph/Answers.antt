use Rattle.std.proofs.Common.{ap}
use Rattle.html_table.specs.declared.elements.Kind.TheVariants as k
use Rattle.html_table.specs.declared.scopes.Scope.TheVariants as within
use Rattle.html_table.specs.declared.nearest.Nearest.{Nearest}
use Rattle.html_table.specs.Outward.{nearest}
use Rattle.html_table.proofs.OutwardLemmas.{left_without}
use Rattle.html_table.proofs.open_elements.without_paragraph.Goals as goal

pub returns-clause-gives : goal.returns-clause-gives
unfolding nearest
returns-clause-gives c =
    rw c.unwrap_or.ensures (left_without k.Paragraph within.Walls c.args.left c.args.«open».now c.nearest.result.paragraph c.requires.within (ap (λ (n : Nearest). n.paragraph) c.nearest.ensures)).gives

pub returns-clause-within : goal.returns-clause-within
unfolding nearest
returns-clause-within c =
    rw c.unwrap_or.ensures (left_without k.Paragraph within.Walls c.args.left c.args.«open».now c.nearest.result.paragraph c.requires.within (ap (λ (n : Nearest). n.paragraph) c.nearest.ensures)).within

use Rattle.std.proofs.Common.{ap, ◌∙◌}
use Rattle.html_table.specs.declared.nearest.Nearest.{Nearest}
use Rattle.html_table.specs.Outward.{nearest}
use Rattle.html_table.proofs.OutwardLemmas.{whole}
use Rattle.html_table.proofs.open_elements.behind_term.Goals as goal

pub returns : goal.returns
unfolding nearest
returns c = ap (λ (n : Nearest). n.term) (c.nearest.ensures ∙ ap nearest (whole c.args.«open».now _ c.len.ensures.gives))

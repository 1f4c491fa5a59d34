use Rattle.std.proofs.Common.{[], false, ap, ◌∙◌}
use Rattle.class_diagrams.proofs.ReferenceLemmas.{ref_eq, leaf_everywhere}
use Rattle.pushdown_sym.proofs.cells.is_false.Goals as goal

pub returns : goal.returns
returns c = c.eq.ensures ∙ ap (λ p. ref_eq c.args.diagram p) (leaf_everywhere c.leaf.result false (c.leaf.ensures.inside []) (c.leaf.ensures.tree []))

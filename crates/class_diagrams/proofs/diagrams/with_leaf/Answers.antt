use Rattle.std.proofs.Common.{◌∙◌}
use Rattle.class_diagrams.specs.Arena.{tree_at}
use Rattle.class_diagrams.proofs.CombinedLemmas.{and_false, or_true}
use Rattle.class_diagrams.proofs.diagrams.with_leaf.Goals as goal

pub returns-else-value : goal.returns-else-value
returns-else-value c = λ branches within.
    (c.leaf.ensures.inside branches, c.leaf.ensures.tree branches ∙ and_false c.args.operation c.args.value (tree_at branches c.args.other) c.in-And.is c.if-value.false)

pub returns-then-value-2 : goal.returns-then-value-2
returns-then-value-2 c = λ branches within.
    (c.leaf-then-value-2.ensures.inside branches, c.leaf-then-value-2.ensures.tree branches ∙ or_true c.args.operation c.args.value (tree_at branches c.args.other) c.in-Or.is c.if-value-2.true)

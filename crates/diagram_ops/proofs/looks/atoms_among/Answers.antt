use Rattle.std.proofs.Common.{◌∙◌, sym, ap}
use Rattle.diagram_ops.specs.Walks.{with_root}
use Rattle.class_diagrams.specs.Arena.{tree_at}
use Rattle.diagram_ops.proofs.WalkLemmas.{roots_more}
use Rattle.diagram_ops.proofs.looks.atoms_among.Goals as goal

pub loop-at-preserved : goal.loop-at-preserved
loop-at-preserved c =
    c.in_ok-add_atom.ensures
    ∙ ap (with_root (tree_at c.args.d.now.branches c.at-item.result)) c.loop-at.invariant
    ∙ sym (roots_more c.args.d.now.branches c.args.branches.now c.loop-at.at-index c.at-item.result c.loop-at-test.true c.at-item.is)

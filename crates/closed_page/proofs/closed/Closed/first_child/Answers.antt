use Rattle.closed_page.specs.Relabelled.{label_by, relabelled, shape_of}
use Rattle.closed_page.proofs.ChildLemmas.{child_found}
use Rattle.closed_page.proofs.closed.Closed.first_child.Goals as goal

pub returns : goal.returns
returns c =
    let n = c.self.inside in
    rw (← c.self.view_is)
    (child_found (relabelled (label_by n.firsts.nodes n.own.items) (shape_of n.firsts.nodes)) n.firsts.firsts c.args.at.now c.args.atom c.args.round c.first_child.result c.self.invariant.0 c.first_child.ensures)

use Rattle.closed_page.specs.Labelled.{node_of}
use Rattle.class_adding.proofs.AlikeLemmas.{one_parent}
use Rattle.class_adding.proofs.alike.have_one_parent.Goals as goal

pub returns : goal.returns
returns c = λ is. one_parent c.args.labels.now.nodes (node_of c.args.labels.now c.args.first) (node_of c.args.labels.now c.args.second) c.parent.result c.parent-2.result c.parent.ensures.above c.parent-2.ensures.above (c.are_one.ensures.there is) (c.are_one.ensures.same is)

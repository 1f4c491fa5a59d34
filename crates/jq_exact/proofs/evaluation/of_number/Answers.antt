use Rattle.node_marks.specs.Marks.{IsMarked}
use Rattle.jq_exact.proofs.NumberLemmas.{made_past, made_there}
use Rattle.jq_exact.proofs.evaluation.of_number.Goals as goal

pub returns-in-None : goal.returns-in-None
returns-in-None c =
    made_past c.args.calls.now.sharp.now c.args.calls.now.handler c.args.calls.now.calls.now c.args.tree.now (IsMarked c.args.tree.now c.args.marks.now) c.args.number c.no_node.result c.in-None.ensures.lookup.0 c.no_node.ensures

pub returns-in-Some : goal.returns-in-Some
returns-in-Some c =
    let made = rw c.kind_at-kind.ensures at c.of_exact_call.ensures in
    made_there c.args.calls.now.sharp.now c.args.calls.now.handler c.args.calls.now.calls.now c.args.tree.now (IsMarked c.args.tree.now c.args.marks.now) c.args.number c.of_exact_call.result c.in-Some.call.now c.in-Some.ensures.lookup.0 c.in-Some.ensures.lookup.1 made

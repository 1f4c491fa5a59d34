use Rattle.jq_sem.proofs.TogetherLemmas.{root_emptied, root_list, root_this}
use Rattle.jq_sem.proofs.evaluation.of_root.Goals as goal

pub returns-then-emptied : goal.returns-then-emptied
returns-then-emptied c = root_emptied c.args.tree.now c.args.this.now c.requires c.args.emptied c.args.root.now c.if-emptied.true c.no_node.result c.no_node.ensures

pub returns-in-List : goal.returns-in-List
returns-in-List c =
    root_list c.args.tree.now c.args.this.now c.requires c.args.emptied c.args.root.now c.in-List.selectors c.items.result.now c.if-emptied.false c.in-List.is c.items.ensures c.matching.result c.matching.ensures

pub returns-in-This : goal.returns-in-This
returns-in-This c = root_this c.args.tree.now c.args.this.now c.requires c.args.emptied c.args.root.now c.if-emptied.false c.in-This.is c.of_this.result c.of_this.ensures

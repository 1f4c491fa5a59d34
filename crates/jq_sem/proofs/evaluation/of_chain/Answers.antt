use Rattle.jq_stmts.specs.Views.{chain_of}
use Rattle.jq_sem.proofs.TogetherLemmas.{none_in_chain, some_in_chain}
use Rattle.jq_sem.proofs.evaluation.of_chain.Goals as goal

pub returns-then-not-names_some : goal.returns-then-not-names_some
returns-then-not-names_some c = none_in_chain c.args.tree.now c.args.this.now c.names_some.result c.names_some.ensures c.if-not-names_some.true (chain_of c.args.chain.now) c.no_node.result c.no_node.ensures

pub returns : goal.returns
returns c =
    some_in_chain c.args.tree.now c.args.this.now c.names_some.result c.names_some.ensures c.if-not-names_some.false c.args.chain.now c.items.result.now c.in_ok-emptied.emptied c.in_ok-emptied.calls.items c.as_slice.result.now
    c.in_ok-first.first c.items.ensures c.as_slice.ensures.value c.in_ok-emptied.ensures c.in_ok-first.ensures c.of_calls.result c.of_calls.ensures

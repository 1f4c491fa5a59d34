use Rattle.jq_sem.proofs.SetLemmas.{on_ok}
use Rattle.jq_exact.specs.Together.{stood}
use Rattle.jq_exact.proofs.TogetherLemmas.{from_nothing, from_all, from_each, named_some}
use Rattle.jq_exact.proofs.evaluation.of_this.Goals as goal

pub returns-then-asks_first : goal.returns-then-asks_first
returns-then-asks_first c =
    rw c.in-Nodes.is (on_ok c.with_firsts.result _ _ (λ m made. from_each c.args.tree.now (stood c.args.calls.now.sharp.now c.args.calls.now.handler c.args.calls.now.calls.now c.args.numbers.now) c.in-Nodes.marks m made) c.with_firsts.ensures)

pub with_firsts-requires : goal.with_firsts-requires
with_firsts-requires c = named_some c.args.tree.now c.in-Nodes.marks (rw c.in-Nodes.is at c.requires)

pub returns-in_ok-none-in-Nothing : goal.returns-in_ok-none-in-Nothing
returns-in_ok-none-in-Nothing c =
    rw c.in-Nothing.is (on_ok c.of_calls.result _ _ (λ m made.
    from_nothing c.args.tree.now (stood c.args.calls.now.sharp.now c.args.calls.now.handler c.args.calls.now.calls.now c.args.numbers.now) c.in_ok-none-in-Nothing.none m c.in_ok-none-in-Nothing.ensures made) c.of_calls.ensures)

pub returns-in_ok-copy-in-Nodes : goal.returns-in_ok-copy-in-Nodes
returns-in_ok-copy-in-Nodes c =
    let some = rw c.in-Nodes.is at c.requires in
    rw c.in-Nodes.is (on_ok c.of_calls-in-Nodes.result _ _ (λ m made.
    from_all c.args.tree.now (stood c.args.calls.now.sharp.now c.args.calls.now.handler c.args.calls.now.calls.now c.args.numbers.now) c.in-Nodes.marks c.in_ok-copy-in-Nodes.copy m some c.in_ok-copy-in-Nodes.ensures (c.asks_first.ensures c.if-asks_first.false) made)
    c.of_calls-in-Nodes.ensures)

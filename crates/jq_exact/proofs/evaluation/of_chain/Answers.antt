use Rattle.jq_stmts.specs.Views.{chain_of, root_of}
use Rattle.jq_stmts.specs.SharpViews.{exact_chain}
use Rattle.jq_sem.proofs.SetLemmas.{on_ok}
use Rattle.jq_exact.specs.Standing.{after}
use Rattle.jq_exact.specs.Together.{stood}
use Rattle.jq_exact.proofs.TogetherLemmas.{none_in_chain, chain_from_set, chain_from_this}
use Rattle.jq_exact.proofs.evaluation.of_chain.Goals as goal

pub returns-then-not-names_some : goal.returns-then-not-names_some
returns-then-not-names_some c =
    none_in_chain c.args.tree.now c.args.named.now c.names_some.result c.names_some.ensures c.if-not-names_some.true (exact_chain c.args.sharp.now c.args.handler (chain_of c.args.chain.now)) c.no_node.result c.no_node.ensures

pub returns-in-Some : goal.returns-in-Some
returns-in-Some c =
    let calls = c.args.chain.now.calls in
    let root = after c.in_ok-emptied.emptied (root_of c.args.chain.now.root) in
    let stand = (rw c.items.ensures at c.in_ok-emptied.ensures) c.args.sharp.now c.args.handler (root_of c.args.chain.now.root) in
    let set = rw c.in-Some.is at c.in_ok-first.ensures in
    on_ok c.of_calls.result _ _ (λ m made. chain_from_set c.args.tree.now c.args.named.now (exact_chain c.args.sharp.now c.args.handler (chain_of c.args.chain.now)) root (stood c.args.sharp.now c.args.handler calls c.in_ok-emptied.numbers.items) stand
    (c.names_some.ensures.0 c.if-not-names_some.false) c.in-Some.first m set made) (rw (c.items-2.ensures, c.as_slice.ensures.value) at c.of_calls.ensures)

pub returns : goal.returns
returns c =
    let calls = c.args.chain.now.calls in
    let root = after c.in_ok-emptied.emptied (root_of c.args.chain.now.root) in
    let stand = (rw c.items.ensures at c.in_ok-emptied.ensures) c.args.sharp.now c.args.handler (root_of c.args.chain.now.root) in
    let is_this = rw c.in-None.is at c.in_ok-first.ensures in
    on_ok c.of_this.result _ _ (λ m made. chain_from_this c.args.tree.now c.args.named.now (exact_chain c.args.sharp.now c.args.handler (chain_of c.args.chain.now)) root (stood c.args.sharp.now c.args.handler calls c.in_ok-emptied.numbers.items) stand
    is_this m made) (rw (c.items-2.ensures, c.as_slice-in-None.ensures.value) at c.of_this.ensures)

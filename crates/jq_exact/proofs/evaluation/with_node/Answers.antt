use Rattle.jq_sem.proofs.SetLemmas.{on_ok}
use Rattle.jq_exact.specs.Together.{stood}
use Rattle.jq_exact.proofs.TogetherLemmas.{with_one}
use Rattle.jq_exact.proofs.evaluation.with_node.Goals as goal

pub returns : goal.returns
returns c =
    on_ok c.in_either.result _ _ (λ m either v.
    with_one c.args.tree.now (stood c.args.calls.now.sharp.now c.args.calls.now.handler c.args.calls.now.calls.now c.args.numbers.now) c.args.made c.in_ok-alone.alone c.in_ok-more.more m c.args.number c.in_ok-alone.ensures c.in_ok-more.ensures either v)
    c.in_either.ensures

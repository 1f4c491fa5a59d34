use Rattle.jq_exact.proofs.NumberLemmas.{not_first_more}
use Rattle.jq_exact.proofs.evaluation.asks_first.Goals as goal

pub calls-preserved : goal.calls-preserved
calls-preserved c =
    let none = rw c.kind_at-kind.ensures at (c.is_first.ensures.no c.if-is_first.false) in
    not_first_more c.args.calls.now.sharp.now c.args.calls.now.handler c.args.calls.now.calls.now c.args.numbers.now c.calls.number-index c.calls-test.true none c.calls.invariant

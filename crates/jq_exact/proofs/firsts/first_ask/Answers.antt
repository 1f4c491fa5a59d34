use Rattle.jq_exact.proofs.FirstLemmas.{none_more}
use Rattle.jq_exact.proofs.firsts.first_ask.Goals as goal

pub calls-preserved : goal.calls-preserved
calls-preserved c = none_more c.args.calls.now.sharp.now c.args.calls.now.handler c.args.calls.now.calls.now c.args.numbers.now c.calls.place c.calls-test.true (c.asks.ensures.no c.if-asks.false) c.calls.invariant

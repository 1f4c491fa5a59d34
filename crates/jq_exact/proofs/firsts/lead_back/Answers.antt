use Rattle.jq_exact.proofs.FirstLemmas.{some_more}
use Rattle.jq_exact.proofs.firsts.lead_back.Goals as goal

pub calls-preserved : goal.calls-preserved
calls-preserved c = some_more c.args.calls.now.sharp.now c.args.calls.now.handler c.args.calls.now.calls.now c.args.numbers.now c.calls.number-index c.calls-test.true (c.leads_back.ensures c.if-not-leads_back.false) c.calls.invariant

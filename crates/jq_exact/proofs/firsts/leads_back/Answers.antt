use Rattle.jq_exact.proofs.FirstLemmas.{there_is}
use Rattle.jq_exact.proofs.firsts.leads_back.Goals as goal

pub returns-in-Some : goal.returns-in-Some
returns-in-Some c = rw (there_is c.args.calls.now.sharp.now c.args.calls.now.handler c.args.calls.now.calls.now c.args.number c.in-Some.call.now c.in-Some.ensures.lookup.0 c.in-Some.ensures.lookup.1) (rw c.kind_at-kind.ensures at c.leads_back_by.ensures)

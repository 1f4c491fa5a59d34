use Rattle.std.proofs.Common.{refl}
use Rattle.jq_exact.proofs.FirstLemmas.{there_is, past_is}
use Rattle.jq_exact.proofs.firsts.asks.Goals as goal

pub returns-in-None-clause-no : goal.returns-in-None-clause-no
returns-in-None-clause-no c = rw (past_is c.args.calls.now.sharp.now c.args.calls.now.handler c.args.calls.now.calls.now c.args.number c.in-None.ensures.lookup.0) (λ off. refl)

pub returns-in-Some-clause-yes : goal.returns-in-Some-clause-yes
returns-in-Some-clause-yes c = rw (there_is c.args.calls.now.sharp.now c.args.calls.now.handler c.args.calls.now.calls.now c.args.number c.in-Some.call.now c.in-Some.ensures.lookup.0 c.in-Some.ensures.lookup.1) (rw c.kind_at-kind.ensures at c.asks_by.ensures.yes)

pub returns-in-Some-clause-no : goal.returns-in-Some-clause-no
returns-in-Some-clause-no c = rw (there_is c.args.calls.now.sharp.now c.args.calls.now.handler c.args.calls.now.calls.now c.args.number c.in-Some.call.now c.in-Some.ensures.lookup.0 c.in-Some.ensures.lookup.1) (rw c.kind_at-kind.ensures at c.asks_by.ensures.no)

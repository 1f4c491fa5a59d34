use Rattle.jq_exact.proofs.FirstLemmas.{there_is, not_past}
use Rattle.jq_exact.proofs.firsts.before_number.Goals as goal

pub before_call-requires : goal.before_call-requires
before_call-requires c = rw c.kind_at-kind.ensures (rw (there_is c.args.calls.now.sharp.now c.args.calls.now.handler c.args.calls.now.calls.now c.args.number c.in-Some.call.now c.in-Some.ensures.lookup.0 c.in-Some.ensures.lookup.1) at c.requires)

pub returns : goal.returns
returns c = rw (there_is c.args.calls.now.sharp.now c.args.calls.now.handler c.args.calls.now.calls.now c.args.number c.in-Some.call.now c.in-Some.ensures.lookup.0 c.in-Some.ensures.lookup.1) (rw c.kind_at-kind.ensures at c.before_call.ensures)

pub unreachable-requires : goal.unreachable-requires
unreachable-requires c = not_past c.args.calls.now.sharp.now c.args.calls.now.handler c.args.calls.now.calls.now c.args.number c.in-None.ensures.lookup.0 c.requires

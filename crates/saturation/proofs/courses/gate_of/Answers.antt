use Rattle.saturation.proofs.GateLemmas.{no_gate, last_inside, last_gate}
use Rattle.saturation.proofs.courses.gate_of.Goals as goal

pub returns-then-starts-clause-gate : goal.returns-then-starts-clause-gate
returns-then-starts-clause-gate c = no_gate c.args.d.now.branches c.args.starts c.args.history.now

pub gate-requires : goal.gate-requires
gate-requires c = last_inside c.args.d.now.branches c.args.history.now c.in-Some.last.now c.in-Some.ensures.value c.requires

pub returns-in-Some-clause-gate : goal.returns-in-Some-clause-gate
returns-in-Some-clause-gate c = last_gate c.args.d.now.branches c.args.history.now c.in-Some.last.now c.in-Some.ensures.value c.args.starts c.gate.result c.if-starts.false c.gate.ensures.some

pub returns-in-None-clause-gate : goal.returns-in-None-clause-gate
returns-in-None-clause-gate c = no_gate c.args.d.now.branches c.args.starts c.args.history.now

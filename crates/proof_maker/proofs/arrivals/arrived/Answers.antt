use Rattle.proof_maker.proofs.ArrivalLemmas.{begun_start, begun_next, begun_cut, begun_all, begun_set}
use Rattle.proof_maker.proofs.arrivals.arrived.Goals as goal

pub loop-i-init : goal.loop-i-init
loop-i-init c = begun_start c.args.arrivals.now c.args.round c.in_ok-atoms.atoms.items c.in_ok-atoms.ensures.items

pub loop-i-preserved : goal.loop-i-preserved
loop-i-preserved c =
    begun_next c.args.arrivals.now c.loop-i.i c.args.round c.index-arrivals-i.result c.loop-i.atoms.items c.loop-i-test.true c.index-arrivals-i.is c.loop-i.invariant c.push.new.self.items c.if-arrival-round.false c.in_ok-push.ensures.items

pub returns-then-arrival-round-clause-atoms : goal.returns-then-arrival-round-clause-atoms
returns-then-arrival-round-clause-atoms c =
    begun_set c.args.arrivals.now c.args.round c.loop-i.atoms.items c.set_of.result
    (begun_cut c.args.arrivals.now c.loop-i.i c.args.round c.index-arrivals-i.result c.loop-i.atoms.items c.loop-i-test.true c.index-arrivals-i.is c.loop-i.invariant c.requires c.if-arrival-round.true) c.set_of.ensures.atoms

pub returns-clause-atoms : goal.returns-clause-atoms
returns-clause-atoms c =
    begun_set c.args.arrivals.now c.args.round c.loop-i.atoms.items c.set_of-2.result (begun_all c.args.arrivals.now c.loop-i.i c.args.round c.loop-i.atoms.items c.loop-i-test.false c.loop-i.invariant) c.set_of-2.ensures.atoms

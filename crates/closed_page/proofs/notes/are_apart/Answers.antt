use Rattle.std.proofs.Common.{inl, inr, arith}
use Rattle.closed_page.proofs.NoteLemmas.{apart_left, apart_right, apart_end}
use Rattle.closed_page.proofs.notes.are_apart.Goals as goal

pub atoms-preserved-then-atom-next-2 : goal.atoms-preserved-then-atom-next-2
atoms-preserved-then-atom-next-2 c =
    apart_left c.args.set.now c.args.other.now c.atoms.i c.atoms.j c.at.result c.at-in-atoms.result c.at.ensures c.at-in-atoms.ensures c.atoms.invariant c.len-others.ensures.rising
    (omega (arith, c.if-atom-next-2.true, c.atom.view_is, c.next.view_is))

pub atoms-preserved : goal.atoms-preserved
atoms-preserved c =
    apart_right c.args.set.now c.args.other.now c.atoms.i c.atoms.j c.at.result c.at-in-atoms.result c.at.ensures c.at-in-atoms.ensures c.atoms.invariant c.len-count.ensures.rising
    (omega (arith, c.if-atom-next.false, c.if-atom-next-2.false, c.atom.view_is, c.next.view_is))

pub returns-else-j-others-clause-apart : goal.returns-else-j-others-clause-apart
returns-else-j-others-clause-apart c = λ yes. apart_end c.args.set.now c.args.other.now c.atoms.i c.atoms.j c.atoms.invariant (inr (omega (arith, c.if-j-others.false, c.len-others.ensures.count)))

pub returns-after-atoms-clause-apart : goal.returns-after-atoms-clause-apart
returns-after-atoms-clause-apart c = λ yes. apart_end c.args.set.now c.args.other.now c.atoms.i c.atoms.j c.atoms.invariant (inl (omega (arith, c.atoms-test.false, c.len-count.ensures.count)))

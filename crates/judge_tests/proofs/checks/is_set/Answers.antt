use Rattle.std.proofs.Common.{arith}
use Rattle.judge_tests.proofs.OverLemmas.{atoms_more, atoms_all}
use Rattle.judge_tests.proofs.checks.is_set.Goals as goal

pub atoms-preserved : goal.atoms-preserved
atoms-preserved c = atoms_more c.args.n c.args.set.now c.atoms.i c.at.result (omega (arith, c.atoms-test.true, c.len.ensures.count)) c.at.ensures (c.is_over.ensures.0 c.if-not-is_over.false) c.atoms.invariant

pub returns : goal.returns
returns c = λ is. atoms_all c.args.n c.args.set.now c.atoms.i (omega (arith, c.atoms-test.false, c.len.ensures.count)) c.atoms.invariant

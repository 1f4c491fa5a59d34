use Rattle.std.proofs.Common.{arith}
use Rattle.test_building.proofs.SoundLemmas.{atoms_more, atoms_all}
use Rattle.test_building.proofs.soundness.are_atoms.Goals as goal

pub atoms-preserved : goal.atoms-preserved
atoms-preserved c = atoms_more c.args.set.now c.atoms.i c.at.result (omega (arith, c.atoms-test.true, c.len.ensures.count)) c.at.ensures (c.is_atom.ensures.0 c.if-not-is_atom.false) c.atoms.invariant

pub returns : goal.returns
returns c = λ is. atoms_all c.args.set.now c.atoms.i (omega (arith, c.atoms-test.false, c.len.ensures.count)) c.atoms.invariant

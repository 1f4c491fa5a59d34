use Rattle.std.proofs.Common.{◌-◌, length, take, All}
use Rattle.simple_core.specs.Systems.{IsAtom}
use Rattle.test_building.proofs.soundness.are_atoms.Given as goal

abbrev pub invariant-atoms : goal.invariant-atoms
invariant-atoms l = All IsAtom (take l.i l.set)

abbrev pub decreases-atoms : goal.decreases-atoms
decreases-atoms l = length l.set - l.i

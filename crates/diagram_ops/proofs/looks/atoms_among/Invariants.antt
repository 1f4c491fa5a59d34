use Rattle.std.proofs.Common.{◌≡◌, take}
use Rattle.diagram_ops.specs.Walks.{roots_of}
use Rattle.diagram_ops.proofs.looks.atoms_among.Given as goal

abbrev pub invariant-loop-at : goal.invariant-loop-at
invariant-loop-at l = l.atoms ≡ roots_of l.d.branches (take l.at-index l.branches)

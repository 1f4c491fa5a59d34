use Rattle.std.proofs.Common.{◌≡◌, ◌++◌, take}
use Rattle.gathered.proofs.gathered.push_each.Given as goal

abbrev pub invariant-loop-i : goal.invariant-loop-i
invariant-loop-i l = l.atoms.items ≡ l.initial.atoms.items ++ take l.i l.set

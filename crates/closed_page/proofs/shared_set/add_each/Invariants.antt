use Rattle.std.proofs.Common.{◌≡◌, take}
use Rattle.tp_base.specs.Classes.{union_of}
use Rattle.closed_page.proofs.shared_set.add_each.Given as goal

abbrev pub invariant-loop-i : goal.invariant-loop-i
invariant-loop-i l = l.set ≡ union_of l.fn.set (take l.i l.atoms)

use Rattle.std.proofs.Common.{take}
use Rattle.simple_core.specs.declared.rules.Local.{Local}
use Rattle.simple_core.specs.Givers.{AreGivers}
use Rattle.simple_core.proofs.givers.Givers.of_locals.Given as goal

abbrev pub invariant-loop-i : goal.invariant-loop-i
invariant-loop-i l = AreGivers (λ (r : Local). r.gives) (take l.i l.rules) l.places

use Rattle.std.proofs.Common.{take}
use Rattle.simple_core.specs.declared.rules.Link.{Link}
use Rattle.simple_core.specs.Givers.{AreGivers}
use Rattle.simple_core.proofs.givers.Givers.of_links.Given as goal

abbrev pub invariant-loop-i : goal.invariant-loop-i
invariant-loop-i l = AreGivers (λ (r : Link). r.to) (take l.i l.links) l.places

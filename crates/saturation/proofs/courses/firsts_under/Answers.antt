use Rattle.std.proofs.Common.{sym, subst}
use Rattle.saturation.specs.Courses.{CanBeAsked}
use Rattle.saturation.proofs.courses.firsts_under.Goals as goal

pub add_first-requires : goal.add_first-requires
add_first-requires g c = subst (CanBeAsked c.args.d.now.branches (g.L.AtomSet.atoms c.args.parent.now)) (sym c.index-courses-i.is) (c.requires c.loop-i.i c.index-courses-i.result c.loop-i-test.true)

use Rattle.std.proofs.Common.{subst}
use Rattle.std.specs.List.Sorted.{IsStrictlyIncreasing}
use Rattle.gathered.proofs.GatheredLemmas.{set_rises}
use Rattle.gathered.proofs.gathered.Gathered.move_to.Goals as goal

pub returns-clause-rises : goal.returns-clause-rises
returns-clause-rises c = subst IsStrictlyIncreasing c.self.view_is (set_rises c.self.inside.atoms.items)

use Rattle.std.proofs.Common.{◌≡◌, length}
use Rattle.tp_base.specs.Classes.{union_of}
use Rattle.gathered.proofs.MovingLemmas.{AreNews}
use Rattle.gathered.proofs.moving.add_each.Given as goal

abbrev pub invariant-atoms : goal.invariant-atoms
invariant-atoms l = record {
  set : union_of l.set l.rest ≡ union_of l.initial.set l.atoms;
  news : AreNews l.initial.set l.set l.news.items;
}

abbrev pub decreases-atoms : goal.decreases-atoms
decreases-atoms l = length l.rest

use Rattle.pushdown_sym.proofs.PlaceLemmas.{once_rises, once_has}
use Rattle.pushdown_sym.proofs.makers.Makers.of_each.Goals as goal

pub returns-clause-rising : goal.returns-clause-rising
returns-clause-rising c =
    once_rises c.in_ok-places.places.items c.sort.new.self.items c.dedup.new.self.items c.in_ok-sort.ensures.permutation c.dedup.ensures.filtered c.in_ok-sort.ensures.sorted

pub returns-clause-whole : goal.returns-clause-whole
returns-clause-whole c = λ j there i at.
    once_has c.in_ok-places.places.items c.sort.new.self.items c.dedup.new.self.items c.in_ok-sort.ensures.permutation c.dedup.ensures.filtered i
    (c.in_ok-places.ensures j there i at)

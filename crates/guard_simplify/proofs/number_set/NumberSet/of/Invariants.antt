use Rattle.std.proofs.Common.{◌≡◌, ◌==◌, fold, length}
use Rattle.guard_simplify.specs.Firsts.{with_new, different}
use Rattle.guard_simplify.specs.NumberSets.{ArePlaces}
use Rattle.guard_simplify.proofs.number_set.NumberSet.of.Given as goal

abbrev pub invariant-each : goal.invariant-each
invariant-each l = record {
  reads : fold (with_new (λ x y. x == y)) l.numbers.items l.rest ≡ different (λ x y. x == y) l.all;
  are : ArePlaces l.places.items l.numbers.items;
}

abbrev pub decreases-each : goal.decreases-each
decreases-each l = length l.rest

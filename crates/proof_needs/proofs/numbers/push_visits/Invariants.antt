use Rattle.std.proofs.Common.{◌≡◌, ◌++◌, length, map, reverse}
use Rattle.proof_needs.specs.declared.numbers.Task.TheVariants.{Visit}
use Rattle.proof_needs.proofs.numbers.push_visits.Given as goal

abbrev pub invariant-rest : goal.invariant-rest
invariant-rest l = l.tasks.items ++ reverse (map Visit l.rest) ≡ l.fn.tasks.items ++ reverse (map Visit l.triples)

abbrev pub decreases-rest : goal.decreases-rest
decreases-rest l = length l.rest

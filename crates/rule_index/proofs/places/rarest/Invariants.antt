use Rattle.std.proofs.Common.{Contains}
use Rattle.rule_index.proofs.places.rarest.Given as goal

abbrev pub invariant-loop-i : goal.invariant-loop-i
invariant-loop-i l = Contains l.needs l.best

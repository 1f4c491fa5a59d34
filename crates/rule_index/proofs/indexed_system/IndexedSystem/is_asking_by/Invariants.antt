use Rattle.std.proofs.Common.{◌⊎◌, length, Contains}
use Rattle.simple_core.specs.declared.summaries.First.{First}
use Rattle.rule_index.specs.Asking.{AsksAnew}
use Rattle.rule_index.proofs.indexed_system.IndexedSystem.is_asking_by.Given as goal

abbrev pub invariant-firsts : goal.invariant-firsts
invariant-firsts l = (f : First) → Contains l.fresh f → Contains l.rest f ⊎ (AsksAnew l.self f.atom → ⊥)

abbrev pub decreases-firsts : goal.decreases-firsts
decreases-firsts l = length l.rest

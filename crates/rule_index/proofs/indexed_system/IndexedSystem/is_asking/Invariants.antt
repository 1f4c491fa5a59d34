use Rattle.std.proofs.Common.{ℕ, take, Contains}
use Rattle.rule_index.specs.Asking.{AsksAnew}
use Rattle.rule_index.proofs.indexed_system.IndexedSystem.is_asking.Given as goal

abbrev pub invariant-loop-i : goal.invariant-loop-i
invariant-loop-i l = (a : ℕ) → Contains (take l.i l.fresh) a → AsksAnew l.self a → ⊥

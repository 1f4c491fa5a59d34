use Rattle.std.proofs.Common.{◌≡◌, ◌++◌, take}
use Rattle.rule_index.specs.Indexes.{by_label, kind_of}
use Rattle.rule_index.proofs.indexed_system.add_spawned.Given as goal

abbrev pub invariant-loop-i : goal.invariant-loop-i
invariant-loop-i l = l.kinds.items ≡ l.initial.kinds.items ++ by_label kind_of l.spawns l.index (λ a. a) (take l.i l.label)

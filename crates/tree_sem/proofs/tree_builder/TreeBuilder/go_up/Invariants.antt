use Rattle.std.proofs.Common.{◌≡◌, ◌-◌, length, take}
use Rattle.tree_sem.proofs.tree_builder.TreeBuilder.go_up.Given as goal

abbrev pub invariant-loop-level : goal.invariant-loop-level
invariant-loop-level l = (l.self.tree ≡ l.initial.self.tree) × (l.self.at ≡ take (length l.initial.self.at - l._level) l.initial.self.at)

use Rattle.std.proofs.Common.{◌≡◌, ◌++◌, length}
use Rattle.rule_index.specs.Indexes.{at_row, kind_of}
use Rattle.rule_index.proofs.indexed_system.add_spawns.Given as goal

abbrev pub invariant-places : goal.invariant-places
invariant-places l = l.kinds.items ++ at_row kind_of l.spawns l.rest ≡ l.initial.kinds.items ++ at_row kind_of l.spawns l.row

abbrev pub decreases-places : goal.decreases-places
decreases-places l = length l.rest

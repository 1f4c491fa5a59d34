use Rattle.std.proofs.Common.{◌+◌, length}
use Rattle.proof_needs.specs.Numbers.{room}
use Rattle.proof_needs.proofs.NumberLemmas.{IsWalking}
use Rattle.proof_needs.proofs.numbers.order_of.Given as goal

abbrev pub invariant-tasks : goal.invariant-tasks
invariant-tasks l = IsWalking l.names l.roots l.tasks.items (record { entered = l.entered.keys; order = l.order.keys })

abbrev pub decreases-tasks : goal.decreases-tasks
decreases-tasks l = room l.names 0 l.entered.keys + length l.tasks.items

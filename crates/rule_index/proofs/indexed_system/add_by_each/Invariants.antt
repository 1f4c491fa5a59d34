use Rattle.std.proofs.Common.{◌≡◌, ◌+◌, take}
use Rattle.tp_base.specs.Classes.{union_of}
use Rattle.rule_index.specs.Indexes.{by_label, given_in}
use Rattle.rule_index.proofs.indexed_system.add_by_each.Given as goal

abbrev pub invariant-loop-i : goal.invariant-loop-i
invariant-loop-i l = l.next ≡ union_of l.initial.next (by_label (given_in l.label) l.rules l.index (λ a. a + 1) (take l.i l.fresh))

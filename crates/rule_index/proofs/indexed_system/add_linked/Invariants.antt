use Rattle.std.proofs.Common.{◌≡◌, take}
use Rattle.tp_base.specs.Classes.{union_of}
use Rattle.rule_index.specs.Indexes.{by_label, to_of}
use Rattle.rule_index.proofs.indexed_system.add_linked.Given as goal

abbrev pub invariant-loop-i : goal.invariant-loop-i
invariant-loop-i l = l.next ≡ union_of l.initial.next (by_label to_of l.links l.index (λ a. a) (take l.i l.label))

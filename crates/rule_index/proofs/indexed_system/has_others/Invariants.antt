use Rattle.std.proofs.Common.{◌≡◌, take, true}
use Rattle.tp_base.specs.Classes.{all_among}
use Rattle.rule_index.proofs.indexed_system.has_others.Given as goal

abbrev pub invariant-loop-i : goal.invariant-loop-i
invariant-loop-i l = all_among (take l.i l.needs) l.label ≡ true

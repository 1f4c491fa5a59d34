use Rattle.std.proofs.Common.{◌≡◌, ◌++◌, length}
use Rattle.std.specs.List.{filter}
use Rattle.tp_base.specs.Classes.{has_class}
use Rattle.need_table.proofs.asking.visible_firsts.Given as goal

abbrev pub invariant-firsts : goal.invariant-firsts
invariant-firsts l = l.kept.items ++ filter (λ f. has_class f.atom l.system.visible) l.rest ≡ filter (λ f. has_class f.atom l.system.visible) l.firsts

abbrev pub decreases-firsts : goal.decreases-firsts
decreases-firsts l = length l.rest

use Rattle.std.proofs.Common.{◌≡◌, map, filter, length}
use Rattle.tp_base.specs.Classes.{has_class, union_of}
use Rattle.need_table.proofs.filling.add_visible.Given as goal

abbrev pub invariant-firsts : goal.invariant-firsts
invariant-firsts l =
    union_of l.seen (filter (λ a. has_class a l.system.visible) (map (λ f. f.atom) l.rest)) ≡ union_of l.initial.seen (filter (λ a. has_class a l.system.visible) (map (λ f. f.atom) l.fresh))

abbrev pub decreases-firsts : goal.decreases-firsts
decreases-firsts l = length l.rest

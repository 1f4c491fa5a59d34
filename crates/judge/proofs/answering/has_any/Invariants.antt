use Rattle.std.proofs.Common.{◌≡◌, length}
use Rattle.std.specs.List.{list_any}
use Rattle.tp_base.specs.Classes.{has_class}
use Rattle.judge.proofs.answering.has_any.Given as goal

abbrev pub invariant-atoms : goal.invariant-atoms
invariant-atoms l = list_any (λ a. has_class a l.label) l.rest ≡ list_any (λ a. has_class a l.label) l.seen

abbrev pub decreases-atoms : goal.decreases-atoms
decreases-atoms l = length l.rest

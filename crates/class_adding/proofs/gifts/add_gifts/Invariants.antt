use Rattle.std.proofs.Common.{◌≡◌, length}
use Rattle.tp_base.specs.Classes.{union_of}
use Rattle.class_adding.specs.Gifts.{given_by}
use Rattle.class_adding.proofs.gifts.add_gifts.Given as goal

abbrev pub invariant-gifts : goal.invariant-gifts
invariant-gifts l = union_of l.next (given_by l.k l.rest) ≡ union_of l.initial.next (given_by l.k l.gifts)

abbrev pub decreases-gifts : goal.decreases-gifts
decreases-gifts l = length l.rest

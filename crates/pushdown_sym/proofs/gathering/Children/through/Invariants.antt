use Rattle.std.proofs.Common.{◌≡◌, fold, [], take}
use Rattle.std.specs.List.{flat_map}
use Rattle.pushdown_sym.specs.Givers.{of_place}
use Rattle.pushdown_sym.specs.Children.{standing_at, with_child}
use Rattle.pushdown_sym.proofs.gathering.Children.through.Given as goal

abbrev pub invariant-loop-i : goal.invariant-loop-i
invariant-loop-i l = l.children ≡ fold with_child [] (flat_map (of_place (standing_at l.now l.spawns l.doors) l.links) (take l.i l.places))

use Rattle.std.proofs.Common.{◌≡◌, fold, take}
use Rattle.std.specs.List.{flat_map}
use Rattle.pushdown_sym.specs.Givers.{of_place}
use Rattle.pushdown_sym.specs.Children.{standing_by, with_child}
use Rattle.pushdown_sym.proofs.gathering.Children.add_spawns.Given as goal

abbrev pub invariant-loop-i : goal.invariant-loop-i
invariant-loop-i l = l.self ≡ fold with_child l.fn.self (flat_map (of_place (standing_by l.now l.link) l.spawns) (take l.i l.places))

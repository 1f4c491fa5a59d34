use Rattle.std.proofs.Common.{◌≡◌, take}
use Rattle.std.specs.List.{flat_map}
use Rattle.guard_simplify.specs.Forests.{kinds_by}
use Rattle.guard_simplify.proofs.kinds.all_kinds.Given as goal

abbrev pub invariant-forests : goal.invariant-forests
invariant-forests l = l.kinds.items ≡ flat_map (kinds_by l.numbers) (take l.forest-index l.forests)

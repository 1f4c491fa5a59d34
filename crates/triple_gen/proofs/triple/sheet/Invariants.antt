use Rattle.std.proofs.Common.{◌≡◌}
use Rattle.std.specs.List.{flat_map, range_with_len}
use Rattle.triple_gen.specs.Ring as spec
use Rattle.triple_gen.proofs.triple.sheet.Given as goal

abbrev pub invariant-boxes : goal.invariant-boxes
invariant-boxes l = l.text ≡ flat_map spec.sheet_lines (range_with_len 0 l.i)

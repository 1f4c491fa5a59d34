use Rattle.std.proofs.Common.{◌≡◌, ◌+◌, ◌%◌}
use Rattle.std.specs.List.{flat_map, range_with_len}
use Rattle.triple_gen.specs.Ring as spec
use Rattle.triple_gen.proofs.triple.script.Given as goal

abbrev pub invariant-boxes : goal.invariant-boxes
invariant-boxes l = l.text ≡ flat_map (λ i. spec.script_line i ((i + 1) % l.n)) (range_with_len 0 l.i)

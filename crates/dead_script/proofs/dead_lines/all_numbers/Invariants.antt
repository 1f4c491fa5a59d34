use Rattle.std.proofs.Common.{◌≡◌}
use Rattle.std.specs.List.{range_with_len}
use Rattle.dead_script.proofs.dead_lines.all_numbers.Given as goal

abbrev pub invariant-answers : goal.invariant-answers
invariant-answers l = l.numbers.items ≡ range_with_len 0 l.number

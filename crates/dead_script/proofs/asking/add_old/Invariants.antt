use Rattle.std.proofs.Common.{◌≡◌, ◌++◌, take, drop}
use Rattle.dead_script.proofs.asking.add_old.Given as goal

abbrev pub invariant-numbers : goal.invariant-numbers
invariant-numbers l = l.numbers.items ≡ l.initial.numbers.items ++ take l.k (drop l.start l.initial.numbers.items)

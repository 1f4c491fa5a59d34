use Rattle.std.proofs.Common.{◌≡◌, true, take}
use Rattle.std.specs.List.{list_all}
use Rattle.command_words.specs.Orders as spec
use Rattle.command_words.proofs.numbers.is_number.Given as goal

abbrev pub invariant-digits : goal.invariant-digits
invariant-digits l = list_all spec.is_digit (take l.byte-index l.text) ≡ true

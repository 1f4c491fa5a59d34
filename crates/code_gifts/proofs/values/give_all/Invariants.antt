use Rattle.std.proofs.Common.{◌≡◌, ◌++◌, length}
use Rattle.code_gifts.specs.Values.{all_classes}
use Rattle.code_gifts.proofs.values.give_all.Given as goal

abbrev pub invariant-spans : goal.invariant-spans
invariant-spans l =
    l.givens.items ++ all_classes l.script.asked.now l.from l.script.text.now l.script.code.now l.left
    ≡ l.initial.givens.items ++ all_classes l.script.asked.now l.from l.script.text.now l.script.code.now l.spans

abbrev pub decreases-spans : goal.decreases-spans
decreases-spans l = length l.left

use Rattle.std.proofs.Common.{◌≡◌, ◌++◌, length}
use Rattle.code_values.proofs.runs.JoinedTexts.add.Given as goal

abbrev pub invariant-texts : goal.invariant-texts
invariant-texts l = l.rest ++ l.self ≡ l.texts ++ l.fn.self

abbrev pub decreases-texts : goal.decreases-texts
decreases-texts l = length l.rest

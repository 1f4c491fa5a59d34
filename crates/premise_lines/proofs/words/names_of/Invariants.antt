use Rattle.std.proofs.Common.{◌≡◌, [], map, length}
use Rattle.premise_lines.specs.Words.{names_from}
use Rattle.premise_lines.proofs.words.names_of.Given as goal

abbrev pub invariant-texts : goal.invariant-texts
invariant-texts l = names_from l.names.items (map (λ t. t.now) l.left) ≡ names_from [] (map (λ t. t.now) l.texts)

abbrev pub decreases-texts : goal.decreases-texts
decreases-texts l = length l.left

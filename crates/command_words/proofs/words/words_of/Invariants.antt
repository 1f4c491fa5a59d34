use Rattle.std.proofs.Common.{◌≡◌, map, take}
use Rattle.command_words.proofs.words.words_of.Given as goal

abbrev pub invariant-names : goal.invariant-names
invariant-names l = l.items.items ≡ map (λ n. n.now) (take l.name-index l.names)

use Rattle.std.proofs.Common.{◌≡◌, ◌++◌, length, map, flat_map}
use Rattle.gifts.specs.Classes.{behind_blank}
use Rattle.gifts.proofs.classes.push_words.Given as goal

abbrev pub invariant-words : goal.invariant-words
invariant-words l =
    l.text.items ++ flat_map behind_blank (map (λ w. w.now) l.left) ≡ l.initial.text.items ++ flat_map behind_blank (map (λ w. w.now) l.words)

abbrev pub decreases-words : goal.decreases-words
decreases-words l = length l.left

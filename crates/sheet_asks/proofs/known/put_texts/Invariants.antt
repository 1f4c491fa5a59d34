use Rattle.std.proofs.Common.{◌≡◌, length, map, flat_map}
use Rattle.html_tokens.specs.Words.{words}
use Rattle.sheet_asks.specs.Names.{with_all}
use Rattle.sheet_asks.proofs.known.put_texts.Given as goal

abbrev pub invariant-texts : goal.invariant-texts
invariant-texts l = with_all l.names (flat_map words (map (λ t. t.now) l.left)) ≡ with_all l.initial.names (flat_map words (map (λ t. t.now) l.texts))

abbrev pub decreases-texts : goal.decreases-texts
decreases-texts l = length l.left

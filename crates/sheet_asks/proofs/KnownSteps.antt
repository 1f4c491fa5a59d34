-- The table of known calls.
use Rattle.std.proofs.Common.{◌≡◌, refl, map, flat_map}
use Rattle.html_tokens.specs.Words.{words}
use Rattle.sheet_asks.specs.Known.{known_calls}
use Rattle.sheet_asks.specs.declared.known.TheConstants.{KNOWN_CALLS}

pub same_texts : flat_map words (map (λ t. t.now) KNOWN_CALLS) ≡ known_calls
unfolding known_calls
same_texts = refl

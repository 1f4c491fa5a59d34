-- A place stays among the words of a file.
use Rattle.std.proofs.Common.{List}
use Rattle.jq_words.specs.Words.{Word}
use Rattle.jq_words.specs.Results.{IsRest, IsBehind}
use Rattle.jq_words.proofs.Rests.{of_rest, is_rest}

pub kept : (all before behind : List Word) → IsRest all before → IsBehind before behind → IsRest all behind
kept all before behind outer inner = of_rest all before behind outer (is_rest before behind inner)

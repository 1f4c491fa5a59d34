use Rattle.std.proofs.Common.{◌≡◌, ◌≤◌, ◌++◌, length}
use Rattle.code_tokens.specs.Pairs.{pairs_from, pairs_of}
use Rattle.code_tokens.proofs.pairs.pairs_of.Given as goal

abbrev pub invariant-tokens : goal.invariant-tokens
invariant-tokens l = record {
  within : length l.rest ≤ length l.tokens;
  reads : l.pairs.items ++ pairs_from l.text (length l.tokens) l.opens l.rest ≡ pairs_of l.text l.tokens;
}

abbrev pub decreases-tokens : goal.decreases-tokens
decreases-tokens l = length l.rest

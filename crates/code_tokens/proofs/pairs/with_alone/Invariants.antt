use Rattle.std.proofs.Common.{◌≡◌, ◌≤◌, ◌++◌, length}
use Rattle.code_tokens.specs.Pairs.{alone_from, alone, pairs_of}
use Rattle.code_tokens.proofs.pairs.with_alone.Given as goal

abbrev pub invariant-tokens : goal.invariant-tokens
invariant-tokens l = record {
  within : length l.rest ≤ length l.tokens;
  reads : l.unread.items ++ alone_from l.text (length l.tokens) (pairs_of l.text l.tokens) l.rest ≡ l.initial.unread.items ++ alone l.text l.tokens;
}

abbrev pub decreases-tokens : goal.decreases-tokens
decreases-tokens l = length l.rest

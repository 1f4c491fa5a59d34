use Rattle.std.proofs.Common.{◌≡◌, ◌<◌, ℕ, length, get_or, None}
use Rattle.code_tokens.specs.Pairs.{other_among, other_in}
use Rattle.code_tokens.proofs.pairs.others_of.Given as goal

abbrev pub invariant-pairs : goal.invariant-pairs
invariant-pairs l = record {
  long : length l.others.items ≡ l.size;
  reads : (i : ℕ) → i < l.size → other_among (get_or l.others.items i None) l.rest i ≡ other_in l.pairs i;
}

abbrev pub decreases-pairs : goal.decreases-pairs
decreases-pairs l = length l.rest

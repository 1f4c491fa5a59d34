use Rattle.std.proofs.Common.{◌≡◌, ◌-◌, ◌≤◌, ℕ, length, get_or, None}
use Rattle.code_tokens.proofs.pairs.no_others.Given as goal

abbrev pub invariant-tokens : goal.invariant-tokens
invariant-tokens l = record {
  long : length l.others.items ≡ l.i;
  within : l.i ≤ l.size;
  none : (j : ℕ) → get_or l.others.items j None ≡ None;
}

abbrev pub decreases-tokens : goal.decreases-tokens
decreases-tokens l = l.size - l.i

use Rattle.std.proofs.Common.{◌≡◌, ◌<◌, ℕ, length, Contains}
use Rattle.closed_page.proofs.page_labels.PageLabels.all_numbers.Given as goal

abbrev pub invariant-loop-i : goal.invariant-loop-i
invariant-loop-i l = record {
  within : (j : ℕ) → Contains l.numbers.items j → j < length l.self.nodes;
  whole : (j : ℕ) → j < l.i → Contains l.numbers.items j;
  count : l.count ≡ length l.self.nodes;
}

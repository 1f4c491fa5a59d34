use Rattle.std.proofs.Common.{◌≡◌, ◌<◌, ℕ, length, Contains}
use Rattle.closed_page.proofs.CallLemmas.{HasKidsOf}
use Rattle.closed_page.proofs.page_labels.PageLabels.by_parents.Given as goal

abbrev pub invariant-loop-i : goal.invariant-loop-i
invariant-loop-i l = record {
  within : (j : ℕ) → Contains l.numbers.items j → j < length l.self.nodes;
  whole : HasKidsOf l.self.nodes l.numbers.items l.i;
  count : l.count ≡ length l.self.nodes;
}

use Rattle.std.proofs.Common.{sym, rules}
use Rattle.std.proofs.lemmas.List.Sorted.{IsNonDecreasingBy-from_sort_by_key, list_any-IsPermutation}
use Rattle.css_read.specs.Pruned.{is_in}
use Rattle.css_prune.proofs.CopyLemmas.{all_risen}
use Rattle.css_prune.proofs.copying.sort.Goals as goal

pub returns-clause-same : goal.returns-clause-same
returns-clause-same c at = sym (list_any-IsPermutation (is_in at) _ _ c.in_ok-sort_by_key.ensures.permutation)

pub returns-clause-order : goal.returns-clause-order
returns-clause-order c = all_risen _ (IsNonDecreasingBy-from_sort_by_key (λ r. r.from) _ c.in_ok-sort_by_key.ensures.sorted (λ a r q k. search rules))

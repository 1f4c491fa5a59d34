use Rattle.std.proofs.Common.{◌∙◌, ap, rules}
use Rattle.std.proofs.lemmas.List.Sorted.{answers_always, IsNonDecreasingBy-from_sort_by_key}
use Rattle.saturation.specs.HistoryMap.{Noted, changes_of}
use Rattle.saturation.proofs.LogLemmas.{sorted_same}
use Rattle.saturation.proofs.histories.by_atoms.Goals as goal

pub returns-clause-order : goal.returns-clause-order
returns-clause-order c = IsNonDecreasingBy-from_sort_by_key (λ (n : Noted). n.0) _ c.in_ok-sort_by_key.ensures.sorted (λ a r q k. search rules)

pub returns-clause-same : goal.returns-clause-same
returns-clause-same c = λ a.
    sorted_same c.in_ok-noted.noted.items c.sort_by_key.new.self.items (c.in_ok-sort_by_key.ensures.stable (λ (n : Noted). n.0) (answers_always _ _ _ (λ f x r g called. search rules))) a
    ∙ ap (changes_of a) c.in_ok-noted.ensures.items

use Rattle.std.proofs.Common.{rules}
use Rattle.std.proofs.lemmas.List.Sorted.{IsNonDecreasingBy-from_sort_by_key}
use Rattle.simple_core.specs.declared.summaries.First.{First}
use Rattle.proof_maker.proofs.arrivals.by_rounds.Goals as goal

pub returns-clause-order : goal.returns-clause-order
returns-clause-order c = IsNonDecreasingBy-from_sort_by_key (λ (a : First). a.round) _ c.in_ok-sort_by_key.ensures.sorted (λ a r q k. search rules)

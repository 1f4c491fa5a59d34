-- Statements that can be counted, since they have no calls.
use Rattle.std.proofs.Common.{◌≡◌, ℕ, List, [], ◌∷◌, map, refl, arith}
use Rattle.std.specs.List.{AllByRecursion}
use Rattle.jq_parts.specs.declared.placing.Stated.{Stated}
use Rattle.jq_chains.specs.MarkedCalls.{marked_chain_of, calls_in}
use Rattle.jq_parts.specs.ScopeViews.{stated_in}
use Rattle.jq_parts.specs.Stating.{IsCounted}

pub bare_counted : (text : List ℕ) (t : Stated) → t.handlers.items ≡ [] → t.chain.calls.items ≡ [] → IsCounted (stated_in text t)
bare_counted text t alone no_calls =
    let none : calls_in (map marked_chain_of (t.chain ∷ t.handlers.items)) ≡ 0 = rw (alone, no_calls) refl in
    record { few = rw alone (omega arith); short = omega (arith, none) }

pub three_counted : (text : List ℕ) (all : List Stated) (a b c : Stated) → all ≡ a ∷ b ∷ c ∷ [] → IsCounted (stated_in text a) → IsCounted (stated_in text b)
    → IsCounted (stated_in text c) → AllByRecursion IsCounted (map (stated_in text) all)
three_counted text all a b c is first second third = rw is (first, (second, (third, tt)))

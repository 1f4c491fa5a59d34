use Rattle.std.proofs.Common.{◌≡◌, ℕ, [], length}
use Rattle.proof_needs.specs.Names.{wants_of}
use Rattle.proof_needs.proofs.orders.empty.Given as goal

abbrev pub invariant-loop : goal.invariant-loop
invariant-loop l = record {
  none : (m : ℕ) → wants_of l.triples.items m ≡ [];
  count : length l.triples.items ≡ l.counter;
}

use Rattle.jq_chains.specs.Links.{calls_to}
use Rattle.jq_chains.proofs.SharedCallSteps.{AreLeft}
use Rattle.jq_chains.proofs.shared_calls.SharedCalls.copy.Given as goal

abbrev pub invariant-calls : goal.invariant-calls
invariant-calls l = AreLeft l.self (calls_to l.link) l.copies.items

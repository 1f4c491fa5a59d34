use Rattle.std.proofs.Common.{◌≡◌, length}
use Rattle.jq_forms.specs.Values.{are_chain_calls}
use Rattle.jq_forms.proofs.value_chains.are_chain_calls.Given as goal

abbrev pub invariant-calls : goal.invariant-calls
invariant-calls l = are_chain_calls l.exact 0 l.rest.words ≡ are_chain_calls l.exact 0 l.fn.words.words

abbrev pub decreases-calls : goal.decreases-calls
decreases-calls l = length l.rest.words

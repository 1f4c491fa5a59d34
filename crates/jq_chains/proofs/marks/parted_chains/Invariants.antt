use Rattle.std.proofs.Common.{◌+◌, ◌≤◌, length, map}
use Rattle.jq_words.specs.declared.faults.TheConstants.{MOST_CALLS, MOST_OPEN}
use Rattle.jq_chains.specs.MarkedCalls.{marked_chain_of, calls_in}
use Rattle.jq_chains.proofs.MarkSteps.{JudgedChains, MarkedChains}
use Rattle.jq_chains.proofs.marks.parted_chains.Given as goal

abbrev pub invariant-loop-chain : goal.invariant-loop-chain
invariant-loop-chain l = record {
  judged : JudgedChains l.judged.items l.chain-iterator.rest.items l.fn.chains.items;
  marked : MarkedChains l.marks.items (length l.judged.items) l.chain-iterator.rest.items l.fn.marks.items l.fn.chains.items;
  few : length l.judged.items + length l.chain-iterator.rest.items ≤ MOST_OPEN;
  short : calls_in (map marked_chain_of l.chain-iterator.rest.items) ≤ MOST_CALLS;
}

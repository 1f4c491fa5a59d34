use Rattle.std.proofs.Common.{◌≡◌, map, min, take}
use Rattle.jq_chains.specs.MarkedCalls.{marked_chain_of, calls_in}
use Rattle.jq_parts.proofs.stating.calls_in.Given as goal

abbrev pub invariant-loop-chain : goal.invariant-loop-chain
invariant-loop-chain l = l.count ≡ min (calls_in (map marked_chain_of (take l.chain-index l.chains))) 18446744073709551615

use Rattle.std.proofs.Common.{◌≡◌, map, take}
use Rattle.jq_chains.specs.MarkedCalls.{marked_chain_of}
use Rattle.jq_parts.specs.Stating as spec
use Rattle.jq_parts.specs.ScopeViews.{handlers_of}
use Rattle.jq_parts.proofs.stating.chains_of.Given as goal

abbrev pub invariant-loop-handler : goal.invariant-loop-handler
invariant-loop-handler l = map marked_chain_of l.copy.items ≡ spec.chains_of (handlers_of (take l.handler-index l.handlers))

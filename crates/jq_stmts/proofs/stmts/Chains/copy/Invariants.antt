use Rattle.std.proofs.Common.{◌≡◌, map, take}
use Rattle.jq_stmts.specs.Views.{chain_of}
use Rattle.jq_stmts.proofs.stmts.Chains.copy.Given as goal

abbrev pub invariant-loop-chain : goal.invariant-loop-chain
invariant-loop-chain l = map chain_of l.copies.items ≡ map chain_of (take l.chain-index l.chain-items)

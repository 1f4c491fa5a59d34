use Rattle.std.proofs.Common.{map, length}
use Rattle.jq_stmts.specs.Views.{chain_of}
use Rattle.jq_stmts.specs.Tables.{AreChainsOver}
use Rattle.judge_tests.proofs.checks.are_chains.Given as goal

abbrev pub invariant-chains : goal.invariant-chains
invariant-chains l = AreChainsOver l.n (map chain_of l.rest) → AreChainsOver l.n (map chain_of l.chains)

abbrev pub decreases-chains : goal.decreases-chains
decreases-chains l = length l.rest

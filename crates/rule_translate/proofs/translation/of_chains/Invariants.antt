use Rattle.std.proofs.Common.{◌≡◌, length, map, None}
use Rattle.jq_stmts.specs.Views.{chain_of}
use Rattle.rule_translate.specs.Translation as spec
use Rattle.rule_translate.proofs.translation.of_chains.Given as goal

abbrev pub invariant-handlers : goal.invariant-handlers
invariant-handlers l = spec.of_chains None (map chain_of l.fn.handlers) (chain_of l.c) ≡ spec.of_chains l.above (map chain_of l.rest) (chain_of l.c)

abbrev pub decreases-handlers : goal.decreases-handlers
decreases-handlers l = length l.rest

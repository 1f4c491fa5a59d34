use Rattle.std.proofs.Common.{◌≡◌, length}
use Rattle.code_values.specs.Chains.{chains_from, chains}
use Rattle.code_values.proofs.chains.chains_of.Given as goal

abbrev pub invariant-tokens : goal.invariant-tokens
invariant-tokens l = chains_from l.script.text.now l.script.code.now l.chains.items l.rest ≡ chains l.script.text.now l.script.code.now

abbrev pub decreases-tokens : goal.decreases-tokens
decreases-tokens l = length l.rest

use Rattle.std.proofs.Common.{◌≡◌, false, take}
use Rattle.jq_exact.specs.Together as spec
use Rattle.jq_exact.proofs.evaluation.asks_first.Given as goal

abbrev pub invariant-calls : goal.invariant-calls
invariant-calls l = spec.asks_first (spec.stood l.calls.sharp.now l.calls.handler l.calls.calls.now (take l.number-index l.numbers)) ≡ false

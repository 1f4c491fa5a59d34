use Rattle.std.proofs.Common.{◌≡◌, false, take}
use Rattle.jq_exact.specs.Together.{asks_first, stood}
use Rattle.jq_exact.proofs.firsts.first_ask.Given as goal

abbrev pub invariant-calls : goal.invariant-calls
invariant-calls l = asks_first (stood l.calls.sharp.now l.calls.handler l.calls.calls.now (take l.place l.numbers)) ≡ false

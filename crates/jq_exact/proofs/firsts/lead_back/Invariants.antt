use Rattle.std.proofs.Common.{◌≡◌, true, take}
use Rattle.jq_exact.specs.Firsts.{parted_or_first}
use Rattle.jq_exact.specs.Together.{stood}
use Rattle.jq_exact.proofs.firsts.lead_back.Given as goal

abbrev pub invariant-calls : goal.invariant-calls
invariant-calls l = parted_or_first (stood l.calls.sharp.now l.calls.handler l.calls.calls.now (take l.number-index l.numbers)) ≡ true

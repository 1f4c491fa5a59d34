use Rattle.std.proofs.Common.{◌≤◌, drop, length}
use Rattle.jq_exact.specs.Firsts.{AreLeastMade}
use Rattle.jq_exact.specs.Together.{stood}
use Rattle.jq_exact.proofs.firsts.least_made.Given as goal

abbrev pub invariant-calls : goal.invariant-calls
invariant-calls l = record { within : l.left ≤ length l.numbers; made : AreLeastMade l.tree (stood l.calls.sharp.now l.calls.handler l.calls.calls.now (drop l.left l.numbers)) l.least.ranks l.least.of_none }

abbrev pub decreases-calls : goal.decreases-calls
decreases-calls l = l.left

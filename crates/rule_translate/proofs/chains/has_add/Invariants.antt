use Rattle.std.proofs.Common.{◌≡◌, length, map}
use Rattle.jq_stmts.specs.Views.{call_of}
use Rattle.rule_translate.specs.Translation as spec
use Rattle.rule_translate.proofs.chains.has_add.Given as goal

abbrev pub invariant-calls : goal.invariant-calls
invariant-calls l = spec.has_add (map call_of l.fn.calls) ≡ spec.has_add (map call_of l.rest)

abbrev pub decreases-calls : goal.decreases-calls
decreases-calls l = length l.rest

use Rattle.std.proofs.Common.{◌≡◌, take}
use Rattle.jq_stmts.specs.Views.{statements_of}
use Rattle.dead_script.specs.Verdicts.{places_of}
use Rattle.report_tests.proofs.reading.places.Given as goal

abbrev pub invariant-statements : goal.invariant-statements
invariant-statements l = l.places.items ≡ places_of (statements_of (take l.stmt-index l.stmts))

use Rattle.std.proofs.Common.{◌≡◌, map, take}
use Rattle.jq_stmts.specs.Sharp.{is_sharp_statement}
use Rattle.jq_stmts.specs.SharpViews.{exacts_of}
use Rattle.jq_exact.proofs.sharp_statements.sharp_statements.Given as goal

abbrev pub invariant-statements : goal.invariant-statements
invariant-statements l = l.sharp.items ≡ map is_sharp_statement (exacts_of (take l.stmt-index l.stmts))

use Rattle.std.proofs.Common.{◌≡◌, map, drop}
use Rattle.jq_stmts.specs.Sharp.{has_sharp}
use Rattle.jq_stmts.specs.SharpViews.{exact_calls}
use Rattle.jq_stmts.specs.Views.{call_of}
use Rattle.jq_exact.proofs.sharp_statements.has_sharp_call.Given as goal

-- it is told by the calls that are left
abbrev pub invariant-calls : goal.invariant-calls
invariant-calls l = has_sharp (exact_calls l.sharp l.handler 0 (map call_of l.calls)) ≡ has_sharp (exact_calls l.sharp l.handler l.number (map call_of (drop l.number l.calls)))

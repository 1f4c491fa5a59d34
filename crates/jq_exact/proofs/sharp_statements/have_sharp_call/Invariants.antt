use Rattle.std.proofs.Common.{◌≡◌, map, drop}
use Rattle.jq_stmts.specs.Sharp.{have_sharp}
use Rattle.jq_stmts.specs.SharpViews.{exact_handlers}
use Rattle.jq_stmts.specs.Views.{chain_of}
use Rattle.jq_exact.proofs.sharp_statements.have_sharp_call.Given as goal

-- it is told by the handlers that are left
abbrev pub invariant-handlers : goal.invariant-handlers
invariant-handlers l = have_sharp (exact_handlers l.sharp 0 (map chain_of l.handlers)) ≡ have_sharp (exact_handlers l.sharp l.number (map chain_of (drop l.number l.handlers)))

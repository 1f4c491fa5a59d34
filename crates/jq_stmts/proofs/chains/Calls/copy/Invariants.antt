use Rattle.std.proofs.Common.{◌≡◌, map, take}
use Rattle.jq_stmts.specs.Views.{call_of}
use Rattle.jq_stmts.proofs.chains.Calls.copy.Given as goal

abbrev pub invariant-loop-call : goal.invariant-loop-call
invariant-loop-call l = map call_of l.copies.items ≡ map call_of (take l.call-index l.call-items)

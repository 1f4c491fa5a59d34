-- Calls with marks, as the definitions see them.
use Rattle.std.specs.Prelude.{ℕ, List, length, map, sum}
use Rattle.jq_stmts.specs.Statements.{Call}
use Rattle.jq_stmts.specs.Sharp.{ExactCall, ExactChain}
use Rattle.jq_stmts.specs.Views.{root_of, call_of}
use Rattle.jq_stmts.specs.SharpViews.{with_kind}
use Rattle.jq_chains.specs.declared.marked_calls.MarkedCall.{MarkedCall}
use Rattle.jq_chains.specs.declared.marked_calls.MarkedChain.{MarkedChain}

abbrev pub marked_of : MarkedCall → ExactCall
marked_of m = with_kind (call_of m.call) m.kind

-- the call that is judged
abbrev pub judged_of : MarkedCall → Call
judged_of m = call_of m.call

abbrev pub marked_chain_of : MarkedChain → ExactChain
marked_chain_of c = record { root = root_of c.root; calls = map marked_of c.calls.items }

-- how many calls chains have together
abbrev pub calls_in : List ExactChain → ℕ
calls_in chains = sum (map (λ c. length c.calls) chains)

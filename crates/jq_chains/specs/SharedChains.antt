-- Chains with shared parts, as the definitions see them.
use Rattle.std.specs.Prelude.{Bool, true, false, map}
use Rattle.jq_stmts.specs.Sharp.{ExactChain}
use Rattle.jq_stmts.specs.Statements.{Root, matched, this}
use Rattle.jq_stmts.specs.Views as sem
use Rattle.jq_chains.specs.MarkedCalls.{marked_of}
use Rattle.jq_chains.specs.declared.shared_chains.SharedChain.{SharedChain}

abbrev pub shared_of : SharedChain → ExactChain
shared_of c = record { root = sem.root_of c.root; calls = map marked_of c.calls }

-- whether a chain begins with `this`
abbrev pub is_this_root : Root → Bool
is_this_root (matched ss) = false
is_this_root this = true

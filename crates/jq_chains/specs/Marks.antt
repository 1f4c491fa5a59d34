-- The marks of a statement's calls, chain by chain.
--     statement_marks     all of them
use Rattle.std.specs.Prelude.{ℕ, suc, List, [], ◌∷◌, ◌++◌, map, Option, Some, None}
use Rattle.jq_stmts.specs.declared.sharp.Sharp.{Sharp}
use Rattle.jq_stmts.specs.declared.sharp.SharpKind.{SharpKind}
use Rattle.jq_stmts.specs.Statements.{Chain}
use Rattle.jq_stmts.specs.Views.{root_of}
use Rattle.jq_chains.specs.declared.marked_calls.MarkedCall.{MarkedCall}
use Rattle.jq_chains.specs.declared.marked_calls.MarkedChain.{MarkedChain}
use Rattle.jq_chains.specs.MarkedCalls.{judged_of}

-- the mark of the i-th call of a handler's chain, or of the statement's own, where not all of its set is kept
abbrev pub mark_of : Option ℕ → ℕ → Option SharpKind → List Sharp
mark_of h i None = []
mark_of h i (Some kind) = (record { handler = h; call = i; kind = kind }) ∷ []

-- those of calls from the i-th on
abbrev pub marks_of : Option ℕ → ℕ → List MarkedCall → List Sharp
marks_of h i [] = []
marks_of h i (c ∷ calls) = mark_of h i c.kind ++ marks_of h (suc i) calls

-- those of handlers from the i-th on
abbrev pub handlers_marks : ℕ → List MarkedChain → List Sharp
handlers_marks i [] = []
handlers_marks i (c ∷ chains) = marks_of (Some i) 0 c.calls.items ++ handlers_marks (suc i) chains

abbrev pub statement_marks : List MarkedChain → MarkedChain → List Sharp
statement_marks handlers chain = marks_of None 0 chain.calls.items ++ handlers_marks 0 handlers

-- the chain that is judged
abbrev pub judged_chain : MarkedChain → Chain
judged_chain c = record { root = root_of c.root; calls = map judged_of c.calls.items }

-- Linked lists of calls, each with a link to those before it, and the count of those that stand.
use Rattle.std.specs.Prelude.{ℕ, suc, List, [], ◌∷◌, ◌++◌}
use Rattle.jq_chains.specs.declared.marked_calls.MarkedCall.{MarkedCall}
use Rattle.jq_chains.specs.declared.shared_calls.Link.{Link, Start, After'}
use Rattle.jq_chains.specs.declared.shared_calls.Standing.{Standing, Nothing, OneMore'}

-- the calls up to one, from the first on
abbrev pub calls_to : Link → List MarkedCall
calls_to Start = []
calls_to (After' call p earlier) = calls_to earlier ++ call ∷ []

abbrev pub how_many : Standing → ℕ
how_many Nothing = 0
how_many (OneMore' p others) = suc (how_many others)

-- The calls of a chain that no `end` takes back, as a list of references in their order.
use Rattle.std.specs.Prelude.{Bool, true, false, List, [], ◌∷◌}
use denote.Bor.{Bor}
use Rattle.jq_stmts.specs.declared.chains.Call.{Call}
use Rattle.jq_stmts.specs.Views.{call_of}
use Rattle.jq_sem.specs.Statements as script

-- the root, or the empty set where it is taken back
abbrev pub after : Bool → script.Root → script.Root
after true root = script.matched []
after false root = root

-- the calls, in reverse order, before others
abbrev pub last_first : List (Bor Call) → List script.Call → List script.Call
last_first [] others = others
last_first (c ∷ calls) others = last_first calls (call_of c.now ∷ others)

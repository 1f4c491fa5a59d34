use Rattle.std.proofs.Common.{◌≡◌, [], map, take}
use Rattle.jq_sem.specs.Statements as script
use Rattle.jq_stmts.specs.Views.{call_of}
use Rattle.jq_sem.specs.Standing.{after, last_first}
use Rattle.jq_sem.proofs.standing_calls.standing.Given as goal

-- the calls so far make the set of those that stand
abbrev pub invariant-calls : goal.invariant-calls
invariant-calls l = (root : script.Root) → script.stands root (map call_of (take l.c-index l.calls)) ≡ (after l.emptied root, last_first l.stack.items [])

-- The calls of a chain.
--     and_call      a value after one call more
--     made          the call that a form makes
--     below         the elements below a value
--     dot_name      the name of a call, from its `.` on
--     admitted      the number of a call's arguments, where it may stand there with them
--     ended         the value at the end of a chain, where the chain may end with it
use Rattle.std.specs.Prelude.{ℕ, ◌&&◌, not, Bool, true, false, if◌then◌else◌, List, [], ◌∷◌, ◌++◌, map, drop, codes, Option, Some, None, Ok, Err}
use Rattle.sel_text.specs.Selectors.{simple}
use Rattle.jq_stmts.specs.Sharp.{ExactCall, ExactChain, plain, closest, siblings, wide_call}
use Rattle.jq_stmts.specs.Statements.{find, children, parent, parents, filter, has, back, stands}
use Rattle.jq_words.specs.declared.faults.ScriptFault.TheVariants.{UnknownCall, UnknownForm}
use Rattle.jq_words.specs.Words.{Word, is_any_name, begins, Outcome, unexpected}
use Rattle.jq_words.specs.Brackets.{is_empty}
use Rattle.jq_words.specs.Calls.{Form, moves, finding, to_children, to_parent, to_parents, filtering, having, to_closest, to_siblings, takes_first, goes_back, places, listens, Row, row_of}
use Rattle.jq_cursor.specs.Lists.{extent, counts}
use Rattle.jq_parts.specs.Bindings.{Value, elements, everywhere, markup, placed}
use Rattle.jq_parts.specs.Scopes.{matched_chain}
use Rattle.jq_chains.specs.SharedCalls.{has_parents}

-- the chain of a value that is a set of elements
abbrev pub elements_in : Value → Option ExactChain
elements_in (elements chain) = Some chain
elements_in v = None

-- a value after one call more; only a set of elements gets the call
abbrev pub and_call : Value → ExactCall → Value
and_call (elements chain) call = elements (record chain { calls = chain.calls ++ call ∷ [] })
and_call v call = v

-- the call that a form makes from a list of compounds; each form that makes no set gives `back`
abbrev pub made : Form → List (List ℕ) → ExactCall
made (moves finding) cs = plain (find cs)
made (moves to_children) cs = plain (children cs)
made (moves to_parent) cs = plain (parent cs)
made (moves to_parents) cs = plain (parents cs)
made (moves filtering) cs = plain (filter cs)
made (moves having) cs = plain (has cs)
made (moves to_closest) cs = closest cs
made (moves to_siblings) cs = siblings cs
made f cs = plain back

abbrev pub is_everywhere : Value → Bool
is_everywhere everywhere = true
is_everywhere v = false

-- the elements below a value that one of the compounds fits; below document and window these are all elements that fit
unfoldable pub below : Value → List (List ℕ) → Value
below v cs = if is_everywhere v then elements (matched_chain (map simple cs)) else and_call v (plain (find cs))

-- ---- where a call may stand

abbrev pub is_listening : Form → Bool
is_listening listens = true
is_listening f = false

abbrev pub is_placing : Form → Bool
is_placing places = true
is_placing f = false

-- whether a chain has a set to which `end` can go back: one of its calls isn't taken back yet
abbrev pub has_set_before : Form → ExactChain → Bool
has_set_before goes_back chain = not (is_empty (stands chain.root (map wide_call chain.calls)).1)
has_set_before f chain = true

-- Whether a call may stand behind a value: only `on` behind document and window, only calls that place markup behind markup.
unfoldable pub may_stand : Form → Value → Bool
may_stand f (elements chain) = not (is_placing f) && has_set_before f chain
may_stand f everywhere = is_listening f
may_stand f (markup trees) = is_placing f
may_stand f placed = false

abbrev pub is_first : Form → Bool
is_first takes_first = true
is_first f = false

-- whether the first node is unknown, since `parents` lists nodes from the nearest outward
abbrev pub is_unordered : Form → Value → Bool
is_unordered f (elements chain) = is_first f && has_parents (map wide_call chain.calls)
is_unordered f v = false

-- the row of a known call, the offset of its name, and the words behind the name
abbrev pub in_table : Value → Word → List Word → Option Row → Outcome ((Row × ℕ) × List Word)
in_table v w ws None = Err (UnknownCall w.spelling w.at)
in_table v w ws (Some r) = if is_unordered r.form v then Err (UnknownCall w.spelling w.at) else Ok ((r, w.at), ws)

unfoldable pub call_name : Bool → ℕ → Value → List Word → Outcome ((Row × ℕ) × List Word)
call_name exact size v [] = Err (UnknownForm size)
call_name exact size v (w ∷ ws) = if is_any_name w then in_table v w ws (row_of exact w.spelling) else Err (UnknownForm w.at)

abbrev pub is_placed : Value → Bool
is_placed placed = true
is_placed v = false

-- the same from the `.` before the name on; no call stands behind markup that was placed
unfoldable pub dot_name : Bool → ℕ → Value → List Word → Outcome ((Row × ℕ) × List Word)
dot_name exact size v ws = if is_placed v then unexpected size ws else call_name exact size v (drop 1 ws)

-- the number of a call's arguments, where it may stand there with them; its name is at the offset `at`
unfoldable pub admitted : ℕ → Value → Row → ℕ → List Word → Outcome ℕ
admitted size v r at ws =
    if not (may_stand r.form v) then Err (UnknownForm at)
    else if not (begins (codes "(") ws) then unexpected size ws
    else if not (counts r (extent (drop 1 ws))) then Err (UnknownForm at)
    else Ok (extent (drop 1 ws)).count

-- a chain may not end before its markup is placed
unfoldable pub ended : ℕ → Value → List Word → Outcome Value
ended size (markup trees) ws = unexpected size ws
ended size v ws = Ok v

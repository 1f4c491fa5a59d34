-- Parts of statements that are lists of expressions without effect.
--     list_statement    a list, as a statement
--     returned          behind `return`
--     set               a name that gets another value
--     condition         `if` and its condition
--     called_with       what a function is called with where it stands
--     and_list          a comma and a list
use Rattle.std.specs.Prelude.{ℕ, ◌-◌, Bool, if◌then◌else◌, List, drop, codes, Ok}
use Rattle.jq_words.specs.Words.{Word, is_mark_among, first_is, begins, Outcome, ◌>>=◌, unexpected, want, want_open, end_fits, end}
use Rattle.jq_words.specs.FreeLists.{Rules, free}
use Rattle.jq_forms.specs.Openings.{setting}

-- a list, as a statement
unfoldable pub list_statement : ℕ → Rules → List Word → Outcome (List Word)
list_statement size r ws = do
  rest ← free size r ws
  end size rest

-- behind `return`
unfoldable pub returned : ℕ → Rules → List Word → Outcome (List Word)
returned size r ws = if end_fits ws then end size ws else list_statement size r ws

-- a name that gets another value, where it isn't bound to a chain
unfoldable pub set : ℕ → Bool → Rules → List Word → Outcome (List Word)
set size bound r ws =
    if bound then unexpected size ws
    else if first_is (is_mark_among setting) (drop 1 ws) then list_statement size r (drop 2 ws)
    else end size (drop 2 ws)

-- what may stand behind one more bracket
abbrev pub inside : Rules → Rules
inside r = record r { room = r.room - 1 }

-- `if` and its condition
unfoldable pub condition : ℕ → Rules → List Word → Outcome (List Word)
condition size r ws = do
  behind ← want_open size r.room (codes "(") (drop 1 ws)
  rest ← free size (inside r) behind
  want size (codes ")") rest

-- a list, unless a closing bracket stands there
unfoldable pub given : ℕ → Rules → List Word → Outcome (List Word)
given size r ws = if begins (codes ")") ws then Ok ws else free size r ws

-- what a function is called with where it stands, in brackets
unfoldable pub called_with : ℕ → Rules → List Word → Outcome (List Word)
called_with size r ws = do
  behind ← want_open size r.room (codes "(") ws
  rest ← given size (inside r) behind
  want size (codes ")") rest

-- a comma and a list, where there is a comma
unfoldable pub and_list : ℕ → Rules → List Word → Outcome (List Word)
and_list size r ws = if begins (codes ",") ws then free size r (drop 1 ws) else Ok ws

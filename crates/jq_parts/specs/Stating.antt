-- The statements of a script, added one at a time.
use Rattle.std.specs.Prelude.{ℕ, ◌≤◌, nat_le, nat_lt, if◌then◌else◌, List, [], ◌∷◌, ◌++◌, length, map, sum, Option, Some, None, Ok, Err}
use Rattle.tp_base.specs.Places.{place_at}
use Rattle.tree_sem.specs.declared.actions.Action.{Action}
use Rattle.jq_stmts.specs.Sharp.{ExactChain, ExactStatement}
use Rattle.jq_words.specs.declared.faults.ScriptFault.TheVariants.{TooLong, TooManyStatements}
use Rattle.jq_words.specs.declared.faults.TheConstants.{MOST_STATEMENTS, MOST_CALLS, MOST_OPEN}
use Rattle.jq_words.specs.Words.{Outcome}
use Rattle.jq_chains.specs.MarkedCalls.{calls_in}
use Rattle.jq_parts.specs.Scopes.{Handler}

-- The action of a call and the chain of the nodes at which it acts; none where the call doesn't act.
abbrev pub Effect : Type 0
Effect = Option (ExactChain × Action)

abbrev pub chains_of : List Handler → List ExactChain
chains_of hs = map (λ h. h.chain) hs

-- Adds the statement of a call that stands in these handlers, if the call acts. `at` is the offset of its name.
unfoldable pub stated : List ℕ → List Handler → ℕ → Effect → List ExactStatement → Outcome (List ExactStatement)
stated text hs at None ss = Ok ss
stated text hs at (Some (chain, action)) ss =
    if nat_le MOST_STATEMENTS (length ss) then Err (TooManyStatements at)
    else if nat_lt MOST_CALLS (calls_in (chain ∷ chains_of hs)) then Err (TooLong at)
    else Ok (ss ++ record { handlers = chains_of hs; chain = chain; action = action; place = place_at text at } ∷ [])

-- The numbers of a statement's handlers and calls are within their limits, so that each of its marks fits its type.
pub record IsCounted (s : ExactStatement) : Type 0 where
  pub few : length s.handlers ≤ MOST_OPEN
  pub short : calls_in (s.chain ∷ s.handlers) ≤ MOST_CALLS

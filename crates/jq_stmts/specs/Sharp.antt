-- Statements with sharp calls. A sharp call selects less than the wide call by which it is judged.
--     ExactStatement     a statement as it stands in the script
--     wide_of            the statement that is judged in its place
use Rattle.std.specs.Prelude.{ℕ, Bool, true, false, ◌||◌, List, [], ◌∷◌, map}
use Rattle.tp_base.specs.declared.places.Place.{Place}
use Rattle.tree_sem.specs.declared.actions.Action.{Action}
use Rattle.jq_stmts.specs.Statements.{Root, Call, around, near, filter, Chain, Statement}

-- a call that is judged as it stands, or a sharp one: upward from each node the nearest that fits, the siblings, or the first node
pub data ExactCall : Type 0 where
  plain : Call → ExactCall
  closest : List (List ℕ) → ExactCall
  siblings : List (List ℕ) → ExactCall
  first : ExactCall

pub record ExactChain : Type 0 where
  pub root : Root
  pub calls : List ExactCall

pub record ExactStatement : Type 0 where
  pub handlers : List ExactChain
  pub chain : ExactChain
  pub action : Action
  pub place : Place

-- the call by which a call is judged; a compound without atoms fits every node
abbrev pub wide_call : ExactCall → Call
wide_call (plain c) = c
wide_call (closest cs) = around cs
wide_call (siblings cs) = near cs
wide_call first = filter ([] ∷ [])

abbrev pub wide_chain : ExactChain → Chain
wide_chain c = record { root = c.root; calls = map wide_call c.calls }

abbrev pub wide_of : ExactStatement → Statement
wide_of s = record { handlers = map wide_chain s.handlers; chain = wide_chain s.chain; action = s.action; place = s.place }

abbrev pub wides : List ExactStatement → List Statement
wides ss = map wide_of ss

-- a chain, and a statement, without sharp calls
abbrev pub exactly : Chain → ExactChain
exactly c = record { root = c.root; calls = map plain c.calls }

abbrev pub exact_statement : Statement → ExactStatement
exact_statement s = record { handlers = map exactly s.handlers; chain = exactly s.chain; action = s.action; place = s.place }

-- whether a call is sharp, and whether calls, chains or a statement have a sharp call
abbrev pub is_sharp : ExactCall → Bool
is_sharp (plain c) = false
is_sharp c = true

abbrev pub has_sharp : List ExactCall → Bool
has_sharp [] = false
has_sharp (c ∷ calls) = is_sharp c || has_sharp calls

abbrev pub have_sharp : List ExactChain → Bool
have_sharp [] = false
have_sharp (c ∷ chains) = has_sharp c.calls || have_sharp chains

abbrev pub is_sharp_statement : ExactStatement → Bool
is_sharp_statement s = has_sharp s.chain.calls || have_sharp s.handlers

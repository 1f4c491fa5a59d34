-- The arguments of a call that takes no function.
--     move_arguments, unite_arguments, class_arguments, attribute_arguments, grow_arguments, place_arguments
use Rattle.std.specs.Prelude.{ℕ, Bool, true, false, not, if◌then◌else◌, List, [], drop, codes, Option, Some, None, Ok, Err}
use Rattle.text_bytes.specs.Attributes.{with_value}
use Rattle.tp_base.specs.Names.{Named}
use Rattle.tree_sem.specs.Trees.{LabelTree}
use Rattle.tree_sem.specs.declared.actions.Action.{Action}
use Rattle.tree_sem.specs.declared.actions.Action.TheVariants.{Classes, Inside, Beside}
use Rattle.jq_stmts.specs.Sharp.{plain, ExactChain}
use Rattle.jq_stmts.specs.Statements.{add}
use Rattle.jq_words.specs.declared.faults.ScriptFault.TheVariants.{ComplexArgument}
use Rattle.jq_words.specs.Words.{Word, begins, Outcome, ◌>>=◌}
use Rattle.jq_words.specs.Calls.{Form}
use Rattle.jq_parts.specs.Bindings.{Value, markup, placed}
use Rattle.jq_cursor.specs.Selections.{selectors, compounds, class_set, is_attribute, with_attribute}
use Rattle.jq_cursor.specs.TextArguments.{some_argument, text_argument}
use Rattle.jq_forms.specs.ListParts.{and_list}
use Rattle.jq_parts.specs.Arguments.{markup_argument, target}
use Rattle.jq_parts.specs.Stating.{Effect}
use Rattle.jq_read.specs.States.{Context, State, size, with_names, scope_in}
use Rattle.jq_read.specs.Functions.{rules_in}
use Rattle.jq_parts.specs.Calls.{elements_in, and_call, made}

-- What the arguments of a call leave: the chain's value, what the call does, the state, and the words from the closing bracket on.
abbrev pub Done : Type 0
Done = Outcome ((Value × Effect) × State × List Word)

abbrev pub done : Value → Effect → State → List Word → Done
done v e s ws = Ok ((v, e), s, ws)

-- ---- calls that make a set

-- a list of compounds, or no argument where there may be none
unfoldable pub compounds_argument : ℕ → Bool → List Named → List Word → Outcome (List (List ℕ) × List Named × List Word)
compounds_argument size none names ws =
    if none then Ok ([], names, ws)
    else (text_argument size ws >>= λ t. compounds t.1 t.0 names >>= λ r. Ok (r.0, r.1, t.2))

unfoldable pub move_arguments : Context → Form → Bool → Value → State → List Word → Done
move_arguments c f none v s ws = do
  m ← compounds_argument (size c) none s.grown.names ws
  done (and_call v (made f m.0)) None (with_names m.1 s) m.2

unfoldable pub unite_arguments : Context → Value → State → List Word → Done
unite_arguments c v s ws = do
  t ← text_argument (size c) ws
  r ← selectors t.1 t.0 s.grown.names
  done (and_call v (plain (add r.0))) None (with_names r.1 s) t.2

-- ---- calls that act

-- what is done to the elements of a value
abbrev pub acting : Option ExactChain → Action → Effect
acting (Some chain) action = Some (chain, action)
acting None action = None

-- classes, and then a list where there is a comma
unfoldable pub class_arguments : Context → ℕ → Value → State → List Word → Done
class_arguments c room v s ws = do
  t ← text_argument (size c) ws
  r ← class_set t.1 t.0 s.grown.names
  rest ← and_list (size c) (rules_in c room true) t.2
  done v (acting (elements_in v) (Classes r.0)) (with_names r.1 s) rest

-- The value that an attribute gets, from the comma on, with the letters of its name and the offset of the first Text of them. The name's
-- atom comes before the value is read, so that faults come in reading order.
unfoldable pub value_argument : Context → Value → State → List ℕ → ℕ → List Word → Done
value_argument c v s name at ws =
    if not (is_attribute name) then Err (ComplexArgument at)
    else (with_attribute at name [] s.grown.names >>= λ one.
    text_argument (size c) (drop 1 ws) >>= λ t.
    with_attribute t.1 (with_value name t.0) one.0 one.1 >>= λ both.
    done v (acting (elements_in v) (Classes both.0)) (with_names both.1 s) t.2)

-- an attribute's name, and its value where a comma follows; a name alone reads the attribute, which does nothing
unfoldable pub attribute_arguments : Context → Value → State → List Word → Done
attribute_arguments c v s ws = do
  t ← text_argument (size c) ws
  if begins (codes ",") t.2 then value_argument c v s t.0 t.1 t.2 else done v None s t.2

abbrev pub added : Bool → List LabelTree → Action
added true trees = Beside (record { tops = trees })
added false trees = Inside (record { tops = trees })

-- markup that is added
unfoldable pub grow_arguments : Context → ℕ → Bool → Value → State → List Word → Done
grow_arguments c room beside v s ws = do
  given ← some_argument (size c) ws
  f ← markup_argument (size c) room given.0 s.grown
  done v (acting (elements_in v) (added beside f.0)) (record s { grown = f.1 }) given.1

abbrev pub trees_in : Value → List LabelTree
trees_in (markup trees) = trees
trees_in v = []

-- the root's markup is placed, which ends the chain
unfoldable pub place_arguments : Context → ℕ → Value → State → List Word → Done
place_arguments c room v s ws = do
  given ← some_argument (size c) ws
  r ← target (size c) room (scope_in c s) given.0 s.grown.names
  done placed (Some (r.0, Inside (record { tops = trees_in v }))) (with_names r.1 s) given.1

-- No statement of a script has more handlers than brackets may be open, rule by rule: a handler's function stands in a bracket of its own.
use Rattle.std.proofs.Common.{◌≡◌, ℕ, zero, suc, ◌+◌, ◌-◌, ◌<◌, ◌≤◌, ◌==◌, Bool, true, false, not, ◌&&◌, List, [], ◌∷◌, length, drop, Option, Some, None, codes, refl, arith, length-append}
use Rattle.std.specs.Prelude.{Ok, Err, IfOk, nat_le, nat_lt}
use Rattle.std.specs.List.{AllByRecursion}
use Rattle.std.proofs.lemmas.Result.{IfOk-at_ok}
use Rattle.std.proofs.lemmas.List.{length-map}
use Rattle.text_bytes.specs.Attributes.{with_value}
use Rattle.tp_base.specs.Names.{Named}
use Rattle.tp_base.specs.Places.{place_at}
use Rattle.jq_stmts.specs.Sharp.{ExactChain, ExactStatement}
use Rattle.jq_words.specs.declared.faults.ScriptFault.TheVariants.{TooManyStatements, TooLong}
use Rattle.jq_words.specs.declared.faults.TheConstants.{MOST_STATEMENTS, MOST_CALLS, MOST_OPEN}
use Rattle.jq_words.specs.Words.{Word, Outcome, is_mark, begins, begins_name, place, want, want_name, want_open, end}
use Rattle.jq_words.specs.Calls.{Form, moves, takes_first, unites, goes_back, classes, attributes, grows, places, handles, listens, passes}
use Rattle.jq_parts.specs.Bindings.{Value, Declaration}
use Rattle.jq_parts.specs.Scopes.{Handler, with_handler}
use Rattle.jq_cursor.specs.Selections.{selectors, compounds, class_set, is_attribute, with_attribute}
use Rattle.jq_parts.specs.Markup.{Grown}
use Rattle.jq_cursor.specs.TextArguments.{text_argument, some_argument}
use Rattle.jq_parts.specs.Arguments.{markup_argument, target}
use Rattle.jq_parts.specs.Stating.{Effect, stated, chains_of, IsCounted}
use Rattle.jq_chains.specs.MarkedCalls.{calls_in}
use Rattle.jq_parts.specs.Parameters.{parameters}
use Rattle.jq_parts.specs.Roots.{root}
use Rattle.jq_forms.specs.Values.{is_chain}
use Rattle.jq_forms.specs.declared.forms.StatementForm.{StatementForm}
use Rattle.jq_forms.specs.declared.forms.StatementForm.TheVariants as form
use Rattle.jq_read.specs.States.{Context, State, size, scope_in}
use Rattle.jq_read.specs.Functions.{Block, function_body, function, handler_at, in_handler, handed, rules_in}
use Rattle.jq_forms.specs.Heads.{behind_name, want_function, handed_other, behind_one, behind_document}
use Rattle.jq_parts.specs.Calls.{elements_in, dot_name, admitted, ended}
use Rattle.jq_read.specs.CallArguments.{compounds_argument, move_arguments, unite_arguments, class_arguments, value_argument, attribute_arguments, grow_arguments, place_arguments}
use Rattle.jq_forms.specs.ListParts.{and_list, called_with}
use Rattle.jq_read.specs.Chains.{several, listened, listening, listen_arguments, unchanged, at_least, arguments_of, and_stated, call, all_read, calls, chain}
use Rattle.jq_read.specs.Statements.{Blocks, and_end, bracketed, start, ready, once, timer, named_function, declared_value, value_behind, one, more_ones, declaration, chain_statement, with_state, statement_as, is_branch, form_at, statement, closes, sequence, no_block, braces, block, is_bound}
use Rattle.jq_words.specs.FreeLists.{free}
use Rattle.jq_read.specs.Script.{at_top, nothing_read, script_of}
use Rattle.jq_parts.proofs.TableLaws.{and_then}
use Rattle.jq_read.proofs.ReadingLaws.{any_then, either, all_push}
use Rattle.jq_read.proofs.LimitLaws.{length_of, IsIn, sequence_in, blocks_in, nothing_in}

-- ---- statements

abbrev pub IsNested : ExactStatement → Type 0
IsNested t = length t.handlers ≤ MOST_OPEN

abbrev pub AreNested : State → Type 0
AreNested s = AllByRecursion IsNested s.statements

stated_nested : (c : Context) (at : ℕ) (e : Effect) (s : State) → length c.handlers ≤ MOST_OPEN → AreNested s → IfOk (and_stated c at e s) AreNested
unfolding and_stated stated
stated_nested c at None s few here = here
stated_nested c at (Some (chain, action)) s few here =
    let one : ExactStatement = record { handlers = chains_of c.handlers; chain = chain; action = action; place = place_at c.text at } in
    let nested : IsNested one = omega (arith, length-map c.handlers (λ h. h.chain), few) in
    and_then (AllByRecursion IsNested) AreNested _ _
    (either (AllByRecursion IsNested) (nat_le MOST_STATEMENTS (length s.statements)) (Err (TooManyStatements at)) _ tt
    (either (AllByRecursion IsNested) (nat_lt MOST_CALLS (calls_in (chain ∷ chains_of c.handlers))) (Err (TooLong at)) _ tt (all_push IsNested s.statements one here nested)))
    (λ ss known. known)

-- ---- arguments

abbrev DoneNested : (Value × Effect) × State × List Word → Type 0
DoneNested d = AreNested d.1

move_nested : (c : Context) (f : Form) (none : Bool) (v : Value) (s : State) (ws : List Word) → AreNested s → IfOk (move_arguments c f none v s ws) DoneNested
unfolding move_arguments
move_nested c f none v s ws here = any_then _ (compounds_argument (size c) none s.grown.names ws) _ (λ m. here)

unite_nested : (c : Context) (v : Value) (s : State) (ws : List Word) → AreNested s → IfOk (unite_arguments c v s ws) DoneNested
unfolding unite_arguments
unite_nested c v s ws here = any_then _ (text_argument (size c) ws) _ (λ t. any_then _ (selectors t.1 t.0 s.grown.names) _ (λ r. here))

class_nested : (room : ℕ) (c : Context) (v : Value) (s : State) (ws : List Word) → AreNested s → IfOk (class_arguments c room v s ws) DoneNested
unfolding class_arguments
class_nested room c v s ws here =
    any_then _ (text_argument (size c) ws) _ (λ t.
    any_then _ (class_set t.1 t.0 s.grown.names) _ (λ r.
    any_then _ (and_list (size c) (rules_in c room true) t.2) _ (λ rest. here)))

given_nested : (c : Context) (v : Value) (s : State) (name : List ℕ) (at : ℕ) (ws : List Word) → AreNested s → IfOk (value_argument c v s name at ws) DoneNested
unfolding value_argument
given_nested c v s name at ws here =
    either _ (not (is_attribute name)) _ _ tt
    (any_then _ (with_attribute at name [] s.grown.names) _ (λ one.
    any_then _ (text_argument (size c) (drop 1 ws)) _ (λ t.
    any_then _ (with_attribute t.1 (with_value name t.0) one.0 one.1) _ (λ both. here))))

attribute_nested : (c : Context) (v : Value) (s : State) (ws : List Word) → AreNested s → IfOk (attribute_arguments c v s ws) DoneNested
unfolding attribute_arguments
attribute_nested c v s ws here =
    any_then _ (text_argument (size c) ws) _ (λ t.
    either _ (begins (codes ",") t.2) _ _ (given_nested c v s t.0 t.1 t.2 here) here)

grow_nested : (room : ℕ) (c : Context) (beside : Bool) (v : Value) (s : State) (ws : List Word) → AreNested s → IfOk (grow_arguments c room beside v s ws) DoneNested
unfolding grow_arguments
grow_nested room c beside v s ws here =
    any_then _ (some_argument (size c) ws) _ (λ given.
    any_then _ (markup_argument (size c) room given.0 s.grown) _ (λ f. here))

placing_nested : (room : ℕ) (c : Context) (v : Value) (s : State) (ws : List Word) → AreNested s → IfOk (place_arguments c room v s ws) DoneNested
unfolding place_arguments
placing_nested room c v s ws here =
    any_then _ (some_argument (size c) ws) _ (λ given.
    any_then _ (target (size c) room (scope_in c s) given.0 s.grown.names) _ (λ r. here))

-- ---- functions

-- where no more than so many handlers stand round it, a block leaves statements that have few
abbrev pub LeavesNested : ℕ → Block → Type 0
LeavesNested n block = (c : Context) (s : State) (ws : List Word) → length c.handlers ≤ n → AreNested s → IfOk (block c s ws) (λ r. AreNested r.0)

one_deeper : (n : ℕ) (hs : List Handler) (h : Option Handler) → length hs < n → length (with_handler h hs) ≤ n
one_deeper n hs None few = omega (arith, few)
one_deeper n hs (Some h) few = omega (arith, length-append hs (h ∷ []), few)

module _ (n : ℕ) (most : n ≤ suc MOST_OPEN) (block : Block) (leaves : LeavesNested n block) where
  body_nested : (room : ℕ) (c : Context) (s : State) (ws : List Word) → length c.handlers ≤ n → AreNested s → IfOk (function_body block room c s ws) (λ r. AreNested r.0)
  unfolding function_body
  body_nested room c s ws few here =
      any_then _ (parameters (size c) room s.declarations ws) _ (λ head.
      and_then _ _ (block c (record s { declarations = head.0 }) head.1) _ (leaves c (record s { declarations = head.0 }) head.1 few here) (λ body known. known))

  function_nested : (room : ℕ) (c : Context) (s : State) (ws : List Word) → length c.handlers ≤ n → AreNested s → IfOk (function block room c s ws) (λ r. AreNested r.0)
  unfolding function
  function_nested room c s ws few here = any_then _ (want_function (size c) ws) _ (λ behind. body_nested room c s (behind_name behind) few here)

  handed_nested : (lists : Bool) (room : ℕ) (c : Context) (chain : Option ExactChain) (s : State) (ws : List Word) → length c.handlers < n → AreNested s
      → IfOk (handed lists block room c chain s ws) (λ r. AreNested r.0)
  unfolding handed
  handed_nested lists room c chain s ws few here =
      let inner = handler_at (place (size c) ws) chain in
      either _ (begins_name (codes "function") ws) _ _ (function_nested room (in_handler c inner) s ws (one_deeper n c.handlers inner few) here)
      (any_then _ (handed_other lists (size c) (rules_in c room true) ws) _ (λ rest. here))

  several_nested : (lists : Bool) (room : ℕ) (c : Context) (chain : Option ExactChain) (m : ℕ) (s : State) (ws : List Word) → length c.handlers < n → AreNested s
      → IfOk (several lists block room c chain m s ws) (λ r. AreNested r.0)
  unfolding several
  several_nested lists room c chain zero s ws few here = here
  several_nested lists room c chain (suc others) s ws few here =
      and_then _ _ (handed lists block room c chain s ws) _ (handed_nested lists room c chain s ws few here) (λ f known.
      any_then _ (behind_one (size c) others f.1) _ (λ next. several_nested lists room c chain others f.0 next few known))

  listened_nested : (size : ℕ) (v : Value) (narrowed : Bool) (s : State) (ws : List Word) → AreNested s → IfOk (listened size v narrowed s ws) (λ r. AreNested r.1)
  unfolding listened
  listened_nested size v false s ws here = here
  listened_nested size v true s ws here =
      any_then _ (text_argument size ws) _ (λ t.
      any_then _ (compounds t.1 t.0 s.grown.names) _ (λ r.
      any_then _ (want size (codes ",") t.2) _ (λ rest. here)))

  listen_nested : (room : ℕ) (c : Context) (v : Value) (narrowed : Bool) (s : State) (ws : List Word) → length c.handlers < n → AreNested s
      → IfOk (listen_arguments block room c v narrowed s ws) (λ r. AreNested r.0)
  unfolding listen_arguments listening
  listen_nested room c v narrowed s ws few here =
      and_then _ _ (listening (size c) v narrowed s ws) _
      (any_then _ (text_argument (size c) ws) _ (λ t. any_then _ (want (size c) (codes ",") t.2) _ (λ behind. listened_nested (size c) v narrowed s behind here)))
      (λ r known. handed_nested false room c (elements_in r.0) r.1 r.2 few known)

  unchanged_nested : (v : Value) (r : Outcome (State × List Word)) → IfOk r (λ t. AreNested t.0) → IfOk (unchanged v r) DoneNested
  unchanged_nested v r known = and_then _ _ r _ known (λ t here. here)

  arguments_nested : (room : ℕ) (c : Context) (v : Value) (f : Form) (name : List ℕ) (fewest : ℕ) (last : Option ℕ) (count : ℕ) (s : State) (ws : List Word)
      → length c.handlers < n → AreNested s → IfOk (arguments_of block room c v (record { name = name; fewest = fewest; most = last; form = f }) count s ws) DoneNested
  unfolding arguments_of
  arguments_nested room c v (moves step) name fewest last count s ws few here = move_nested c (moves step) (count == 0 && fewest == 0) v s ws here
  arguments_nested room c v takes_first name fewest last count s ws few here = here
  arguments_nested room c v unites name fewest last count s ws few here = unite_nested c v s ws here
  arguments_nested room c v goes_back name fewest last count s ws few here = here
  arguments_nested room c v classes name fewest last count s ws few here = class_nested room c v s ws here
  arguments_nested room c v attributes name fewest last count s ws few here = attribute_nested c v s ws here
  arguments_nested room c v (grows beside) name fewest last count s ws few here = grow_nested room c beside v s ws here
  arguments_nested room c v places name fewest last count s ws few here = placing_nested room c v s ws here
  arguments_nested room c v handles name fewest last count s ws few here = unchanged_nested v _ (several_nested false room c (elements_in v) (at_least fewest count) s ws few here)
  arguments_nested room c v listens name fewest last count s ws few here = unchanged_nested v _ (listen_nested room c v (count == 3) s ws few here)
  arguments_nested room c v passes name fewest last count s ws few here = unchanged_nested v _ (several_nested true room c (elements_in v) count s ws few here)

  call_nested : (room : ℕ) (c : Context) (v : Value) (s : State) (ws : List Word) → length c.handlers < n → AreNested s → IfOk (call block room c v s ws) (λ r. AreNested r.1)
  unfolding call
  call_nested room c v s ws few here =
      any_then _ (dot_name c.exact (size c) v ws) _ (λ name.
      any_then _ (admitted (size c) v name.0.0 name.0.1 name.1) _ (λ count.
      any_then _ (want_open (size c) room (codes "(") name.1) _ (λ inside.
      and_then _ _ (arguments_of block (room - 1) c v name.0.0 count s inside) _
      (arguments_nested (room - 1) c v name.0.0.form name.0.0.name name.0.0.fewest name.0.0.most count s inside few here) (λ d known.
      any_then _ (want (size c) (codes ")") d.2) _ (λ rest.
      and_then _ _ (and_stated c name.0.1 d.0.1 d.1) _ (stated_nested c name.0.1 d.0.1 d.1 (omega (arith, few, most)) known) (λ t there. there))))))

  ended_nested : (size : ℕ) (v : Value) (s : State) (ws : List Word) → AreNested s → IfOk (all_read s ws (ended size v ws)) (λ r. AreNested r.1)
  ended_nested size v s ws here = any_then _ (ended size v ws) _ (λ w. here)

  calls_nested : (room : ℕ) (c : Context) (v : Value) (s : State) (skip : ℕ) (ws : List Word) → length c.handlers < n → AreNested s → IfOk (calls block room c v s skip ws) (λ r. AreNested r.1)
  unfolding calls
  calls_nested room c v s skip [] few here = ended_nested (size c) v s [] here
  calls_nested room c v s (suc skip) (w ∷ ws) few here = calls_nested room c v s skip ws few here
  calls_nested room c v s zero (w ∷ ws) few here =
      either _ (is_mark (codes ".") w) _ _
      (and_then _ _ (call block room c v s (w ∷ ws)) _ (call_nested room c v s (w ∷ ws) few here) (λ r known. calls_nested room c r.0 r.1 (length ws - length r.2) ws few known))
      (ended_nested (size c) v s (w ∷ ws) here)

  chain_nested : (room : ℕ) (c : Context) (s : State) (ws : List Word) → length c.handlers < n → AreNested s → IfOk (chain block room c s ws) (λ r. AreNested r.1)
  unfolding chain
  chain_nested room c s ws few here =
      any_then _ (root (size c) room (scope_in c s) s.grown ws) _ (λ r. calls_nested room c r.0 (record s { grown = r.1 }) 0 r.2 few here)

-- ---- statements

module _ (n : ℕ) (most : n ≤ MOST_OPEN) (blocks : Blocks) (here_leaves : LeavesNested n (blocks 0)) (deeper_leaves : LeavesNested (suc n) (blocks 1)) where
  abbrev StateNested : State × List Word → Type 0
  StateNested r = AreNested r.0

  deep : suc n ≤ suc MOST_OPEN
  deep = omega (arith, most)

  wider : n ≤ suc MOST_OPEN
  wider = omega (arith, most)

  end_nested : (c : Context) (s : State) (ws : List Word) → AreNested s → IfOk (and_end c s ws) StateNested
  end_nested c s ws here = any_then _ (end (size c) ws) _ (λ rest. here)

  bracketed_nested : (room : ℕ) (c : Context) (s : State) (ws : List Word) → length c.handlers ≤ n → AreNested s → IfOk (bracketed blocks room c s ws) StateNested
  unfolding bracketed
  bracketed_nested room c s ws few here =
      any_then _ (want_open (size c) room (codes "(") ws) _ (λ inside.
      and_then _ _ (function (blocks 1) (room - 1) (in_handler c None) s inside) _
      (function_nested (suc n) deep (blocks 1) deeper_leaves (room - 1) (in_handler c None) s inside (omega (arith, few)) here) (λ f known.
      any_then _ (want (size c) (codes ")") f.1) _ (λ rest. known)))

  start_nested : (room : ℕ) (c : Context) (s : State) (ws : List Word) → length c.handlers ≤ n → AreNested s → IfOk (start blocks room c s ws) StateNested
  unfolding start
  start_nested room c s ws few here = and_then _ _ (bracketed blocks room c s ws) _ (bracketed_nested room c s ws few here) (λ f known. end_nested c f.0 f.1 known)

  ready_nested : (room : ℕ) (c : Context) (s : State) (ws : List Word) → length c.handlers ≤ n → AreNested s → IfOk (ready blocks room c s ws) StateNested
  unfolding ready
  ready_nested room c s ws few here = any_then _ (behind_document (size c) room ws) _ (λ behind. start_nested room c s behind few here)

  once_nested : (room : ℕ) (c : Context) (s : State) (ws : List Word) → length c.handlers ≤ n → AreNested s → IfOk (once blocks room c s ws) StateNested
  unfolding once
  once_nested room c s ws few here =
      and_then _ _ (bracketed blocks room c s ws) _ (bracketed_nested room c s ws few here) (λ f known.
      any_then _ (called_with (size c) (rules_in c room false) f.1) _ (λ rest. end_nested c f.0 rest known))

  timer_nested : (room : ℕ) (c : Context) (s : State) (ws : List Word) → length c.handlers ≤ n → AreNested s → IfOk (timer blocks room c s ws) StateNested
  unfolding timer
  timer_nested room c s ws few here =
      any_then _ (want_open (size c) room (codes "(") ws) _ (λ inside.
      and_then _ _ (handed false (blocks 1) (room - 1) c None s inside) _
      (handed_nested (suc n) deep (blocks 1) deeper_leaves false (room - 1) c None s inside (omega (arith, few)) here) (λ f known.
      any_then _ (and_list (size c) (rules_in c (room - 1) false) f.1) _ (λ rest.
      any_then _ (want (size c) (codes ")") rest) _ (λ behind. end_nested c f.0 behind known))))

  named_function_nested : (room : ℕ) (c : Context) (s : State) (ws : List Word) → length c.handlers ≤ n → AreNested s → IfOk (named_function blocks room c s ws) StateNested
  unfolding named_function
  named_function_nested room c s ws few here =
      any_then _ (want_name (size c) ws) _ (λ name. body_nested n wider (blocks 0) here_leaves room (in_handler c None) s name.1 few here)

  abbrev ValueNested : Option Value × State × List Word → Type 0
  ValueNested r = AreNested r.1

  declared_nested : (room : ℕ) (c : Context) (s : State) (ws : List Word) → length c.handlers ≤ n → AreNested s → IfOk (declared_value blocks room c s ws) ValueNested
  unfolding declared_value
  declared_nested room c s ws few here =
      either _ (begins_name (codes "function") ws) _ _
      (and_then _ _ (function (blocks 0) room (in_handler c None) s ws) _ (function_nested n wider (blocks 0) here_leaves room (in_handler c None) s ws few here) (λ f known. known))
      (either _ (is_chain c.exact (is_bound s ws) ws) _ _
      (and_then _ _ (chain (blocks 1) room c s ws) _ (chain_nested (suc n) deep (blocks 1) deeper_leaves room c s ws (omega (arith, few)) here) (λ r known. known))
      (any_then _ (free (size c) (rules_in c room false) ws) _ (λ rest. here)))

  value_nested : (room : ℕ) (c : Context) (s : State) (ws : List Word) → length c.handlers ≤ n → AreNested s → IfOk (value_behind blocks room c s ws) ValueNested
  unfolding value_behind
  value_nested room c s ws few here = either _ (begins (codes "=") ws) _ _ (declared_nested room c s (drop 1 ws) few here) here

  one_nested : (room : ℕ) (c : Context) (s : State) (ws : List Word) → length c.handlers ≤ n → AreNested s → IfOk (one blocks room c s ws) StateNested
  unfolding one
  one_nested room c s ws few here =
      any_then _ (want_name (size c) ws) _ (λ name.
      and_then _ _ (value_behind blocks room c s name.1) _ (value_nested room c s name.1 few here) (λ v known. known))

  more_ones_nested : (room : ℕ) (c : Context) (s : State) (skip : ℕ) (ws : List Word) → length c.handlers ≤ n → AreNested s → IfOk (more_ones blocks room c s skip ws) StateNested
  unfolding more_ones
  more_ones_nested room c s skip [] few here = here
  more_ones_nested room c s (suc skip) (w ∷ ws) few here = more_ones_nested room c s skip ws few here
  more_ones_nested room c s zero (w ∷ ws) few here =
      either _ (is_mark (codes ",") w) _ _
      (and_then _ _ (one blocks room c s ws) _ (one_nested room c s ws few here) (λ r known. more_ones_nested room c r.0 (length ws - length r.1) ws few known))
      here

  declaration_nested : (room : ℕ) (c : Context) (s : State) (ws : List Word) → length c.handlers ≤ n → AreNested s → IfOk (declaration blocks room c s ws) StateNested
  unfolding declaration
  declaration_nested room c s ws few here =
      and_then _ _ (one blocks room c s ws) _ (one_nested room c s ws few here) (λ first known.
      and_then _ _ (more_ones blocks room c first.0 0 first.1) _ (more_ones_nested room c first.0 0 first.1 few known) (λ all there. end_nested c all.0 all.1 there))

  chain_statement_nested : (room : ℕ) (c : Context) (s : State) (ws : List Word) → length c.handlers ≤ n → AreNested s → IfOk (chain_statement blocks room c s ws) StateNested
  unfolding chain_statement
  chain_statement_nested room c s ws few here =
      and_then _ _ (chain (blocks 1) room c s ws) _ (chain_nested (suc n) deep (blocks 1) deeper_leaves room c s ws (omega (arith, few)) here) (λ r known. end_nested c r.1 r.2 known)

  list_nested : (s : State) (r : Outcome (List Word)) → AreNested s → IfOk (with_state s r) StateNested
  list_nested s r here = any_then _ r _ (λ rest. here)

  statement_nested : (f : StatementForm) (room : ℕ) (c : Context) (s : State) (ws : List Word) → length c.handlers ≤ n → AreNested s → IfOk (statement_as f blocks room c s ws) StateNested
  unfolding statement_as
  statement_nested form.Empty room c s ws few here = here
  statement_nested form.Block room c s ws few here = here_leaves c s ws few here
  statement_nested form.Declaration room c s ws few here = declaration_nested room c s (drop 1 ws) few here
  statement_nested form.Function room c s ws few here = named_function_nested room c s (drop 1 ws) few here
  statement_nested form.Branch room c s ws few here = list_nested s _ here
  statement_nested form.Return room c s ws few here = list_nested s _ here
  statement_nested form.Start room c s ws few here = start_nested room c s (drop 1 ws) few here
  statement_nested form.Ready room c s ws few here = ready_nested room c s (drop 1 ws) few here
  statement_nested form.Chain room c s ws few here = chain_statement_nested room c s ws few here
  statement_nested form.Foreign room c s ws few here = tt
  statement_nested form.Timer room c s ws few here = timer_nested room c s (drop 1 ws) few here
  statement_nested form.Set room c s ws few here = list_nested s _ here
  statement_nested form.Once room c s ws few here = once_nested room c s ws few here
  statement_nested form.Free room c s ws few here = list_nested s _ here

  whole_nested : (room : ℕ) (c : Context) (s : State) (skip : ℕ) (ws : List Word) → length c.handlers ≤ n → AreNested s → IfOk (statement blocks room c s skip ws) StateNested
  unfolding statement
  whole_nested room c s skip [] few here = tt
  whole_nested room c s (suc skip) (w ∷ ws) few here = whole_nested room c s skip ws few here
  whole_nested room c s zero (w ∷ ws) few here =
      and_then _ _ (statement_as (form_at s (w ∷ ws)) blocks room c s (w ∷ ws)) _ (statement_nested (form_at s (w ∷ ws)) room c s (w ∷ ws) few here) (λ begun known.
      either _ (is_branch (form_at s (w ∷ ws))) _ _
      (and_then _ _ (statement blocks room c begun.0 (length ws - length begun.1) ws) _ (whole_nested room c begun.0 (length ws - length begun.1) ws few known) (λ first there.
      either _ (begins_name (codes "else") first.1) _ _ (whole_nested room c first.0 (length ws - length (drop 1 first.1)) ws few there) there))
      known)

  sequence_nested : (in_block : Bool) (room : ℕ) (c : Context) (s : State) (skip : ℕ) (ws : List Word) → length c.handlers ≤ n → AreNested s → IfOk (sequence in_block blocks room c s skip ws) StateNested
  unfolding sequence
  sequence_nested in_block room c s skip [] few here = either _ in_block _ _ tt here
  sequence_nested in_block room c s (suc skip) (w ∷ ws) few here = sequence_nested in_block room c s skip ws few here
  sequence_nested in_block room c s zero (w ∷ ws) few here =
      either _ (closes in_block w) _ _ here
      (and_then _ _ (statement blocks room c s 0 (w ∷ ws)) _ (whole_nested room c s 0 (w ∷ ws) few here) (λ r known. sequence_nested in_block room c r.0 (length ws - length r.1) ws few known))

-- ---- blocks and files

braces_nested : (n room : ℕ) (blocks : Blocks) → n ≤ MOST_OPEN → LeavesNested n (blocks 0) → LeavesNested (suc n) (blocks 1) → LeavesNested n (braces room blocks)
unfolding braces
braces_nested n room blocks most leaves deeper c s ws few here =
    any_then _ (want_open (size c) (suc room) (codes "{") ws) _ (λ inside.
    and_then _ _ (sequence true blocks room c s 0 inside) _ (sequence_nested n most blocks leaves deeper true room c s 0 inside few here) (λ all known. known))

-- the handlers round a block, and the brackets that may still be opened in it, are together no more than may be open
blocks_nested : (room opened n : ℕ) → n + room ≤ MOST_OPEN + opened → LeavesNested n (block room opened)
unfolding block no_block
blocks_nested zero opened n fits c s ws few here = any_then _ (want_open (size c) 0 (codes "{") ws) _ (λ inside. here)
blocks_nested (suc room) (suc opened) n fits c s ws few here = blocks_nested room opened n (omega (arith, fits)) c s ws few here
blocks_nested (suc room) zero n fits c s ws few here =
    braces_nested n room (block room) (omega (arith, fits)) (blocks_nested room 0 n (omega (arith, fits))) (blocks_nested room 1 (suc n) (omega (arith, fits))) c s ws few here

both : (ss : List ExactStatement) → AllByRecursion IsNested ss → AllByRecursion (λ t. length_of t ≤ MOST_CALLS) ss → AllByRecursion IsCounted ss
both [] nested short = tt
both (s ∷ ss) nested short = (record { few = nested.0; short = short.0 }, both ss nested.1 short.1)

-- what is read of a file's words can be counted
pub all_counted : (exact : Bool) (text : List ℕ) (ws rest : List Word) (names : List Named) (g : Grown) (ss : List ExactStatement) (ds : List Declaration)
    → sequence false (block MOST_OPEN) MOST_OPEN (at_top exact text ws) (nothing_read names) 0 ws ≡ Ok (record { grown = g; statements = ss; declarations = ds }, rest)
    → AllByRecursion IsCounted ss
all_counted exact text ws rest names g ss ds is =
    let nested = sequence_nested 0 (omega arith) (block MOST_OPEN) (blocks_nested MOST_OPEN 0 0 (omega arith)) (blocks_nested MOST_OPEN 1 1 (omega arith))
    false MOST_OPEN (at_top exact text ws) (nothing_read names) 0 ws (omega arith) tt in
    let short = sequence_in (block MOST_OPEN) (blocks_in MOST_OPEN) 0 false MOST_OPEN (at_top exact text ws) (nothing_read names) 0 ws (nothing_in names) in
    let counted = IfOk-at_ok (λ r. IsIn 0 r.0) is short in
    both ss (IfOk-at_ok (λ r. AreNested r.0) is nested) counted.short

-- a file is read where its words are
pub script_told : (exact : Bool) (text : List ℕ) (ws rest : List Word) (names left : List Named) (g : Grown) (ss told : List ExactStatement) (ds : List Declaration)
    → sequence false (block MOST_OPEN) MOST_OPEN (at_top exact text ws) (nothing_read names) 0 ws ≡ Ok (record { grown = g; statements = ss; declarations = ds }, rest)
    → told ≡ ss → left ≡ g.names → script_of exact text ws names ≡ Ok (told, left)
unfolding script_of
script_told exact text ws rest names left g ss told ds is same kept = rw (is, same, kept) refl

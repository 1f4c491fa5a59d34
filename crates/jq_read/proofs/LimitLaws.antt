-- What the statements of a script stay within, rule by rule. Nodes of markup that was read and is in no statement yet are counted too.
use Rattle.std.proofs.Common.{◌≡◌, ℕ, zero, suc, ◌+◌, ◌-◌, ◌<◌, ◌≤◌, ◌==◌, Bool, true, false, not, ◌&&◌, if◌then◌else◌, List, [], ◌∷◌, ◌++◌, length, map, sum, take, drop, Option, Some, None, refl, sym, ap, ◌∙◌, codes, arith, length-append}
use Rattle.std.specs.Prelude.{Result, Ok, Err, IfOk, IfSome, nat_le, nat_lt, bytes_eq, option_and_then}
use Rattle.std.specs.List.{AllByRecursion, sum_by}
use Rattle.std.proofs.lemmas.Bool.{leb-false, ltb-false}
use Rattle.std.proofs.lemmas.Result.{IfOk-at_ok}
use Rattle.std.proofs.lemmas.List.{length-map}
use Rattle.std.proofs.lemmas.List.Sums.{sum_by_push, sum-map}
use Rattle.text_bytes.specs.Attributes.{with_value}
use Rattle.tp_base.specs.Names.{Named}
use Rattle.tp_base.specs.Places.{place_at}
use Rattle.tree_sem.specs.Trees.{LabelTree}
use Rattle.tree_sem.specs.declared.actions.Action.{Action}
use Rattle.tree_sem.specs.declared.actions.Action.TheVariants.{Classes}
use Rattle.html_subset.specs.declared.faults.PageFault.{PageFault}
use Rattle.html_subset.specs.Reading.{read_forest}
use Rattle.js_scan.specs.Tokens.{script_tokens}
use Rattle.jq_stmts.specs.Sharp.{ExactCall, plain, first, ExactChain, ExactStatement, wide_call, wide_chain, wide_of, wides}
use Rattle.jq_stmts.specs.Statements.{Chain, Statement, add, back}
use Rattle.jq_words.specs.declared.faults.ScriptFault.TheVariants.{TooManyForestNodes, TooManyStatements, TooLong, ThisOutside}
use Rattle.jq_words.specs.declared.faults.TheConstants.{MOST_STATEMENTS, MOST_CALLS, MOST_FOREST_NODES, MOST_OPEN}
use Rattle.jq_words.specs.Words.{Word, words, Outcome, ◌>>=◌, is_mark, is_name, is_any_name, is_name_among, fits, first_is, is_form, spelled, begins, begins_name, place, unexpected, want, want_name, want_open, end}
use Rattle.jq_words.specs.Brackets.{is_empty, arguments, behind_arguments}
use Rattle.jq_words.specs.Texts.{texts, is_markup}
use Rattle.jq_words.specs.Calls.{Form, moves, takes_first, unites, goes_back, classes, attributes, grows, places, handles, listens, passes}
use Rattle.jq_cursor.specs.Keywords.{jquery, pages}
use Rattle.jq_parts.specs.Bindings.{Value, elements, everywhere, markup, placed, Declaration, bound, latest, if_chain, under_bound}
use Rattle.jq_parts.specs.Scopes.{Handler, Scope, used, if_bound, is_this, places_of, this_at}
use Rattle.jq_cursor.specs.Selections.{selectors, compounds, class_set, is_attribute, with_attribute}
use Rattle.jq_parts.specs.Markup.{Grown, grown, forest, with_forest, nodes_in}
use Rattle.jq_cursor.specs.TextArguments.{text_argument, some_argument}
use Rattle.jq_parts.specs.Arguments.{markup_argument, forest_or, wrapped, wrapped_forest, target}
use Rattle.jq_parts.specs.Stating.{Effect, stated, chains_of}
use Rattle.jq_chains.specs.MarkedCalls.{calls_in}
use Rattle.jq_parts.specs.Parameters.{hidden, parameters, named_parameters, more_parameters}
use Rattle.jq_parts.specs.Roots.{root, wrapped_root, root_of, jquery_argument, lettered_root, named_root}
use Rattle.jq_forms.specs.Values.{is_chain}
use Rattle.jq_forms.specs.declared.forms.StatementForm.{StatementForm}
use Rattle.jq_forms.specs.declared.forms.StatementForm.TheVariants as form
use Rattle.jq_read.specs.States.{Context, State, size, with_names, scope_in}
use Rattle.jq_read.specs.Functions.{Block, function_body, function, handler_at, in_handler, handed, rules_in}
use Rattle.jq_forms.specs.Heads.{behind_name, want_function, handed_other, behind_one, behind_document}
use Rattle.jq_parts.specs.Calls.{elements_in, made, and_call, dot_name, admitted, ended}
use Rattle.jq_read.specs.CallArguments.{compounds_argument, move_arguments, unite_arguments, acting, class_arguments, value_argument, attribute_arguments, added, grow_arguments, trees_in, place_arguments}
use Rattle.jq_forms.specs.ListParts.{and_list, called_with}
use Rattle.jq_read.specs.Chains.{several, listened, listening, listen_arguments, unchanged, at_least, arguments_of, and_stated, call, all_read, calls, chain}
use Rattle.jq_read.specs.Statements.{Blocks, and_end, bracketed, start, ready, once, timer, named_function, declared_value, value_behind, one, more_ones, declaration, chain_statement, with_state, statement_as, is_branch, form_at, statement, closes, sequence, no_block, braces, block, is_bound}
use Rattle.jq_words.specs.FreeLists.{free}
use Rattle.jq_read.specs.Script.{from_scan, at_top, nothing_read, script_of, script_with, script}
use Rattle.jq_parts.proofs.TableLaws.{and_then}
use Rattle.jq_read.proofs.ReadingLaws.{any_then, either, all_push, all_take, first_some, this_one}
use Rattle.jq_read.specs.Limits.{trees_added, nodes_added, calls_of_chains, calls_of, AreWithin}

-- ---- what is counted

-- the nodes of markup that a value still has to place
abbrev pub pending : Value → ℕ
pending v = nodes_in (trees_in v)

abbrev pub added_by : Effect → ℕ
added_by None = 0
added_by (Some e) = nodes_in (trees_added e.1)

abbrev pub pending_in : Option Value → ℕ
pending_in None = 0
pending_in (Some v) = pending v

-- how many nodes some statements add, and how many calls one has, as they are read
abbrev pub nodes_of : List ExactStatement → ℕ
nodes_of ss = sum_by (λ s. nodes_in (trees_added s.action)) ss

abbrev pub length_of : ExactStatement → ℕ
length_of s = calls_in (s.chain ∷ s.handlers)

-- no name is bound to markup
abbrev pub AllClear : List Declaration → Type 0
AllClear ds = AllByRecursion (λ d. pending_in d.value ≡ 0) ds

-- the statements are within the limits, where so many nodes are read and in no statement yet
pub record IsIn (k : ℕ) (s : State) : Type 0 where
  pub few : length s.statements ≤ MOST_STATEMENTS
  pub short : AllByRecursion (λ t. length_of t ≤ MOST_CALLS) s.statements
  pub small : s.grown.nodes ≤ MOST_FOREST_NODES
  pub slack : k + nodes_of s.statements ≤ s.grown.nodes
  pub clear : AllClear s.declarations

pub less : (j k : ℕ) (s : State) → j ≤ k → IsIn k s → IsIn j s
less j k s fewer here = record { few = here.few; short = here.short; small = here.small; slack = omega (arith, here.slack, fewer); clear = here.clear }

pub renamed : (k : ℕ) (names : List Named) (s : State) → IsIn k s → IsIn k (with_names names s)
renamed k names s here = record { few = here.few; short = here.short; small = here.small; slack = here.slack; clear = here.clear }

-- ---- markup

-- a forest's nodes are counted, and there are no more than there may be
abbrev pub IsCounted : Grown → List LabelTree × Grown → Type 0
IsCounted g r = (r.1.nodes ≡ g.nodes + nodes_in r.0) × (r.1.nodes ≤ MOST_FOREST_NODES)

forest_read : (at : ℕ) (g : Grown) (read : List Named × Result (List LabelTree) PageFault) → IfOk (with_forest at g.nodes read) (IsCounted g)
forest_read at g (names, Err e) = tt
forest_read at g (names, Ok trees) = counted (nat_lt MOST_FOREST_NODES (g.nodes + nodes_in trees)) (ltb-false MOST_FOREST_NODES (g.nodes + nodes_in trees)) where
  counted : (full : Bool) → (full ≡ false → g.nodes + nodes_in trees ≤ MOST_FOREST_NODES)
      → IfOk (if full then Err (TooManyForestNodes at) else Ok (trees, grown names (g.nodes + nodes_in trees))) (IsCounted g)
  counted true most = tt
  counted false most = (refl, most refl)

pub forest_counted : (at : ℕ) (letters : List ℕ) (g : Grown) → IfOk (forest at letters g) (IsCounted g)
unfolding forest
forest_counted at letters g = forest_read at g (read_forest letters g.names)

-- ---- statements

room_for : (k : ℕ) (c : Context) (at : ℕ) (chain : ExactChain) (action : Action) (s : State) (full long : Bool)
    → (full ≡ false → length s.statements < MOST_STATEMENTS) → (long ≡ false → calls_in (chain ∷ chains_of c.handlers) ≤ MOST_CALLS)
    → IsIn (nodes_in (trees_added action) + k) s
    → IfOk ((if full then Err (TooManyStatements at) else (if long then Err (TooLong at)
    else Ok (s.statements ++ record { handlers = chains_of c.handlers; chain = chain; action = action; place = place_at c.text at } ∷ []))) >>= λ ss. Ok (record s { statements = ss })) (IsIn k)
room_for k c at chain action s true long room short here = tt
room_for k c at chain action s false true room short here = tt
room_for k c at chain action s false false room short here =
    let one : ExactStatement = record { handlers = chains_of c.handlers; chain = chain; action = action; place = place_at c.text at } in
    let count : nodes_of (s.statements ++ one ∷ []) ≡ nodes_of s.statements + nodes_in (trees_added action) = sum_by_push (λ t. nodes_in (trees_added t.action)) s.statements one in
    record {
      few = omega (arith, length-append s.statements (one ∷ []), room refl);
      short = all_push (λ t. length_of t ≤ MOST_CALLS) s.statements one here.short (short refl);
      small = here.small;
      slack = omega (arith, count, here.slack);
      clear = here.clear;
    }

pub stated_in : (k : ℕ) (c : Context) (at : ℕ) (e : Effect) (s : State) → IsIn (added_by e + k) s → IfOk (and_stated c at e s) (IsIn k)
unfolding and_stated stated
stated_in k c at None s here = less k (added_by None + k) s (omega arith) here
stated_in k c at (Some (chain, action)) s here =
    room_for k c at chain action s (nat_le MOST_STATEMENTS (length s.statements)) (nat_lt MOST_CALLS (calls_in (chain ∷ chains_of c.handlers)))
    (leb-false MOST_STATEMENTS (length s.statements)) (ltb-false MOST_CALLS (calls_in (chain ∷ chains_of c.handlers))) here

-- ---- names

latest_clear : (name : List ℕ) (ds : List Declaration) → AllClear ds → IfSome (latest name ds) (λ d. pending_in d.value ≡ 0)
unfolding latest
latest_clear name [] all = tt
latest_clear name (d ∷ ds) all = first_some _ (latest name ds) (if bytes_eq d.name name then Some d else None) (latest_clear name ds all.1) (this_one _ (bytes_eq d.name name) d all.0)

chain_clear : (d : Declaration) (v : Option Value) → pending_in v ≡ 0 → IfSome {T = Declaration × Value} (option_and_then (λ x. Some (d, x)) v) (λ p. pending p.1 ≡ 0)
chain_clear d None none = tt
chain_clear d (Some v) none = none

if_latest : (d : Option Declaration) → IfSome d (λ x. pending_in x.value ≡ 0) → IfSome {T = Declaration × Value} (option_and_then if_chain d) (λ p. pending p.1 ≡ 0)
if_latest None none = tt
if_latest (Some d) none = chain_clear d d.value none

bound_clear : (name : List ℕ) (ds : List Declaration) → AllClear ds → IfSome {T = Declaration × Value} (bound name ds) (λ p. pending p.1 ≡ 0)
unfolding bound
bound_clear name ds all = if_latest (latest name ds) (latest_clear name ds all)

if_bound_clear : (hs : List Handler) (name : List ℕ) (at : ℕ) (d : Option (Declaration × Value)) → IfSome {T = Declaration × Value} d (λ p. pending p.1 ≡ 0) → IfOk (if_bound hs name at d) (λ v. pending v ≡ 0)
if_bound_clear hs name at None none = tt
if_bound_clear hs name at (Some (d, v)) none = either _ (is_this v && not (bytes_eq d.under (places_of hs))) (Err (ThisOutside at)) (Ok v) tt none

pub used_clear : (scope : Scope) (name : List ℕ) (at : ℕ) → AllClear scope.declarations → IfOk (used scope name at) (λ v. pending v ≡ 0)
unfolding used
used_clear scope name at all = if_bound_clear scope.handlers name at (bound name scope.declarations) (bound_clear name scope.declarations all)

-- ---- roots

abbrev pub with_grown : Grown → State → State
with_grown g s = record s { grown = g }

-- what is left behind a root
abbrev pub RootIn : ℕ → State → Value × Grown → Type 0
RootIn k s r = IsIn (pending r.0 + k) (with_grown r.1 s)

counted_in : (k : ℕ) (s : State) (f : List LabelTree × Grown) → IsCounted s.grown f → IsIn k s → IsIn (nodes_in f.0 + k) (with_grown f.1 s)
counted_in k s f count here = record { few = here.few; short = here.short; small = count.1; slack = omega (arith, count.0, here.slack); clear = here.clear }

clear_in : (k : ℕ) (s : State) (v : Value) → pending v ≡ 0 → IsIn k s → IsIn (pending v + k) s
clear_in k s v none here = less (pending v + k) k s (omega (arith, none)) here

lettered_in : (k at : ℕ) (letters : List ℕ) (s : State) → IsIn k s → IfOk (lettered_root at letters s.grown) (RootIn k s)
unfolding lettered_root
lettered_in k at letters s here = either _ (is_markup letters) _ _
    (and_then _ _ (forest at letters s.grown) _ (forest_counted at letters s.grown) (λ f count. counted_in k s f count here))
    (any_then _ (selectors at letters s.grown.names) _ (λ r. less _ k _ (omega arith) (renamed k r.1 s here)))

named_clear : (size : ℕ) (scope : Scope) (ws : List Word) → AllClear scope.declarations → IfOk (named_root size scope ws) (λ v. pending v ≡ 0)
unfolding named_root
named_clear size scope ws all =
    either _ (is_form (is_name (codes "this") ∷ []) ws) _ _ (any_then _ (this_at scope (place size ws)) _ (λ chain. refl))
    (either _ (is_form (is_name_among pages ∷ []) ws) _ _ refl
    (either _ (is_form (is_any_name ∷ []) ws) _ _ (used_clear scope (spelled ws) (place size ws) all) tt))

root_of_in : (k : ℕ) (c : Context) (ws : List Word) (s : State) (letters : Option (List ℕ)) → IsIn k s → IfOk (root_of (size c) (scope_in c s) ws s.grown letters) (RootIn k s)
root_of_in k c ws s (Some letters) here = lettered_in k (place (size c) ws) letters s here
root_of_in k c ws s None here = and_then _ _ (named_root (size c) (scope_in c s) ws) _ (named_clear (size c) (scope_in c s) ws here.clear) (λ v none. clear_in k s v none here)

argument_in : (k : ℕ) (c : Context) (ws : List Word) (s : State) → IsIn k s → IfOk (jquery_argument (size c) (scope_in c s) ws s.grown) (RootIn k s)
unfolding jquery_argument
argument_in k c ws s here = root_of_in k c ws s (texts ws) here

wrapped_in : (k room : ℕ) (c : Context) (s : State) (ws : List Word) → IsIn k s → IfOk (wrapped_root (size c) room (scope_in c s) s.grown ws) (λ r. RootIn k s (r.0, r.1))
unfolding wrapped_root
wrapped_in k room c s ws here =
    any_then _ (want_open (size c) room (codes "(") ws) _ (λ inside.
    any_then _ (if is_empty (arguments inside) then unexpected (size c) inside else Ok (arguments inside)) _ (λ given.
    and_then _ _ (jquery_argument (size c) (scope_in c s) given s.grown) _ (argument_in k c given s here) (λ r there.
    any_then _ (want (size c) (codes ")") (behind_arguments inside)) _ (λ rest. there))))

pub root_in : (k room : ℕ) (c : Context) (s : State) (ws : List Word) → IsIn k s → IfOk (root (size c) room (scope_in c s) s.grown ws) (λ r. RootIn k s (r.0, r.1))
unfolding root
root_in k room c s ws here =
    either _ (fits (is_name_among jquery ∷ is_mark (codes "(") ∷ []) ws) _ _ (wrapped_in k room c s (drop 1 ws) here)
    (and_then _ _ (used (scope_in c s) (spelled ws) (place (size c) ws)) _ (used_clear (scope_in c s) (spelled ws) (place (size c) ws) here.clear) (λ v none. clear_in k s v none here))

-- ---- arguments

-- what the arguments of a call leave
abbrev pub DoneIn : ℕ → (Value × Effect) × State × List Word → Type 0
DoneIn k d = IsIn (pending d.0.0 + added_by d.0.1 + k) d.1

pending_call : (v : Value) (call : ExactCall) → pending (and_call v call) ≡ pending v
pending_call (elements chain) call = refl
pending_call everywhere call = refl
pending_call (markup trees) call = refl
pending_call placed call = refl

called_in : (k : ℕ) (v : Value) (call : ExactCall) (s : State) → IsIn (pending v + k) s → IsIn (pending (and_call v call) + 0 + k) s
called_in k v call s here = less (pending (and_call v call) + 0 + k) (pending v + k) s (omega (arith, pending_call v call)) here

acted_in : (k : ℕ) (v : Value) (chain : Option ExactChain) (action : Action) (s : State)
    → IsIn (pending v + nodes_in (trees_added action) + k) s → IsIn (pending v + added_by (acting chain action) + k) s
acted_in k v None action s here = less (pending v + 0 + k) (pending v + nodes_in (trees_added action) + k) s (omega arith) here
acted_in k v (Some chain) action s here = here

move_in : (k : ℕ) (c : Context) (f : Form) (none : Bool) (v : Value) (s : State) (ws : List Word) → IsIn (pending v + k) s → IfOk (move_arguments c f none v s ws) (DoneIn k)
unfolding move_arguments
move_in k c f none v s ws here = any_then _ (compounds_argument (size c) none s.grown.names ws) _ (λ m. called_in k v (made f m.0) (with_names m.1 s) (renamed (pending v + k) m.1 s here))

unite_in : (k : ℕ) (c : Context) (v : Value) (s : State) (ws : List Word) → IsIn (pending v + k) s → IfOk (unite_arguments c v s ws) (DoneIn k)
unfolding unite_arguments
unite_in k c v s ws here =
    any_then _ (text_argument (size c) ws) _ (λ t.
    any_then _ (selectors t.1 t.0 s.grown.names) _ (λ r. called_in k v (plain (add r.0)) (with_names r.1 s) (renamed (pending v + k) r.1 s here)))

class_in : (k room : ℕ) (c : Context) (v : Value) (s : State) (ws : List Word) → IsIn (pending v + k) s → IfOk (class_arguments c room v s ws) (DoneIn k)
unfolding class_arguments
class_in k room c v s ws here =
    any_then _ (text_argument (size c) ws) _ (λ t.
    any_then _ (class_set t.1 t.0 s.grown.names) _ (λ r.
    any_then _ (and_list (size c) (rules_in c room true) t.2) _ (λ rest.
    acted_in k v (elements_in v) (Classes r.0) (with_names r.1 s) (less (pending v + 0 + k) (pending v + k) (with_names r.1 s) (omega arith) (renamed (pending v + k) r.1 s here)))))

given_in : (k : ℕ) (c : Context) (v : Value) (s : State) (name : List ℕ) (at : ℕ) (ws : List Word) → IsIn (pending v + k) s → IfOk (value_argument c v s name at ws) (DoneIn k)
unfolding value_argument
given_in k c v s name at ws here =
    either _ (not (is_attribute name)) _ _ tt
    (any_then _ (with_attribute at name [] s.grown.names) _ (λ one.
    any_then _ (text_argument (size c) (drop 1 ws)) _ (λ t.
    any_then _ (with_attribute t.1 (with_value name t.0) one.0 one.1) _ (λ both.
    acted_in k v (elements_in v) (Classes both.0) (with_names both.1 s) (less (pending v + 0 + k) (pending v + k) (with_names both.1 s) (omega arith) (renamed (pending v + k) both.1 s here))))))

attribute_in : (k : ℕ) (c : Context) (v : Value) (s : State) (ws : List Word) → IsIn (pending v + k) s → IfOk (attribute_arguments c v s ws) (DoneIn k)
unfolding attribute_arguments
attribute_in k c v s ws here =
    any_then _ (text_argument (size c) ws) _ (λ t.
    either _ (begins (codes ",") t.2) _ _ (given_in k c v s t.0 t.1 t.2 here) (less (pending v + 0 + k) (pending v + k) s (omega arith) here))

markup_counted : (size room : ℕ) (ws : List Word) (g : Grown) → IfOk (markup_argument size room ws g) (IsCounted g)
unfolding markup_argument
markup_counted size room ws g = by_letters (texts ws) where
  in_brackets : (letters : Option (List ℕ)) → IfOk (wrapped_forest size room ws g letters) (IsCounted g)
  in_brackets None = tt
  in_brackets (Some letters) = any_then _ (want_open size room (codes "(") (drop 1 ws)) _ (λ inside. forest_counted (place size inside) letters g)

  by_letters : (letters : Option (List ℕ)) → IfOk (forest_or size room ws g letters) (IsCounted g)
  by_letters (Some letters) = forest_counted (place size ws) letters g
  by_letters None = either _ (first_is (is_name_among jquery) ws) _ _ (in_brackets (wrapped ws)) tt

added_nodes : (beside : Bool) (trees : List LabelTree) → trees_added (added beside trees) ≡ trees
added_nodes true trees = refl
added_nodes false trees = refl

grow_in : (k room : ℕ) (c : Context) (beside : Bool) (v : Value) (s : State) (ws : List Word) → IsIn (pending v + k) s → IfOk (grow_arguments c room beside v s ws) (DoneIn k)
unfolding grow_arguments
grow_in k room c beside v s ws here =
    any_then _ (some_argument (size c) ws) _ (λ given.
    and_then _ _ (markup_argument (size c) room given.0 s.grown) _ (markup_counted (size c) room given.0 s.grown) (λ f count.
    let same : nodes_in (trees_added (added beside f.0)) ≡ nodes_in f.0 = ap nodes_in (added_nodes beside f.0) in
    acted_in k v (elements_in v) (added beside f.0) (with_grown f.1 s)
    (less (pending v + nodes_in (trees_added (added beside f.0)) + k) (nodes_in f.0 + (pending v + k)) (with_grown f.1 s) (omega (arith, same)) (counted_in (pending v + k) s f count here))))

placing_in : (k room : ℕ) (c : Context) (v : Value) (s : State) (ws : List Word) → IsIn (pending v + k) s → IfOk (place_arguments c room v s ws) (DoneIn k)
unfolding place_arguments
placing_in k room c v s ws here =
    any_then _ (some_argument (size c) ws) _ (λ given.
    any_then _ (target (size c) room (scope_in c s) given.0 s.grown.names) _ (λ r. less (0 + pending v + k) (pending v + k) (with_names r.1 s) (omega arith) (renamed (pending v + k) r.1 s here)))

-- ---- functions

-- a block leaves what is within the limits so
abbrev pub Keeps : Block → Type 0
Keeps block = (k : ℕ) (c : Context) (s : State) (ws : List Word) → IsIn k s → IfOk (block c s ws) (λ r. IsIn k r.0)

with_clear : (k : ℕ) (s : State) (ds : List Declaration) → AllClear ds → IsIn k s → IsIn k (record s { declarations = ds })
with_clear k s ds all here = record { few = here.few; short = here.short; small = here.small; slack = here.slack; clear = all }

more_clear : (size : ℕ) (ds : List Declaration) (ws : List Word) → AllClear ds → IfOk (more_parameters size ds ws) (λ r. AllClear r.0)
unfolding more_parameters
more_clear size ds [] all = all
more_clear size ds (w ∷ []) all = either _ (is_mark (codes ",") w) _ _ tt all
more_clear size ds (w ∷ n ∷ ws) all =
    either _ (is_mark (codes ",") w) _ _
    (either _ (is_any_name n) _ _ (more_clear size (ds ++ hidden n.spelling ∷ []) ws (all_push (λ d. pending_in d.value ≡ 0) ds (hidden n.spelling) all refl)) tt)
    all

named_parameters_clear : (size : ℕ) (ds : List Declaration) (ws : List Word) → AllClear ds → IfOk (named_parameters size ds ws) (λ r. AllClear r.0)
unfolding named_parameters
named_parameters_clear size ds ws all =
    any_then _ (want_name size ws) _ (λ first.
    and_then _ _ (more_parameters size (ds ++ hidden first.0 ∷ []) first.1) _ (more_clear size (ds ++ hidden first.0 ∷ []) first.1 (all_push (λ d. pending_in d.value ≡ 0) ds (hidden first.0) all refl)) (λ more known.
    any_then _ (want size (codes ")") more.1) _ (λ rest. known)))

parameters_clear : (size room : ℕ) (ds : List Declaration) (ws : List Word) → AllClear ds → IfOk (parameters size room ds ws) (λ r. AllClear r.0)
unfolding parameters
parameters_clear size room ds ws all = any_then _ (want_open size room (codes "(") ws) _ (λ inside. either _ (begins (codes ")") inside) _ _ all (named_parameters_clear size ds inside all))

module _ (block : Block) (keeps : Keeps block) where
  body_in : (k room : ℕ) (c : Context) (s : State) (ws : List Word) → IsIn k s → IfOk (function_body block room c s ws) (λ r. IsIn k r.0)
  unfolding function_body
  body_in k room c s ws here =
      and_then _ _ (parameters (size c) room s.declarations ws) _ (parameters_clear (size c) room s.declarations ws here.clear) (λ head all.
      and_then _ _ (block c (record s { declarations = head.0 }) head.1) _ (keeps k c (record s { declarations = head.0 }) head.1 (with_clear k s head.0 all here)) (λ body known.
      with_clear k body.0 (take (length s.declarations) body.0.declarations) (all_take (λ d. pending_in d.value ≡ 0) (length s.declarations) body.0.declarations known.clear) known))

  function_in : (k room : ℕ) (c : Context) (s : State) (ws : List Word) → IsIn k s → IfOk (function block room c s ws) (λ r. IsIn k r.0)
  unfolding function
  function_in k room c s ws here = any_then _ (want_function (size c) ws) _ (λ behind. body_in k room c s (behind_name behind) here)

  handed_in : (k : ℕ) (lists : Bool) (room : ℕ) (c : Context) (chain : Option ExactChain) (s : State) (ws : List Word) → IsIn k s → IfOk (handed lists block room c chain s ws) (λ r. IsIn k r.0)
  unfolding handed
  handed_in k lists room c chain s ws here =
      either _ (begins_name (codes "function") ws) _ _ (function_in k room (in_handler c (handler_at (place (size c) ws) chain)) s ws here)
      (any_then _ (handed_other lists (size c) (rules_in c room true) ws) _ (λ rest. here))

  several_in : (k : ℕ) (lists : Bool) (room : ℕ) (c : Context) (chain : Option ExactChain) (n : ℕ) (s : State) (ws : List Word) → IsIn k s → IfOk (several lists block room c chain n s ws) (λ r. IsIn k r.0)
  unfolding several
  several_in k lists room c chain zero s ws here = here
  several_in k lists room c chain (suc others) s ws here =
      and_then _ _ (handed lists block room c chain s ws) _ (handed_in k lists room c chain s ws here) (λ f known.
      any_then _ (behind_one (size c) others f.1) _ (λ next. several_in k lists room c chain others f.0 next known))

  listened_in : (k size : ℕ) (v : Value) (narrowed : Bool) (s : State) (ws : List Word) → IsIn k s → IfOk (listened size v narrowed s ws) (λ r. IsIn k r.1)
  unfolding listened
  listened_in k size v false s ws here = here
  listened_in k size v true s ws here =
      any_then _ (text_argument size ws) _ (λ t.
      any_then _ (compounds t.1 t.0 s.grown.names) _ (λ r.
      any_then _ (want size (codes ",") t.2) _ (λ rest. renamed k r.1 s here)))

  listen_in : (k room : ℕ) (c : Context) (v : Value) (narrowed : Bool) (s : State) (ws : List Word) → IsIn k s → IfOk (listen_arguments block room c v narrowed s ws) (λ r. IsIn k r.0)
  unfolding listen_arguments listening
  listen_in k room c v narrowed s ws here =
      and_then _ _ (listening (size c) v narrowed s ws) _
      (any_then _ (text_argument (size c) ws) _ (λ t. any_then _ (want (size c) (codes ",") t.2) _ (λ behind. listened_in k (size c) v narrowed s behind here)))
      (λ r known. handed_in k false room c (elements_in r.0) r.1 r.2 known)

  unchanged_in : (k : ℕ) (v : Value) (r : Outcome (State × List Word)) → IfOk r (λ t. IsIn (pending v + k) t.0) → IfOk (unchanged v r) (DoneIn k)
  unchanged_in k v r known = and_then _ _ r _ known (λ t here. less (pending v + 0 + k) (pending v + k) t.0 (omega arith) here)

  arguments_in : (k room : ℕ) (c : Context) (v : Value) (f : Form) (name : List ℕ) (fewest : ℕ) (most : Option ℕ) (count : ℕ) (s : State) (ws : List Word)
      → IsIn (pending v + k) s → IfOk (arguments_of block room c v (record { name = name; fewest = fewest; most = most; form = f }) count s ws) (DoneIn k)
  unfolding arguments_of
  arguments_in k room c v (moves step) name fewest most count s ws here = move_in k c (moves step) (count == 0 && fewest == 0) v s ws here
  arguments_in k room c v takes_first name fewest most count s ws here = called_in k v first s here
  arguments_in k room c v unites name fewest most count s ws here = unite_in k c v s ws here
  arguments_in k room c v goes_back name fewest most count s ws here = called_in k v (plain back) s here
  arguments_in k room c v classes name fewest most count s ws here = class_in k room c v s ws here
  arguments_in k room c v attributes name fewest most count s ws here = attribute_in k c v s ws here
  arguments_in k room c v (grows beside) name fewest most count s ws here = grow_in k room c beside v s ws here
  arguments_in k room c v places name fewest most count s ws here = placing_in k room c v s ws here
  arguments_in k room c v handles name fewest most count s ws here = unchanged_in k v _ (several_in (pending v + k) false room c (elements_in v) (at_least fewest count) s ws here)
  arguments_in k room c v listens name fewest most count s ws here = unchanged_in k v _ (listen_in (pending v + k) room c v (count == 3) s ws here)
  arguments_in k room c v passes name fewest most count s ws here = unchanged_in k v _ (several_in (pending v + k) true room c (elements_in v) count s ws here)

  call_in : (k room : ℕ) (c : Context) (v : Value) (s : State) (ws : List Word) → IsIn (pending v + k) s → IfOk (call block room c v s ws) (λ r. IsIn (pending r.0 + k) r.1)
  unfolding call
  call_in k room c v s ws here =
      any_then _ (dot_name c.exact (size c) v ws) _ (λ name.
      any_then _ (admitted (size c) v name.0.0 name.0.1 name.1) _ (λ count.
      any_then _ (want_open (size c) room (codes "(") name.1) _ (λ inside.
      and_then _ _ (arguments_of block (room - 1) c v name.0.0 count s inside) _
      (arguments_in k (room - 1) c v name.0.0.form name.0.0.name name.0.0.fewest name.0.0.most count s inside here) (λ d known.
      any_then _ (want (size c) (codes ")") d.2) _ (λ rest.
      and_then _ _ (and_stated c name.0.1 d.0.1 d.1) _
      (stated_in (pending d.0.0 + k) c name.0.1 d.0.1 d.1 (less (added_by d.0.1 + (pending d.0.0 + k)) (pending d.0.0 + added_by d.0.1 + k) d.1 (omega arith) known)) (λ t there. there))))))

  -- what is left behind a chain, which has placed its markup
  abbrev pub ChainIn : ℕ → Value × State × List Word → Type 0
  ChainIn k r = (pending r.0 ≡ 0) × IsIn k r.1

  ended_in : (k size : ℕ) (v : Value) (s : State) (ws : List Word) → IsIn (pending v + k) s → IfOk (all_read s ws (ended size v ws)) (ChainIn k)
  unfolding ended
  ended_in k size (elements chain) s ws here = (refl, less k (0 + k) s (omega arith) here)
  ended_in k size everywhere s ws here = (refl, less k (0 + k) s (omega arith) here)
  ended_in k size (markup trees) s ws here = tt
  ended_in k size placed s ws here = (refl, less k (0 + k) s (omega arith) here)

  calls_in_limits : (k room : ℕ) (c : Context) (v : Value) (s : State) (skip : ℕ) (ws : List Word) → IsIn (pending v + k) s → IfOk (calls block room c v s skip ws) (ChainIn k)
  unfolding calls
  calls_in_limits k room c v s skip [] here = ended_in k (size c) v s [] here
  calls_in_limits k room c v s (suc skip) (w ∷ ws) here = calls_in_limits k room c v s skip ws here
  calls_in_limits k room c v s zero (w ∷ ws) here =
      either _ (is_mark (codes ".") w) _ _
      (and_then _ _ (call block room c v s (w ∷ ws)) _ (call_in k room c v s (w ∷ ws) here) (λ r known. calls_in_limits k room c r.0 r.1 (length ws - length r.2) ws known))
      (ended_in k (size c) v s (w ∷ ws) here)

  chain_in : (k room : ℕ) (c : Context) (s : State) (ws : List Word) → IsIn k s → IfOk (chain block room c s ws) (ChainIn k)
  unfolding chain
  chain_in k room c s ws here =
      and_then _ _ (root (size c) room (scope_in c s) s.grown ws) _ (root_in k room c s ws here) (λ r known. calls_in_limits k room c r.0 (with_grown r.1 s) 0 r.2 known)

-- ---- statements

module _ (blocks : Blocks) (keeps : (opened : ℕ) → Keeps (blocks opened)) where
  abbrev pub StateIn : ℕ → State × List Word → Type 0
  StateIn k r = IsIn k r.0

  end_in : (k : ℕ) (c : Context) (s : State) (ws : List Word) → IsIn k s → IfOk (and_end c s ws) (StateIn k)
  end_in k c s ws here = any_then _ (end (size c) ws) _ (λ rest. here)

  bracketed_in : (k room : ℕ) (c : Context) (s : State) (ws : List Word) → IsIn k s → IfOk (bracketed blocks room c s ws) (StateIn k)
  unfolding bracketed
  bracketed_in k room c s ws here =
      any_then _ (want_open (size c) room (codes "(") ws) _ (λ inside.
      and_then _ _ (function (blocks 1) (room - 1) (in_handler c None) s inside) _ (function_in (blocks 1) (keeps 1) k (room - 1) (in_handler c None) s inside here) (λ f known.
      any_then _ (want (size c) (codes ")") f.1) _ (λ rest. known)))

  start_in : (k room : ℕ) (c : Context) (s : State) (ws : List Word) → IsIn k s → IfOk (start blocks room c s ws) (StateIn k)
  unfolding start
  start_in k room c s ws here = and_then _ _ (bracketed blocks room c s ws) _ (bracketed_in k room c s ws here) (λ f known. end_in k c f.0 f.1 known)

  ready_in : (k room : ℕ) (c : Context) (s : State) (ws : List Word) → IsIn k s → IfOk (ready blocks room c s ws) (StateIn k)
  unfolding ready
  ready_in k room c s ws here = any_then _ (behind_document (size c) room ws) _ (λ behind. start_in k room c s behind here)

  once_in : (k room : ℕ) (c : Context) (s : State) (ws : List Word) → IsIn k s → IfOk (once blocks room c s ws) (StateIn k)
  unfolding once
  once_in k room c s ws here =
      and_then _ _ (bracketed blocks room c s ws) _ (bracketed_in k room c s ws here) (λ f known.
      any_then _ (called_with (size c) (rules_in c room false) f.1) _ (λ rest. end_in k c f.0 rest known))

  timer_in : (k room : ℕ) (c : Context) (s : State) (ws : List Word) → IsIn k s → IfOk (timer blocks room c s ws) (StateIn k)
  unfolding timer
  timer_in k room c s ws here =
      any_then _ (want_open (size c) room (codes "(") ws) _ (λ inside.
      and_then _ _ (handed false (blocks 1) (room - 1) c None s inside) _ (handed_in (blocks 1) (keeps 1) k false (room - 1) c None s inside here) (λ f known.
      any_then _ (and_list (size c) (rules_in c (room - 1) false) f.1) _ (λ rest.
      any_then _ (want (size c) (codes ")") rest) _ (λ behind. end_in k c f.0 behind known))))

  named_function_in : (k room : ℕ) (c : Context) (s : State) (ws : List Word) → IsIn k s → IfOk (named_function blocks room c s ws) (StateIn k)
  unfolding named_function
  named_function_in k room c s ws here = any_then _ (want_name (size c) ws) _ (λ name. body_in (blocks 0) (keeps 0) k room (in_handler c None) s name.1 here)

  -- what is left behind the value of a declaration
  abbrev pub ValueIn : ℕ → Option Value × State × List Word → Type 0
  ValueIn k r = (pending_in r.0 ≡ 0) × IsIn k r.1

  declared_in : (k room : ℕ) (c : Context) (s : State) (ws : List Word) → IsIn k s → IfOk (declared_value blocks room c s ws) (ValueIn k)
  unfolding declared_value
  declared_in k room c s ws here =
      either _ (begins_name (codes "function") ws) _ _
      (and_then _ _ (function (blocks 0) room (in_handler c None) s ws) _ (function_in (blocks 0) (keeps 0) k room (in_handler c None) s ws here) (λ f known. (refl, known)))
      (either _ (is_chain c.exact (is_bound s ws) ws) _ _
      (and_then _ _ (chain (blocks 1) room c s ws) _ (chain_in (blocks 1) (keeps 1) k room c s ws here) (λ r known. known))
      (any_then _ (free (size c) (rules_in c room false) ws) _ (λ rest. (refl, here))))

  value_in : (k room : ℕ) (c : Context) (s : State) (ws : List Word) → IsIn k s → IfOk (value_behind blocks room c s ws) (ValueIn k)
  unfolding value_behind
  value_in k room c s ws here = either _ (begins (codes "=") ws) _ _ (declared_in k room c s (drop 1 ws) here) (refl, here)

  one_in : (k room : ℕ) (c : Context) (s : State) (ws : List Word) → IsIn k s → IfOk (one blocks room c s ws) (StateIn k)
  unfolding one
  one_in k room c s ws here =
      any_then _ (want_name (size c) ws) _ (λ name.
      and_then _ _ (value_behind blocks room c s name.1) _ (value_in k room c s name.1 here) (λ v known.
      let d : Declaration = record { name = name.0; value = v.0; under = under_bound v.0 (places_of c.handlers) } in
      with_clear k v.1 (v.1.declarations ++ d ∷ []) (all_push (λ x. pending_in x.value ≡ 0) v.1.declarations d known.1.clear known.0) known.1))

  more_ones_in : (k room : ℕ) (c : Context) (s : State) (skip : ℕ) (ws : List Word) → IsIn k s → IfOk (more_ones blocks room c s skip ws) (StateIn k)
  unfolding more_ones
  more_ones_in k room c s skip [] here = here
  more_ones_in k room c s (suc skip) (w ∷ ws) here = more_ones_in k room c s skip ws here
  more_ones_in k room c s zero (w ∷ ws) here =
      either _ (is_mark (codes ",") w) _ _
      (and_then _ _ (one blocks room c s ws) _ (one_in k room c s ws here) (λ r known. more_ones_in k room c r.0 (length ws - length r.1) ws known))
      here

  declaration_in : (k room : ℕ) (c : Context) (s : State) (ws : List Word) → IsIn k s → IfOk (declaration blocks room c s ws) (StateIn k)
  unfolding declaration
  declaration_in k room c s ws here =
      and_then _ _ (one blocks room c s ws) _ (one_in k room c s ws here) (λ first known.
      and_then _ _ (more_ones blocks room c first.0 0 first.1) _ (more_ones_in k room c first.0 0 first.1 known) (λ all there. end_in k c all.0 all.1 there))

  chain_statement_in : (k room : ℕ) (c : Context) (s : State) (ws : List Word) → IsIn k s → IfOk (chain_statement blocks room c s ws) (StateIn k)
  unfolding chain_statement
  chain_statement_in k room c s ws here = and_then _ _ (chain (blocks 1) room c s ws) _ (chain_in (blocks 1) (keeps 1) k room c s ws here) (λ r known. end_in k c r.1 r.2 known.1)

  list_in : (k : ℕ) (s : State) (r : Outcome (List Word)) → IsIn k s → IfOk (with_state s r) (StateIn k)
  list_in k s r here = any_then _ r _ (λ rest. here)

  statement_in : (f : StatementForm) (k room : ℕ) (c : Context) (s : State) (ws : List Word) → IsIn k s → IfOk (statement_as f blocks room c s ws) (StateIn k)
  unfolding statement_as
  statement_in form.Empty k room c s ws here = here
  statement_in form.Block k room c s ws here = keeps 0 k c s ws here
  statement_in form.Declaration k room c s ws here = declaration_in k room c s (drop 1 ws) here
  statement_in form.Function k room c s ws here = named_function_in k room c s (drop 1 ws) here
  statement_in form.Branch k room c s ws here = list_in k s _ here
  statement_in form.Return k room c s ws here = list_in k s _ here
  statement_in form.Start k room c s ws here = start_in k room c s (drop 1 ws) here
  statement_in form.Ready k room c s ws here = ready_in k room c s (drop 1 ws) here
  statement_in form.Chain k room c s ws here = chain_statement_in k room c s ws here
  statement_in form.Foreign k room c s ws here = tt
  statement_in form.Timer k room c s ws here = timer_in k room c s (drop 1 ws) here
  statement_in form.Set k room c s ws here = list_in k s _ here
  statement_in form.Once k room c s ws here = once_in k room c s ws here
  statement_in form.Free k room c s ws here = list_in k s _ here

  whole_in : (k room : ℕ) (c : Context) (s : State) (skip : ℕ) (ws : List Word) → IsIn k s → IfOk (statement blocks room c s skip ws) (StateIn k)
  unfolding statement
  whole_in k room c s skip [] here = tt
  whole_in k room c s (suc skip) (w ∷ ws) here = whole_in k room c s skip ws here
  whole_in k room c s zero (w ∷ ws) here =
      and_then _ _ (statement_as (form_at s (w ∷ ws)) blocks room c s (w ∷ ws)) _ (statement_in (form_at s (w ∷ ws)) k room c s (w ∷ ws) here) (λ begun known.
      either _ (is_branch (form_at s (w ∷ ws))) _ _
      (and_then _ _ (statement blocks room c begun.0 (length ws - length begun.1) ws) _ (whole_in k room c begun.0 (length ws - length begun.1) ws known) (λ first there.
      either _ (begins_name (codes "else") first.1) _ _ (whole_in k room c first.0 (length ws - length (drop 1 first.1)) ws there) there))
      known)

  pub sequence_in : (k : ℕ) (in_block : Bool) (room : ℕ) (c : Context) (s : State) (skip : ℕ) (ws : List Word) → IsIn k s → IfOk (sequence in_block blocks room c s skip ws) (StateIn k)
  unfolding sequence
  sequence_in k in_block room c s skip [] here = either _ in_block _ _ tt here
  sequence_in k in_block room c s (suc skip) (w ∷ ws) here = sequence_in k in_block room c s skip ws here
  sequence_in k in_block room c s zero (w ∷ ws) here =
      either _ (closes in_block w) _ _ here
      (and_then _ _ (statement blocks room c s 0 (w ∷ ws)) _ (whole_in k room c s 0 (w ∷ ws) here) (λ r known. sequence_in k in_block room c r.0 (length ws - length r.1) ws known))

-- ---- blocks and files

braces_in : (room : ℕ) (blocks : Blocks) → ((opened : ℕ) → Keeps (blocks opened)) → Keeps (braces room blocks)
unfolding braces
braces_in room blocks keeps k c s ws here =
    any_then _ (want_open (size c) (suc room) (codes "{") ws) _ (λ inside.
    and_then _ _ (sequence true blocks room c s 0 inside) _ (sequence_in blocks keeps k true room c s 0 inside here) (λ all known. known))

pub blocks_in : (room opened : ℕ) → Keeps (block room opened)
unfolding block no_block
blocks_in zero opened k c s ws here = any_then _ (want_open (size c) 0 (codes "{") ws) _ (λ inside. here)
blocks_in (suc room) (suc opened) k c s ws here = blocks_in room opened k c s ws here
blocks_in (suc room) zero k c s ws here = braces_in room (block room) (blocks_in room) k c s ws here

pub nothing_in : (names : List Named) → IsIn 0 (nothing_read names)
nothing_in names = record { few = omega arith; short = tt; small = omega arith; slack = omega arith; clear = tt }

-- ---- as they are judged

lengths : (chains : List ExactChain) → map (λ (c : Chain). length c.calls) (map wide_chain chains) ≡ map (λ (c : ExactChain). length c.calls) chains
lengths [] = refl
lengths (c ∷ chains) =
    let first = length-map c.calls wide_call in
    let rest = lengths chains in
    λ j. first j ∷ rest j

long_chains : (chains : List ExactChain) → calls_of_chains (map wide_chain chains) ≡ calls_in chains
long_chains chains = ap sum (lengths chains)

short_wides : (ss : List ExactStatement) → AllByRecursion (λ t. length_of t ≤ MOST_CALLS) ss → AllByRecursion (λ t. calls_of t ≤ MOST_CALLS) (wides ss)
short_wides [] short = tt
short_wides (s ∷ ss) short =
    let same : calls_of (wide_of s) ≡ length_of s = long_chains (s.chain ∷ s.handlers) in
    let least = short.0 in
    (omega (arith, same, least), short_wides ss short.1)

numbers : (ss : List ExactStatement) → map (λ (s : Statement). nodes_in (trees_added s.action)) (wides ss) ≡ map (λ (s : ExactStatement). nodes_in (trees_added s.action)) ss
numbers [] = refl
numbers (s ∷ ss) = ap (λ ns. nodes_in (trees_added s.action) ∷ ns) (numbers ss)

nodes_wides : (ss : List ExactStatement) → nodes_added (wides ss) ≡ nodes_of ss
nodes_wides ss =
    sym (sum-map (λ (s : Statement). nodes_in (trees_added s.action)) (wides ss)) ∙ ap sum (numbers ss)
    ∙ sum-map (λ (s : ExactStatement). nodes_in (trees_added s.action)) ss

pub within_wides : (k : ℕ) (s : State) → IsIn k s → AreWithin (wides s.statements)
within_wides k s here = record {
  few = omega (arith, length-map s.statements wide_of, here.few);
  short = short_wides s.statements here.short;
  small = omega (arith, nodes_wides s.statements, here.slack, here.small);
}

file_in : (exact : Bool) (text : List ℕ) (ws : List Word) (names : List Named) → IfOk (script_of exact text ws names) (λ r. AreWithin (wides r.0))
unfolding script_of
file_in exact text ws names =
    and_then _ _ (sequence false (block MOST_OPEN) MOST_OPEN (at_top exact text ws) (nothing_read names) 0 ws) _
    (sequence_in (block MOST_OPEN) (blocks_in MOST_OPEN) 0 false MOST_OPEN (at_top exact text ws) (nothing_read names) 0 ws (nothing_in names))
    (λ all known. within_wides 0 all.0 known)

script_in : (exact : Bool) (text : List ℕ) (names : List Named) → IfOk (script_with exact text names) (λ r. AreWithin (wides r.0))
unfolding script_with
script_in exact text names = any_then _ (from_scan (script_tokens text)) _ (λ ts. file_in exact text (words text ts) names)

plain_in : (text : List ℕ) (names : List Named) → IfOk (script text names) (λ r. AreWithin r.0)
unfolding script
plain_in text names = and_then _ _ (script_with false text names) _ (script_in false text names) (λ r known. known)

pub kept_within : (text : List ℕ) (names later : List Named) (ss : List Statement) → script text names ≡ Ok (ss, later) → AreWithin ss
kept_within text names later ss is = IfOk-at_ok (λ r. AreWithin r.0) is (plain_in text names)

pub exact_within : (text : List ℕ) (names later : List Named) (ss : List ExactStatement) → script_with true text names ≡ Ok (ss, later) → AreWithin (wides ss)
exact_within text names later ss is = IfOk-at_ok (λ r. AreWithin (wides r.0)) is (script_in true text names)

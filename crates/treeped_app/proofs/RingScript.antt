-- The script of a ring is read: each line is a statement.
use Rattle.std.proofs.Common.{◌≡◌, ℕ, suc, ◌+◌, ◌-◌, ◌≤◌, ◌<◌, Bool, true, false, List, [], ◌∷◌, ◌++◌, length, codes, Option, Some, None, Result, Ok, Err, refl, ap, arith, length-append}
use Rattle.std.proofs.lemmas.Bool.{lt-ltb, le-ltb, lt-leb}
use Rattle.tp_base.specs.Names.{Named, place_in, placed, with_name}
use Rattle.tp_base.specs.Places.{place_at}
use Rattle.tp_base.specs.declared.atoms.AtomKind.TheVariants as kind
use Rattle.html_tokens.specs.Words.{words_from}
use Rattle.tp_base.specs.declared.atoms.TheConstants.{MOST_ATOMS}
use Rattle.tree_sem.specs.Trees.{LabelTree}
use Rattle.sel_text.specs.Selectors.{Selector}
use Rattle.sel_text.specs.Reading as sel
use Rattle.sel_text.specs.Lists.{read_strict_list}
use Rattle.js_scan.specs.declared.token.TokenKind.TheVariants.{Name, Text, Mark}
use Rattle.jq_stmts.specs.Sharp.{ExactChain, ExactStatement}
use Rattle.jq_words.specs.declared.faults.TheConstants.{MOST_OPEN, MOST_STATEMENTS, MOST_FOREST_NODES}
use Rattle.jq_words.specs.Words.{Word, Outcome, ◌>>=◌, is_mark, is_any_name, is_among, is_name_among, is_text, letters_of, fits, first_is, place, want, want_open}
use Rattle.jq_words.specs.Brackets.{argument_count, commas, left_open, argument_len, ends_argument, closes_outer, closed_by, opened_by, brackets_behind}
use Rattle.jq_words.specs.Texts.{texts, is_markup}
use Rattle.jq_parts.specs.Bindings.{Value, elements}
use Rattle.jq_parts.specs.Scopes.{Scope, matched_chain}
use Rattle.jq_parts.specs.Markup.{Grown, grown, forest, with_forest}
use Rattle.jq_parts.specs.Arguments.{markup_argument}
use Rattle.jq_parts.specs.Stating.{Effect, stated}
use Rattle.tree_sem.specs.declared.actions.Action.{Action}
use Rattle.tree_sem.specs.declared.actions.Action.TheVariants.{Inside, Classes}
use Rattle.html_subset.specs.declared.faults.PageFault.{PageFault}
use Rattle.html_subset.specs.Reading.{read_forest}
use Rattle.jq_words.specs.Calls.{table, sharp_table, calls_of, row_of}
use Rattle.jq_cursor.specs.Lists.{extent, counts}
use Rattle.jq_read.specs.States.{Context, State}
use Rattle.jq_read.specs.Functions.{Block}
use Rattle.jq_cursor.specs.TextArguments.{some_argument, text_argument}
use Rattle.jq_read.specs.CallArguments.{grow_arguments, class_arguments}
use Rattle.jq_parts.specs.Calls.{may_stand, call_name, dot_name, admitted}
use Rattle.jq_read.specs.Chains.{arguments_of, and_stated, call, chain}
use Rattle.jq_cursor.specs.Selections.{selectors, with_selectors, and_class, with_classes, class_set}
use Rattle.jq_parts.specs.Roots.{lettered_root, jquery_argument, wrapped_root, root}
use Rattle.jq_forms.specs.ListParts.{and_list}
use Rattle.ring_reads.specs.Readings.{IsRead}
use Rattle.ring_reads.specs.RingScripts.{IsOneNode}
use Rattle.ring_reads.specs.RingWords.{quoted_text}
use Rattle.ring_reads.proofs.ScriptWords.{word}

abbrev pub Gives : {X : Type 0} → (X → Type 0) → Outcome X → Type 0
Gives P (Ok x) = P x
Gives P (Err e) = ⊥

pub gives_then : {X Y : Type 0} (P : X → Type 0) (Q : Y → Type 0) (r : Outcome X) (f : X → Outcome Y) → Gives P r → ((x : X) → P x → Gives Q (f x)) → Gives Q (r >>= f)
gives_then P Q (Ok x) f first next = next x first
gives_then P Q (Err e) f first next = absurd first

-- ---- the root

record IsRooted (m nodes : ℕ) (r : Value × Grown) : Type 0 where
  selectors : List Selector
  names : List Named
  is : r ≡ (elements (matched_chain selectors), grown names nodes)
  few : length names ≤ m

-- a selector with a dot before it is no markup
selectors_root : (m at nodes : ℕ) (names : List Named) (e : sel.Ending (List Selector)) → IsRead m e
    → Gives (IsRooted m nodes) (with_selectors at e >>= λ r. Ok (elements (matched_chain r.0), grown r.1 nodes))
selectors_root m at nodes names (later, Ok ss) is = record { selectors = ss; names = later; is = refl; few = is }
selectors_root m at nodes names (later, Err e) is = absurd is

lettered : (m at nodes : ℕ) (names : List Named) (bs : List ℕ) → IsRead m (read_strict_list (46 ∷ bs) names) → Gives (IsRooted m nodes) (lettered_root at (46 ∷ bs) (grown names nodes))
unfolding lettered_root is_markup selectors
lettered m at nodes names bs is = selectors_root m at nodes names (read_strict_list (46 ∷ bs) names) is

abbrev pub Place : Type 0
Place = ℕ × Bool

-- the value, the names, and the words behind the root
pub record IsBehindRoot (m nodes : ℕ) (rest : List Word) (r : Value × Grown × List Word) : Type 0 where
  pub selectors : List Selector
  pub names : List Named
  pub is : r ≡ (elements (matched_chain selectors), grown names nodes, rest)
  pub few : length names ≤ m

pub root_read : (m size nodes : ℕ) (scope : Scope) (names : List Named) (bs : List ℕ) (p q r s : Place) (rest : List Word) → IsRead m (read_strict_list (46 ∷ bs) names)
    → Gives (IsBehindRoot m nodes rest) (root size MOST_OPEN scope (grown names nodes) (word Name (codes "$") p ∷ word Mark (codes "(") q ∷ word (Text (46 ∷ bs)) (quoted_text (46 ∷ bs)) r ∷ word Mark (codes ")") s ∷ rest))
unfolding root wrapped_root jquery_argument texts letters_of is_text want want_open fits is_name_among is_among is_mark first_is place argument_len ends_argument closes_outer closed_by opened_by brackets_behind
root_read m size nodes scope names bs p q r s rest is =
    gives_then (IsRooted m nodes) (IsBehindRoot m nodes rest) (lettered_root r.0 (46 ∷ bs) (grown names nodes)) (λ g. Ok (g.0, g.1, rest))
    (lettered m r.0 nodes names bs is)
    (λ g read. record { selectors = read.selectors; names = read.names; is = ap (λ (h : Value × Grown). (h.0, h.1, rest)) read.is; few = read.few })

-- ---- a call

abbrev pub context : Bool → List ℕ → List (List ℕ) → Context
context exact text declared = record { exact = exact; text = text; size = length text; declared = declared; handlers = []; has_this = false }

abbrev pub state : List Named → ℕ → List ExactStatement → State
state names nodes ss = record { grown = grown names nodes; statements = ss; declarations = [] }

record IsForest (m nodes : ℕ) (f : List LabelTree × Grown) : Type 0 where
  trees : List LabelTree
  names : List Named
  is : f ≡ (trees, grown names (nodes + 1))
  few : length names ≤ m

forest_read : (m at nodes : ℕ) (e : List Named × Result (List LabelTree) PageFault) → IsOneNode m e → nodes + 1 ≤ MOST_FOREST_NODES → Gives (IsForest m nodes) (with_forest at nodes e)
forest_read m at nodes (names, Ok ts) is few = rw (is.1, le-ltb MOST_FOREST_NODES (nodes + 1) few) (record { trees = ts; names = names; is = refl; few = is.0 })
forest_read m at nodes (names, Err e) is few = absurd is

-- the call is done: one statement more
pub record IsCalled (m nodes count : ℕ) (chain : ExactChain) (rest : List Word) (r : Value × State × List Word) : Type 0 where
  pub names : List Named
  pub statements : List ExactStatement
  pub is : r ≡ (elements chain, state names nodes statements, rest)
  pub few : length names ≤ m
  pub one : length statements ≡ suc count

record IsDone (m nodes : ℕ) (ss : List ExactStatement) (chain : ExactChain) (rest : List Word) (d : (Value × Effect) × State × List Word) : Type 0 where
  names : List Named
  action : Action
  is : d ≡ ((elements chain, Some (chain, action)), state names nodes ss, rest)
  few : length names ≤ m

stated_read : (m nodes at : ℕ) (text : List ℕ) (sels : List Selector) (ss : List ExactStatement) (names : List Named) (action : Action) (exact : Bool) (declared : List (List ℕ)) (rest : List Word) → length ss < MOST_STATEMENTS → length names ≤ m
    → Gives (IsCalled m nodes (length ss) (matched_chain sels) rest) (and_stated (context exact text declared) at (Some (matched_chain sels, action)) (state names nodes ss) >>= λ t. Ok (elements (matched_chain sels), t, rest))
unfolding and_stated stated
stated_read m nodes at text sels ss names action exact declared rest room few =
    rw (lt-leb MOST_STATEMENTS (length ss) room) (let new : List ExactStatement = (record { handlers = []; chain = matched_chain sels; action = action; place = place_at text at }) ∷ [] in record { names = names; statements = ss ++ new; is = refl; few = few; one = omega (arith, length-append ss new) })

append_done : (m nodes : ℕ) (exact : Bool) (text : List ℕ) (declared : List (List ℕ)) (sels : List Selector) (ss : List ExactStatement) (names : List Named) (class : List ℕ) (t u : Place) (rest : List Word)
    → IsOneNode m (read_forest class names) → nodes + 1 ≤ MOST_FOREST_NODES
    → Gives (IsDone m (nodes + 1) ss (matched_chain sels) (word Mark (codes ")") u ∷ rest))
    (grow_arguments (context exact text declared) 511 false (elements (matched_chain sels)) (state names nodes ss) (word (Text class) (quoted_text class) t ∷ word Mark (codes ")") u ∷ rest))
unfolding grow_arguments some_argument markup_argument forest texts letters_of is_text is_mark argument_len ends_argument closes_outer closed_by opened_by brackets_behind place
append_done m nodes exact text declared sels ss names class t u rest one few =
    gives_then (IsForest m nodes) (IsDone m (nodes + 1) ss (matched_chain sels) (word Mark (codes ")") u ∷ rest)) (with_forest t.0 nodes (read_forest class names)) _ (forest_read m t.0 nodes (read_forest class names) one few)
    (λ f is. rw (is.is) (record { names = is.names; action = Inside (record { tops = is.trees }); is = refl; few = is.few }))

pub append_call : (m nodes : ℕ) (block : Block) (exact : Bool) (text : List ℕ) (declared : List (List ℕ)) (sels : List Selector) (ss : List ExactStatement) (names : List Named) (class : List ℕ) (p q r t u : Place) (rest : List Word)
    → IsOneNode m (read_forest class names) → nodes + 1 ≤ MOST_FOREST_NODES → length ss < MOST_STATEMENTS
    → Gives (IsCalled m (nodes + 1) (length ss) (matched_chain sels) rest)
    (call block MOST_OPEN (context exact text declared) (elements (matched_chain sels)) (state names nodes ss) (word Mark (codes ".") p ∷ word Name (codes "append") q ∷ word Mark (codes "(") r ∷ word (Text class) (quoted_text class) t ∷ word Mark (codes ")") u ∷ rest))
unfolding call dot_name call_name admitted arguments_of is_any_name row_of calls_of table sharp_table may_stand counts extent want want_open is_mark first_is argument_count commas left_open argument_len ends_argument closes_outer closed_by opened_by brackets_behind place
append_call m nodes block true text declared sels ss names class p q r t u rest one few room =
    gives_then (IsDone m (nodes + 1) ss (matched_chain sels) (word Mark (codes ")") u ∷ rest)) (IsCalled m (nodes + 1) (length ss) (matched_chain sels) rest)
    (grow_arguments (context true text declared) 511 false (elements (matched_chain sels)) (state names nodes ss) (word (Text class) (quoted_text class) t ∷ word Mark (codes ")") u ∷ rest)) _
    (append_done m nodes true text declared sels ss names class t u rest one few)
    (λ d is. rw (is.is) (stated_read m (nodes + 1) q.0 text sels ss is.names is.action true declared rest room is.few))
append_call m nodes block false text declared sels ss names class p q r t u rest one few room =
    gives_then (IsDone m (nodes + 1) ss (matched_chain sels) (word Mark (codes ")") u ∷ rest)) (IsCalled m (nodes + 1) (length ss) (matched_chain sels) rest)
    (grow_arguments (context false text declared) 511 false (elements (matched_chain sels)) (state names nodes ss) (word (Text class) (quoted_text class) t ∷ word Mark (codes ")") u ∷ rest)) _
    (append_done m nodes false text declared sels ss names class t u rest one few)
    (λ d is. rw (is.is) (stated_read m (nodes + 1) q.0 text sels ss is.names is.action false declared rest room is.few))

-- ---- the last line's call

class_named : (at : ℕ) (names : List Named) → length names < MOST_ATOMS → Gives (λ (r : List ℕ × List Named). length r.1 ≤ length names + 1) (class_set at (codes "on") names)
unfolding with_classes with_name words_from
class_named at names room = by (place_in names (kind.Class, codes "on"))
  where
    by : (o : Option ℕ) → Gives (λ (r : List ℕ × List Named). length r.1 ≤ length names + 1) (and_class at [] (placed o names (kind.Class, codes "on")) >>= λ r. Ok (r.0, r.1))
    by (Some place) = omega arith
    by None = rw (lt-ltb (length names) MOST_ATOMS room) (omega (arith, length-append names ((kind.Class, codes "on") ∷ [])))

class_done : (nodes : ℕ) (exact : Bool) (text : List ℕ) (declared : List (List ℕ)) (sels : List Selector) (ss : List ExactStatement) (names : List Named) (t u : Place) (rest : List Word) → length names < MOST_ATOMS
    → Gives (IsDone (length names + 1) nodes ss (matched_chain sels) (word Mark (codes ")") u ∷ rest))
    (class_arguments (context exact text declared) 511 (elements (matched_chain sels)) (state names nodes ss) (word (Text (codes "on")) (quoted_text (codes "on")) t ∷ word Mark (codes ")") u ∷ rest))
unfolding class_arguments text_argument and_list texts letters_of is_text is_mark first_is argument_len ends_argument closes_outer closed_by opened_by brackets_behind place
class_done nodes exact text declared sels ss names t u rest room =
    gives_then (λ (r : List ℕ × List Named). length r.1 ≤ length names + 1) (IsDone (length names + 1) nodes ss (matched_chain sels) (word Mark (codes ")") u ∷ rest)) (class_set t.0 (codes "on") names) _ (class_named t.0 names room)
    (λ r few. record { names = r.1; action = Classes r.0; is = refl; few = few })

pub class_call : (nodes : ℕ) (block : Block) (exact : Bool) (text : List ℕ) (declared : List (List ℕ)) (sels : List Selector) (ss : List ExactStatement) (names : List Named) (p q r t u : Place) (rest : List Word)
    → length names < MOST_ATOMS → length ss < MOST_STATEMENTS
    → Gives (IsCalled (length names + 1) nodes (length ss) (matched_chain sels) rest)
    (call block MOST_OPEN (context exact text declared) (elements (matched_chain sels)) (state names nodes ss) (word Mark (codes ".") p ∷ word Name (codes "addClass") q ∷ word Mark (codes "(") r ∷ word (Text (codes "on")) (quoted_text (codes "on")) t ∷ word Mark (codes ")") u ∷ rest))
unfolding call dot_name call_name admitted arguments_of is_any_name row_of calls_of table sharp_table may_stand counts extent want want_open is_mark first_is argument_count commas left_open argument_len ends_argument closes_outer closed_by opened_by brackets_behind place
class_call nodes block true text declared sels ss names p q r t u rest room few =
    gives_then (IsDone (length names + 1) nodes ss (matched_chain sels) (word Mark (codes ")") u ∷ rest)) (IsCalled (length names + 1) nodes (length ss) (matched_chain sels) rest)
    (class_arguments (context true text declared) 511 (elements (matched_chain sels)) (state names nodes ss) (word (Text (codes "on")) (quoted_text (codes "on")) t ∷ word Mark (codes ")") u ∷ rest)) _
    (class_done nodes true text declared sels ss names t u rest room)
    (λ d is. rw (is.is) (stated_read (length names + 1) nodes q.0 text sels ss is.names is.action true declared rest few is.few))
class_call nodes block false text declared sels ss names p q r t u rest room few =
    gives_then (IsDone (length names + 1) nodes ss (matched_chain sels) (word Mark (codes ")") u ∷ rest)) (IsCalled (length names + 1) nodes (length ss) (matched_chain sels) rest)
    (class_arguments (context false text declared) 511 (elements (matched_chain sels)) (state names nodes ss) (word (Text (codes "on")) (quoted_text (codes "on")) t ∷ word Mark (codes ")") u ∷ rest)) _
    (class_done nodes false text declared sels ss names t u rest room)
    (λ d is. rw (is.is) (stated_read (length names + 1) nodes q.0 text sels ss is.names is.action false declared rest few is.few))

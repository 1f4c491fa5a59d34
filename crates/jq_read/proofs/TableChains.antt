-- Functions and chains leave what is over the table of names so.
use Rattle.std.proofs.Common.{ℕ, zero, suc, ◌-◌, ◌<◌, ◌==◌, Bool, true, false, ◌&&◌, List, [], ◌∷◌, ◌++◌, length, map, take, Option, Some, None, codes}
use Rattle.std.specs.Prelude.{IfOk}
use Rattle.std.proofs.lemmas.List.Elements.{All-nil}
use Rattle.std.proofs.lemmas.Result.{IfOk-weaker}
use Rattle.sel_text.specs.Selectors.{simple}
use Rattle.jq_stmts.specs.Sharp.{plain, first, ExactChain, wide_chain}
use Rattle.jq_stmts.specs.Statements.{find, back}
use Rattle.jq_words.specs.Words.{Word, Outcome, is_mark, is_any_name, begins, begins_name, place, want, want_name, want_open}
use Rattle.jq_words.specs.Calls.{Form, moves, takes_first, unites, goes_back, classes, attributes, grows, places, handles, listens, passes}
use Rattle.jq_parts.specs.Bindings.{Value, elements, everywhere, markup, placed, Declaration}
use Rattle.jq_parts.specs.Scopes.{Handler}
use Rattle.jq_cursor.specs.Selections.{compounds}
use Rattle.jq_cursor.specs.TextArguments.{text_argument}
use Rattle.jq_parts.specs.Stating.{chains_of}
use Rattle.jq_parts.specs.Parameters.{hidden, parameters, named_parameters, more_parameters}
use Rattle.jq_parts.specs.Roots.{root}
use Rattle.jq_stmts.specs.Tables.{AreCompoundsOver, AreSelectorsOver, AreChainsOver}
use Rattle.jq_parts.proofs.TableLaws.{compounds_over, and_then}
use Rattle.jq_parts.proofs.SelectorLaws.{AreChainsOver-more}
use Rattle.jq_read.specs.States.{Context, State, size, scope_in}
use Rattle.jq_read.specs.Functions.{Block, function_body, function, handler_at, in_handler, handed, rules_in}
use Rattle.jq_forms.specs.Heads.{behind_name, want_function, handed_other, behind_one}
use Rattle.jq_parts.specs.Calls.{elements_in, below, dot_name, admitted, ended}
use Rattle.jq_read.specs.Chains.{several, listened, listening, listen_arguments, unchanged, at_least, arguments_of, and_stated, call, all_read, calls, chain}
use Rattle.jq_read.proofs.ReadingLaws.{any_then, either, all_push, all_take}
use Rattle.jq_read.proofs.TableStates.{IsExactOver, IsValueOver, IsBoundOver, AreBoundOver, IsElementsOver, count, AreOver, IsLater, value_more, elements_more, same, further, grown_over, renamed_over, stated_over}
use Rattle.jq_read.proofs.TableRoots.{root_over}
use Rattle.jq_read.proofs.TableArguments.{DoneOver, called_over, move_over, unite_over, class_over, attributes_over, grow_over, place_over}

-- ---- functions

-- a block leaves what is over the table so
abbrev pub KeepsOver : Block → Type 0
KeepsOver block = (c : Context) (s : State) (ws : List Word) → AreOver c s → IfOk (block c s ws) (λ r. IsLater c s r.0)

hidden_over : (n : ℕ) (ds : List Declaration) (name : List ℕ) → AreBoundOver n ds → AreBoundOver n (ds ++ hidden name ∷ [])
hidden_over n ds name all = all_push (λ d. IsBoundOver n d.value) ds (hidden name) all tt

more_parameters_over : (n size : ℕ) (ds : List Declaration) (ws : List Word) → AreBoundOver n ds → IfOk (more_parameters size ds ws) (λ r. AreBoundOver n r.0)
unfolding more_parameters
more_parameters_over n size ds [] all = all
more_parameters_over n size ds (w ∷ []) all = either _ (is_mark (codes ",") w) _ _ tt all
more_parameters_over n size ds (w ∷ m ∷ ws) all =
    either _ (is_mark (codes ",") w) _ _
    (either _ (is_any_name m) _ _ (more_parameters_over n size (ds ++ hidden m.spelling ∷ []) ws (hidden_over n ds m.spelling all)) tt)
    all

named_parameters_over : (n size : ℕ) (ds : List Declaration) (ws : List Word) → AreBoundOver n ds → IfOk (named_parameters size ds ws) (λ r. AreBoundOver n r.0)
unfolding named_parameters
named_parameters_over n size ds ws all =
    any_then _ (want_name size ws) _ (λ first.
    and_then _ _ (more_parameters size (ds ++ hidden first.0 ∷ []) first.1) _ (more_parameters_over n size (ds ++ hidden first.0 ∷ []) first.1 (hidden_over n ds first.0 all)) (λ more known.
    any_then _ (want size (codes ")") more.1) _ (λ rest. known)))

parameters_over : (n size room : ℕ) (ds : List Declaration) (ws : List Word) → AreBoundOver n ds → IfOk (parameters size room ds ws) (λ r. AreBoundOver n r.0)
unfolding parameters
parameters_over n size room ds ws all = any_then _ (want_open size room (codes "(") ws) _ (λ inside. either _ (begins (codes ")") inside) _ _ all (named_parameters_over n size ds inside all))

pub bind : (c : Context) (s : State) (ds : List Declaration) → AreBoundOver (count s) ds → AreOver c s → AreOver c (record s { declarations = ds })
bind c s ds all over = record { handlers = over.handlers; statements = over.statements; bindings = all }

-- the handler that a function may be
abbrev pub IsHandlerOver : ℕ → Option Handler → Type 0
IsHandlerOver n None = Unit {0}
IsHandlerOver n (Some h) = IsExactOver n h.chain

one_handler : (n : ℕ) (hs : List Handler) (h : Handler) → AreChainsOver n (map wide_chain (chains_of hs)) → IsExactOver n h.chain → AreChainsOver n (map wide_chain (chains_of (hs ++ h ∷ [])))
one_handler n [] h all one = (one, tt)
one_handler n (x ∷ hs) h all one = (all.0, one_handler n hs h all.1 one)

pub within : (c : Context) (h : Option Handler) (s : State) → IsHandlerOver (count s) h → AreOver c s → AreOver (in_handler c h) s
within c None s of over = record { handlers = over.handlers; statements = over.statements; bindings = over.bindings }
within c (Some h) s of over = record { handlers = one_handler (count s) c.handlers h over.handlers of; statements = over.statements; bindings = over.bindings }

-- and behind the function
pub outside_over : (c : Context) (h : Option Handler) (s t : State) → AreOver c s → IsLater (in_handler c h) s t → IsLater c s t
outside_over c h s t over later = record {
  longer = later.longer;
  over = record { handlers = AreChainsOver-more (count s) (count t) later.longer (map wide_chain (chains_of c.handlers)) over.handlers; statements = later.over.statements; bindings = later.over.bindings };
}

handler_over : (n at : ℕ) (chain : Option ExactChain) → IsElementsOver n chain → IsHandlerOver n (handler_at at chain)
handler_over n at None over = tt
handler_over n at (Some chain) over = over

elements_in_over : (n : ℕ) (v : Value) → IsValueOver n v → IsElementsOver n (elements_in v)
elements_in_over n (elements chain) over = over
elements_in_over n everywhere over = tt
elements_in_over n (markup trees) over = tt
elements_in_over n placed over = tt

simple_over : (n : ℕ) (cs : List (List ℕ)) → AreCompoundsOver n cs → AreSelectorsOver n (map simple cs)
simple_over n [] over = tt
simple_over n (c ∷ cs) over = ((over.0, tt), simple_over n cs over.1)

below_over : (n : ℕ) (v : Value) (cs : List (List ℕ)) → IsValueOver n v → AreCompoundsOver n cs → IsValueOver n (below v cs)
unfolding below
below_over n (elements chain) cs over all = called_over n (elements chain) (plain (find cs)) over all
below_over n everywhere cs over all = (simple_over n cs all, tt)
below_over n (markup trees) cs over all = over
below_over n placed cs over all = tt

-- a value and the state behind it
abbrev pub ValueOver : Context → State → Value × State × List Word → Type 0
ValueOver c s r = IsLater c s r.1 × IsValueOver (count r.1) r.0

listened_over : (c : Context) (size : ℕ) (v : Value) (narrowed : Bool) (s : State) (ws : List Word) → AreOver c s → IsValueOver (count s) v → IfOk (listened size v narrowed s ws) (ValueOver c s)
unfolding listened
listened_over c size v false s ws over of = (same c s over, of)
listened_over c size v true s ws over of =
    any_then _ (text_argument size ws) _ (λ t.
    and_then _ _ (compounds t.1 t.0 s.grown.names) _ (compounds_over t.1 t.0 s.grown.names) (λ r known.
    any_then _ (want size (codes ",") t.2) _ (λ rest.
    (renamed_over c s r.1 known.0 over, below_over (length r.1) v r.0 (value_more (count s) (length r.1) known.0 v of) known.1))))

listening_over : (c : Context) (size : ℕ) (v : Value) (narrowed : Bool) (s : State) (ws : List Word) → AreOver c s → IsValueOver (count s) v → IfOk (listening size v narrowed s ws) (ValueOver c s)
unfolding listening
listening_over c size v narrowed s ws over of =
    any_then _ (text_argument size ws) _ (λ t. any_then _ (want size (codes ",") t.2) _ (λ behind. listened_over c size v narrowed s behind over of))

module _ (block : Block) (keeps : KeepsOver block) where
  pub body_over : (room : ℕ) (c : Context) (s : State) (ws : List Word) → AreOver c s → IfOk (function_body block room c s ws) (λ r. IsLater c s r.0)
  unfolding function_body
  body_over room c s ws over =
      and_then _ _ (parameters (size c) room s.declarations ws) _ (parameters_over (count s) (size c) room s.declarations ws over.bindings) (λ head all.
      and_then _ _ (block c (record s { declarations = head.0 }) head.1) _ (keeps c (record s { declarations = head.0 }) head.1 (bind c s head.0 all over)) (λ body known. record {
        longer = known.longer;
        over = bind c body.0 (take (length s.declarations) body.0.declarations) (all_take (λ d. IsBoundOver (count body.0) d.value) (length s.declarations) body.0.declarations known.over.bindings) known.over;
      }))

  function_over : (room : ℕ) (c : Context) (s : State) (ws : List Word) → AreOver c s → IfOk (function block room c s ws) (λ r. IsLater c s r.0)
  unfolding function
  function_over room c s ws over = any_then _ (want_function (size c) ws) _ (λ behind. body_over room c s (behind_name behind) over)

  -- a function that may be a handler
  pub in_handler_over : (room : ℕ) (c : Context) (h : Option Handler) (s : State) (ws : List Word) → IsHandlerOver (count s) h → AreOver c s
      → IfOk (function block room (in_handler c h) s ws) (λ r. IsLater c s r.0)
  in_handler_over room c h s ws of over =
      IfOk-weaker (function block room (in_handler c h) s ws) (λ r. IsLater (in_handler c h) s r.0) (λ r. IsLater c s r.0) (λ r later. outside_over c h s r.0 over later)
      (function_over room (in_handler c h) s ws (within c h s of over))

  pub handed_over : (lists : Bool) (room : ℕ) (c : Context) (chain : Option ExactChain) (s : State) (ws : List Word) → IsElementsOver (count s) chain → AreOver c s
      → IfOk (handed lists block room c chain s ws) (λ r. IsLater c s r.0)
  unfolding handed
  handed_over lists room c chain s ws of over =
      either _ (begins_name (codes "function") ws) _ _
      (in_handler_over room c (handler_at (place (size c) ws) chain) s ws (handler_over (count s) (place (size c) ws) chain of) over)
      (any_then _ (handed_other lists (size c) (rules_in c room true) ws) _ (λ rest. same c s over))

  several_over : (lists : Bool) (room : ℕ) (c : Context) (chain : Option ExactChain) (n : ℕ) (s : State) (ws : List Word) → IsElementsOver (count s) chain → AreOver c s
      → IfOk (several lists block room c chain n s ws) (λ r. IsLater c s r.0)
  unfolding several
  several_over lists room c chain zero s ws of over = same c s over
  several_over lists room c chain (suc others) s ws of over =
      and_then _ _ (handed lists block room c chain s ws) _ (handed_over lists room c chain s ws of over) (λ f later.
      any_then _ (behind_one (size c) others f.1) _ (λ next.
      IfOk-weaker (several lists block room c chain others f.0 next) (λ r. IsLater c f.0 r.0) (λ r. IsLater c s r.0) (λ r more. further c s f.0 r.0 later more)
      (several_over lists room c chain others f.0 next (elements_more (count s) (count f.0) later.longer chain of) later.over)))

  listen_over : (room : ℕ) (c : Context) (v : Value) (narrowed : Bool) (s : State) (ws : List Word) → AreOver c s → IsValueOver (count s) v
      → IfOk (listen_arguments block room c v narrowed s ws) (λ r. IsLater c s r.0)
  unfolding listen_arguments
  listen_over room c v narrowed s ws over of =
      and_then _ _ (listening (size c) v narrowed s ws) _ (listening_over c (size c) v narrowed s ws over of) (λ r known.
      IfOk-weaker (handed false block room c (elements_in r.0) r.1 r.2) (λ x. IsLater c r.1 x.0) (λ x. IsLater c s x.0) (λ x more. further c s r.1 x.0 known.0 more)
      (handed_over false room c (elements_in r.0) r.1 r.2 (elements_in_over (count r.1) r.0 known.1) known.0.over))

  unchanged_over : (c : Context) (v : Value) (s : State) (r : Outcome (State × List Word)) → IsValueOver (count s) v → IfOk r (λ t. IsLater c s t.0) → IfOk (unchanged v r) (DoneOver c s)
  unchanged_over c v s r of known = and_then _ _ r _ known (λ t later. (later, value_more (count s) (count t.0) later.longer v of, tt))

  arguments_over : (room : ℕ) (c : Context) (v : Value) (f : Form) (name : List ℕ) (fewest : ℕ) (most : Option ℕ) (n : ℕ) (s : State) (ws : List Word)
      → AreOver c s → IsValueOver (count s) v → IfOk (arguments_of block room c v (record { name = name; fewest = fewest; most = most; form = f }) n s ws) (DoneOver c s)
  unfolding arguments_of
  arguments_over room c v (moves step) name fewest most n s ws over of = move_over c (moves step) (n == 0 && fewest == 0) v s ws over of
  arguments_over room c v takes_first name fewest most n s ws over of = (same c s over, called_over (count s) v first of (All-nil (λ a. a < count s), tt), tt)
  arguments_over room c v unites name fewest most n s ws over of = unite_over c v s ws over of
  arguments_over room c v goes_back name fewest most n s ws over of = (same c s over, called_over (count s) v (plain back) of tt, tt)
  arguments_over room c v classes name fewest most n s ws over of = class_over c room v s ws over of
  arguments_over room c v attributes name fewest most n s ws over of = attributes_over c v s ws over of
  arguments_over room c v (grows beside) name fewest most n s ws over of = grow_over c room beside v s ws over of
  arguments_over room c v places name fewest most n s ws over of = place_over c room v s ws over of
  arguments_over room c v handles name fewest most n s ws over of =
      unchanged_over c v s _ of (several_over false room c (elements_in v) (at_least fewest n) s ws (elements_in_over (count s) v of) over)
  arguments_over room c v listens name fewest most n s ws over of = unchanged_over c v s _ of (listen_over room c v (n == 3) s ws over of)
  arguments_over room c v passes name fewest most n s ws over of = unchanged_over c v s _ of (several_over true room c (elements_in v) n s ws (elements_in_over (count s) v of) over)

  call_over : (room : ℕ) (c : Context) (v : Value) (s : State) (ws : List Word) → AreOver c s → IsValueOver (count s) v → IfOk (call block room c v s ws) (ValueOver c s)
  unfolding call
  call_over room c v s ws over of =
      any_then _ (dot_name c.exact (size c) v ws) _ (λ name.
      any_then _ (admitted (size c) v name.0.0 name.0.1 name.1) _ (λ n.
      any_then _ (want_open (size c) room (codes "(") name.1) _ (λ inside.
      and_then _ _ (arguments_of block (room - 1) c v name.0.0 n s inside) _
      (arguments_over (room - 1) c v name.0.0.form name.0.0.name name.0.0.fewest name.0.0.most n s inside over of) (λ d known.
      any_then _ (want (size c) (codes ")") d.2) _ (λ rest.
      and_then _ _ (and_stated c name.0.1 d.0.1 d.1) _ (stated_over c name.0.1 d.0.1 d.1 known.0.over known.2) (λ t more.
      (further c s d.1 t known.0 more, value_more (count d.1) (count t) more.longer d.0.0 known.1)))))))

  ended_over : (c : Context) (size : ℕ) (v : Value) (s : State) (ws : List Word) → AreOver c s → IsValueOver (count s) v → IfOk (all_read s ws (ended size v ws)) (ValueOver c s)
  unfolding ended
  ended_over c size (elements chain) s ws over of = (same c s over, of)
  ended_over c size everywhere s ws over of = (same c s over, of)
  ended_over c size (markup trees) s ws over of = tt
  ended_over c size placed s ws over of = (same c s over, of)

  -- behind some reading, more of it
  after : (c : Context) (s t : State) (r : Outcome (Value × State × List Word)) → IsLater c s t → IfOk r (ValueOver c t) → IfOk r (ValueOver c s)
  after c s t r later known = IfOk-weaker r (ValueOver c t) (ValueOver c s) (λ x more. (further c s t x.1 later more.0, more.1)) known

  calls_over : (room : ℕ) (c : Context) (v : Value) (s : State) (skip : ℕ) (ws : List Word) → AreOver c s → IsValueOver (count s) v → IfOk (calls block room c v s skip ws) (ValueOver c s)
  unfolding calls
  calls_over room c v s skip [] over of = ended_over c (size c) v s [] over of
  calls_over room c v s (suc skip) (w ∷ ws) over of = calls_over room c v s skip ws over of
  calls_over room c v s zero (w ∷ ws) over of =
      either _ (is_mark (codes ".") w) _ _
      (and_then _ _ (call block room c v s (w ∷ ws)) _ (call_over room c v s (w ∷ ws) over of) (λ r known.
      after c s r.1 _ known.0 (calls_over room c r.0 r.1 (length ws - length r.2) ws known.0.over known.1)))
      (ended_over c (size c) v s (w ∷ ws) over of)

  pub chain_is_over : (room : ℕ) (c : Context) (s : State) (ws : List Word) → AreOver c s → IfOk (chain block room c s ws) (ValueOver c s)
  unfolding chain
  chain_is_over room c s ws over =
      and_then _ _ (root (size c) room (scope_in c s) s.grown ws) _ (root_over (size c) room (scope_in c s) s.grown ws over.bindings) (λ r known.
      let later = grown_over c s r.1 known.0 over in
      after c s (record s { grown = r.1 }) _ later (calls_over room c r.0 (record s { grown = r.1 }) 0 r.2 later.over known.1))

-- What the arguments of a call leave is over the table of names then.
use Rattle.std.proofs.Common.{ℕ, ◌<◌, ◌≤◌, not, Bool, true, false, List, [], ◌∷◌, ◌++◌, length, map, drop, Option, Some, None, codes, arith}
use Rattle.std.specs.Prelude.{IfOk}
use Rattle.std.proofs.lemmas.List.Elements.{All-nil}
use Rattle.text_bytes.specs.Attributes.{with_value}
use Rattle.tp_base.specs.Names.{Named}
use Rattle.tree_sem.specs.Trees.{LabelTree}
use Rattle.tree_sem.specs.declared.actions.Action.{Action}
use Rattle.tree_sem.specs.declared.actions.Action.TheVariants.{Classes}
use Rattle.jq_stmts.specs.Sharp.{ExactCall, plain, wide_call}
use Rattle.jq_stmts.specs.Statements.{add}
use Rattle.jq_words.specs.Words.{Word, is_name_among, first_is, begins, place, want_open}
use Rattle.jq_words.specs.Texts.{texts}
use Rattle.jq_words.specs.Calls.{Form, moves, finding, to_children, to_parent, to_parents, filtering, having, to_closest, to_siblings, takes_first, unites, goes_back, classes, attributes, grows, places, handles, listens, passes}
use Rattle.jq_cursor.specs.Keywords.{jquery}
use Rattle.jq_parts.specs.Bindings.{Value, elements, everywhere, markup, placed}
use Rattle.jq_cursor.specs.Selections.{selectors, compounds, class_set, is_attribute, with_attribute}
use Rattle.jq_parts.specs.Markup.{Grown}
use Rattle.jq_cursor.specs.TextArguments.{text_argument, some_argument}
use Rattle.jq_parts.specs.Arguments.{markup_argument, forest_or, wrapped, wrapped_forest, target}
use Rattle.jq_parts.specs.Stating.{Effect}
use Rattle.jq_stmts.specs.Tables.{AreCompoundsOver, IsCallOver, AreCallsOver, AreTreesOver, IsActionOver}
use Rattle.jq_parts.proofs.TableLaws.{selectors_over, compounds_over, classes_over, attribute_over, and_then}
use Rattle.jq_read.specs.States.{Context, State, size, scope_in}
use Rattle.jq_parts.specs.Calls.{elements_in, made, and_call}
use Rattle.jq_read.specs.Functions.{rules_in}
use Rattle.jq_read.specs.CallArguments.{compounds_argument, move_arguments, unite_arguments, acting, class_arguments, value_argument, attribute_arguments, added, grow_arguments, trees_in, place_arguments}
use Rattle.jq_forms.specs.ListParts.{and_list}
use Rattle.jq_read.proofs.ReadingLaws.{any_then, either}
use Rattle.jq_read.proofs.TableStates.{IsValueOver, IsEffectOver, count, AreOver, IsLater, value_more, same, grown_over, renamed_over}
use Rattle.jq_read.proofs.TableRoots.{ForestOver, forest_over, target_over}

-- ---- arguments

-- what the arguments of a call leave
abbrev pub DoneOver : Context → State → (Value × Effect) × State × List Word → Type 0
DoneOver c s d = IsLater c s d.1 × IsValueOver (count d.1) d.0.0 × IsEffectOver (count d.1) d.0.1

more_calls : (n : ℕ) (calls : List ExactCall) (call : ExactCall) → AreCallsOver n (map wide_call calls) → IsCallOver n (wide_call call) → AreCallsOver n (map wide_call (calls ++ call ∷ []))
more_calls n [] call over one = (one, tt)
more_calls n (x ∷ calls) call over one = (over.0, more_calls n calls call over.1 one)

pub called_over : (n : ℕ) (v : Value) (call : ExactCall) → IsValueOver n v → IsCallOver n (wide_call call) → IsValueOver n (and_call v call)
called_over n (elements chain) call over one = (over.0, more_calls n chain.calls call over.1 one)
called_over n everywhere call over one = tt
called_over n (markup trees) call over one = over
called_over n placed call over one = tt

made_over : (n : ℕ) (f : Form) (cs : List (List ℕ)) → AreCompoundsOver n cs → IsCallOver n (wide_call (made f cs))
made_over n (moves finding) cs over = over
made_over n (moves to_children) cs over = over
made_over n (moves to_parent) cs over = over
made_over n (moves to_parents) cs over = over
made_over n (moves filtering) cs over = over
made_over n (moves having) cs over = over
made_over n (moves to_closest) cs over = over
made_over n (moves to_siblings) cs over = over
made_over n takes_first cs over = tt
made_over n unites cs over = tt
made_over n goes_back cs over = tt
made_over n classes cs over = tt
made_over n attributes cs over = tt
made_over n (grows beside) cs over = tt
made_over n places cs over = tt
made_over n handles cs over = tt
made_over n listens cs over = tt
made_over n passes cs over = tt

-- compounds and the names then
abbrev pub CompoundsOver : List Named → List (List ℕ) × List Named × List Word → Type 0
CompoundsOver names m = (length names ≤ length m.1) × AreCompoundsOver (length m.1) m.0

compounds_argument_over : (size : ℕ) (none : Bool) (names : List Named) (ws : List Word) → IfOk (compounds_argument size none names ws) (CompoundsOver names)
unfolding compounds_argument
compounds_argument_over size none names ws =
    either _ none _ _ (omega arith, tt)
    (any_then _ (text_argument size ws) _ (λ t. and_then _ _ (compounds t.1 t.0 names) _ (compounds_over t.1 t.0 names) (λ r over. over)))

pub move_over : (c : Context) (f : Form) (none : Bool) (v : Value) (s : State) (ws : List Word) → AreOver c s → IsValueOver (count s) v → IfOk (move_arguments c f none v s ws) (DoneOver c s)
unfolding move_arguments
move_over c f none v s ws over of =
    and_then _ _ (compounds_argument (size c) none s.grown.names ws) _ (compounds_argument_over (size c) none s.grown.names ws) (λ m known.
    (renamed_over c s m.1 known.0 over, called_over (length m.1) v (made f m.0) (value_more (count s) (length m.1) known.0 v of) (made_over (length m.1) f m.0 known.1), tt))

pub unite_over : (c : Context) (v : Value) (s : State) (ws : List Word) → AreOver c s → IsValueOver (count s) v → IfOk (unite_arguments c v s ws) (DoneOver c s)
unfolding unite_arguments
unite_over c v s ws over of =
    any_then _ (text_argument (size c) ws) _ (λ t.
    and_then _ _ (selectors t.1 t.0 s.grown.names) _ (selectors_over t.1 t.0 s.grown.names) (λ r known.
    (renamed_over c s r.1 known.0 over, called_over (length r.1) v (plain (add r.0)) (value_more (count s) (length r.1) known.0 v of) known.1, tt)))

acting_over : (n : ℕ) (v : Value) (action : Action) → IsValueOver n v → IsActionOver n action → IsEffectOver n (acting (elements_in v) action)
acting_over n (elements chain) action over act = (over, act)
acting_over n everywhere action over act = tt
acting_over n (markup trees) action over act = tt
acting_over n placed action over act = tt

pub class_over : (c : Context) (room : ℕ) (v : Value) (s : State) (ws : List Word) → AreOver c s → IsValueOver (count s) v → IfOk (class_arguments c room v s ws) (DoneOver c s)
unfolding class_arguments
class_over c room v s ws over of =
    any_then _ (text_argument (size c) ws) _ (λ t.
    and_then _ _ (class_set t.1 t.0 s.grown.names) _ (classes_over t.1 t.0 s.grown.names) (λ r known.
    any_then _ (and_list (size c) (rules_in c room true) t.2) _ (λ rest.
    let more = value_more (count s) (length r.1) known.0 v of in
    (renamed_over c s r.1 known.0 over, more, acting_over (length r.1) v (Classes r.0) more known.1))))

value_over : (c : Context) (v : Value) (s : State) (name : List ℕ) (at : ℕ) (ws : List Word) → AreOver c s → IsValueOver (count s) v → IfOk (value_argument c v s name at ws) (DoneOver c s)
unfolding value_argument
value_over c v s name at ws over of =
    either _ (not (is_attribute name)) _ _ tt
    (and_then _ _ (with_attribute at name [] s.grown.names) _ (attribute_over at name [] s.grown.names (All-nil (λ a. a < count s))) (λ one first.
    any_then _ (text_argument (size c) (drop 1 ws)) _ (λ t.
    and_then _ _ (with_attribute t.1 (with_value name t.0) one.0 one.1) _ (attribute_over t.1 (with_value name t.0) one.0 one.1 first.1) (λ both known.
    let longer : count s ≤ length both.1 = omega (arith, first.0, known.0) in
    let more = value_more (count s) (length both.1) longer v of in
    (renamed_over c s both.1 longer over, more, acting_over (length both.1) v (Classes both.0) more known.1)))))

pub attributes_over : (c : Context) (v : Value) (s : State) (ws : List Word) → AreOver c s → IsValueOver (count s) v → IfOk (attribute_arguments c v s ws) (DoneOver c s)
unfolding attribute_arguments
attributes_over c v s ws over of =
    any_then _ (text_argument (size c) ws) _ (λ t.
    either _ (begins (codes ",") t.2) _ _ (value_over c v s t.0 t.1 t.2 over of) (same c s over, of, tt))

wrapped_forest_over : (size room : ℕ) (ws : List Word) (g : Grown) (letters : Option (List ℕ)) → IfOk (wrapped_forest size room ws g letters) (ForestOver g)
wrapped_forest_over size room ws g None = tt
wrapped_forest_over size room ws g (Some letters) = any_then _ (want_open size room (codes "(") (drop 1 ws)) _ (λ inside. forest_over (place size inside) letters g)

forest_or_over : (size room : ℕ) (ws : List Word) (g : Grown) (letters : Option (List ℕ)) → IfOk (forest_or size room ws g letters) (ForestOver g)
forest_or_over size room ws g (Some letters) = forest_over (place size ws) letters g
forest_or_over size room ws g None = either _ (first_is (is_name_among jquery) ws) _ _ (wrapped_forest_over size room ws g (wrapped ws)) tt

markup_over : (size room : ℕ) (ws : List Word) (g : Grown) → IfOk (markup_argument size room ws g) (ForestOver g)
unfolding markup_argument
markup_over size room ws g = forest_or_over size room ws g (texts ws)

added_over : (n : ℕ) (beside : Bool) (trees : List LabelTree) → AreTreesOver n trees → IsActionOver n (added beside trees)
added_over n true trees over = over
added_over n false trees over = over

pub grow_over : (c : Context) (room : ℕ) (beside : Bool) (v : Value) (s : State) (ws : List Word) → AreOver c s → IsValueOver (count s) v → IfOk (grow_arguments c room beside v s ws) (DoneOver c s)
unfolding grow_arguments
grow_over c room beside v s ws over of =
    any_then _ (some_argument (size c) ws) _ (λ given.
    and_then _ _ (markup_argument (size c) room given.0 s.grown) _ (markup_over (size c) room given.0 s.grown) (λ f known.
    let more = value_more (count s) (length f.1.names) known.0 v of in
    (grown_over c s f.1 known.0 over, more, acting_over (length f.1.names) v (added beside f.0) more (added_over (length f.1.names) beside f.0 known.1))))

trees_in_over : (n : ℕ) (v : Value) → IsValueOver n v → AreTreesOver n (trees_in v)
trees_in_over n (elements chain) over = tt
trees_in_over n everywhere over = tt
trees_in_over n (markup trees) over = over
trees_in_over n placed over = tt

pub place_over : (c : Context) (room : ℕ) (v : Value) (s : State) (ws : List Word) → AreOver c s → IsValueOver (count s) v → IfOk (place_arguments c room v s ws) (DoneOver c s)
unfolding place_arguments
place_over c room v s ws over of =
    any_then _ (some_argument (size c) ws) _ (λ given.
    and_then _ _ (target (size c) room (scope_in c s) given.0 s.grown.names) _ (target_over (size c) room (scope_in c s) given.0 s.grown.names over.bindings) (λ r known.
    (renamed_over c s r.1 known.0 over, tt, (known.1, trees_in_over (length r.1) v (value_more (count s) (length r.1) known.0 v of)))))

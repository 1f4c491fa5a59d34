-- Markup, the roots of chains and the targets of placing are over the table of names then.
use Rattle.std.proofs.Common.{◌≡◌, ℕ, ◌+◌, ◌≤◌, if◌then◌else◌, List, [], ◌∷◌, length, drop, Option, Some, None, refl, codes, arith}
use Rattle.std.specs.Prelude.{Result, Ok, Err, IfOk, nat_lt}
use Rattle.tp_base.specs.Names.{Named}
use Rattle.tree_sem.specs.Trees.{LabelTree}
use Rattle.html_subset.specs.declared.faults.PageFault.{PageFault}
use Rattle.html_subset.specs.Reading.{read_forest}
use Rattle.html_subset.proofs.AtomLemmas.{AreForestOver, read_forest_over}
use Rattle.html_subset.proofs.NamesKept.{read_forest_longer}
use Rattle.jq_stmts.specs.Sharp.{ExactChain}
use Rattle.jq_words.specs.declared.faults.ScriptFault.TheVariants.{TooManyForestNodes}
use Rattle.jq_words.specs.declared.faults.TheConstants.{MOST_FOREST_NODES}
use Rattle.jq_words.specs.Words.{Word, is_mark, is_name, is_any_name, is_name_among, fits, is_form, spelled, place, unexpected, want, want_open}
use Rattle.jq_words.specs.Brackets.{is_empty, arguments, behind_arguments}
use Rattle.jq_words.specs.Texts.{texts, is_markup}
use Rattle.jq_cursor.specs.Keywords.{jquery, pages, is_name_besides}
use Rattle.jq_parts.specs.Bindings.{Value, elements, everywhere, markup, placed, bound}
use Rattle.jq_parts.specs.Scopes.{Scope, used, this_at}
use Rattle.jq_cursor.specs.Selections.{selectors}
use Rattle.jq_parts.specs.Markup.{Grown, forest, with_forest, nodes_in}
use Rattle.jq_parts.specs.Arguments.{elements_of, is_apart, named_target, wrapped_target, wrapped_this, bare_target, other_target, target_or, target}
use Rattle.jq_parts.specs.Roots.{root, wrapped_root, root_of, jquery_argument, lettered_root, named_root}
use Rattle.jq_stmts.specs.Tables.{AreTreesOver}
use Rattle.jq_parts.proofs.TableLaws.{selectors_over, and_then}
use Rattle.jq_read.proofs.ReadingLaws.{any_then, either}
use Rattle.jq_read.proofs.TableStates.{IsExactOver, IsValueOver, AreBoundOver, used_over, this_over}

-- ---- markup

-- trees and what markup has taken then
abbrev pub ForestOver : Grown → List LabelTree × Grown → Type 0
ForestOver g r = (length g.names ≤ length r.1.names) × AreTreesOver (length r.1.names) r.0

trees_are_over : (n : ℕ) (trees : List LabelTree) → AreForestOver n trees → AreTreesOver n trees
trees_are_over n [] over = tt
trees_are_over n (t ∷ trees) over = (over.0, trees_are_over n trees over.1)

read_over : (at : ℕ) (g : Grown) (read : List Named × Result (List LabelTree) PageFault)
    → ((names : List Named) (trees : List LabelTree) → read ≡ (names, Ok trees) → (length g.names ≤ length names) × AreTreesOver (length names) trees) → IfOk (with_forest at g.nodes read) (ForestOver g)
read_over at g (names, Err e) known = tt
read_over at g (names, Ok trees) known = either _ (nat_lt MOST_FOREST_NODES (g.nodes + nodes_in trees)) (Err (TooManyForestNodes at)) _ tt (known names trees refl)

pub forest_over : (at : ℕ) (letters : List ℕ) (g : Grown) → IfOk (forest at letters g) (ForestOver g)
unfolding forest
forest_over at letters g = read_over at g (read_forest letters g.names) (λ names trees is.
    (read_forest_longer letters g.names names trees is, trees_are_over (length names) trees (read_forest_over letters g.names names trees is)))

-- ---- roots

-- a value and what markup has taken then
abbrev pub RootOver : Grown → Value × Grown → Type 0
RootOver g r = (length g.names ≤ length r.1.names) × IsValueOver (length r.1.names) r.0

lettered_over : (at : ℕ) (letters : List ℕ) (g : Grown) → IfOk (lettered_root at letters g) (RootOver g)
unfolding lettered_root
lettered_over at letters g =
    either _ (is_markup letters) _ _
    (and_then _ _ (forest at letters g) _ (forest_over at letters g) (λ f over. over))
    (and_then _ _ (selectors at letters g.names) _ (selectors_over at letters g.names) (λ r over. (over.0, (over.1, tt))))

named_over : (n size : ℕ) (scope : Scope) (ws : List Word) → AreBoundOver n scope.declarations → IfOk (named_root size scope ws) (IsValueOver n)
unfolding named_root
named_over n size scope ws all =
    either _ (is_form (is_name (codes "this") ∷ []) ws) _ _ (and_then _ _ (this_at scope (place size ws)) _ (this_over n scope (place size ws)) (λ chain over. over))
    (either _ (is_form (is_name_among pages ∷ []) ws) _ _ tt
    (either _ (is_form (is_any_name ∷ []) ws) _ _ (used_over n scope (spelled ws) (place size ws) all) tt))

root_of_over : (size : ℕ) (scope : Scope) (ws : List Word) (g : Grown) (letters : Option (List ℕ)) → AreBoundOver (length g.names) scope.declarations → IfOk (root_of size scope ws g letters) (RootOver g)
root_of_over size scope ws g (Some letters) all = lettered_over (place size ws) letters g
root_of_over size scope ws g None all = and_then _ _ (named_root size scope ws) _ (named_over (length g.names) size scope ws all) (λ v over. (omega arith, over))

argument_over : (size : ℕ) (scope : Scope) (ws : List Word) (g : Grown) → AreBoundOver (length g.names) scope.declarations → IfOk (jquery_argument size scope ws g) (RootOver g)
unfolding jquery_argument
argument_over size scope ws g all = root_of_over size scope ws g (texts ws) all

wrapped_over : (size room : ℕ) (scope : Scope) (g : Grown) (ws : List Word) → AreBoundOver (length g.names) scope.declarations → IfOk (wrapped_root size room scope g ws) (λ r. RootOver g (r.0, r.1))
unfolding wrapped_root
wrapped_over size room scope g ws all =
    any_then _ (want_open size room (codes "(") ws) _ (λ inside.
    any_then _ (if is_empty (arguments inside) then unexpected size inside else Ok (arguments inside)) _ (λ given.
    and_then _ _ (jquery_argument size scope given g) _ (argument_over size scope given g all) (λ r over.
    any_then _ (want size (codes ")") (behind_arguments inside)) _ (λ rest. over))))

pub root_over : (size room : ℕ) (scope : Scope) (g : Grown) (ws : List Word) → AreBoundOver (length g.names) scope.declarations → IfOk (root size room scope g ws) (λ r. RootOver g (r.0, r.1))
unfolding root
root_over size room scope g ws all =
    either _ (fits (is_name_among jquery ∷ is_mark (codes "(") ∷ []) ws) _ _ (wrapped_over size room scope g (drop 1 ws) all)
    (and_then _ _ (used scope (spelled ws) (place size ws)) _ (used_over (length g.names) scope (spelled ws) (place size ws) all) (λ v over. (omega arith, over)))

-- ---- targets

elements_of_over : (n at : ℕ) (v : Value) → IsValueOver n v → IfOk (elements_of at v) (IsExactOver n)
elements_of_over n at (elements chain) over = over
elements_of_over n at everywhere over = tt
elements_of_over n at (markup trees) over = tt
elements_of_over n at placed over = tt

named_target_over : (n : ℕ) (scope : Scope) (at : ℕ) (name : List ℕ) (name_at : ℕ) → AreBoundOver n scope.declarations → IfOk (named_target scope at name name_at) (IsExactOver n)
unfolding named_target
named_target_over n scope at name name_at all =
    either _ (is_apart (bound name scope.declarations)) _ _ tt
    (and_then _ _ (used scope name name_at) _ (used_over n scope name name_at all) (λ v over. elements_of_over n at v over))

wrapped_target_over : (n size room : ℕ) (scope : Scope) (at : ℕ) (ws : List Word) → AreBoundOver n scope.declarations → IfOk (wrapped_target size room scope at ws) (IsExactOver n)
unfolding wrapped_target
wrapped_target_over n size room scope at ws all =
    either _ (is_apart (bound (spelled (drop 1 ws)) scope.declarations)) _ _ tt
    (any_then _ (want_open size room (codes "(") ws) _ (λ inside. named_target_over n scope at (spelled inside) (place size inside) all))

wrapped_this_over : (n size room : ℕ) (scope : Scope) (ws : List Word) → IfOk (wrapped_this size room scope ws) (IsExactOver n)
unfolding wrapped_this
wrapped_this_over n size room scope ws = any_then _ (want_open size room (codes "(") ws) _ (λ inside. this_over n scope (place size inside))

bare_target_over : (n : ℕ) (scope : Scope) (at : ℕ) (ws : List Word) → AreBoundOver n scope.declarations → IfOk (bare_target scope at ws) (IsExactOver n)
unfolding bare_target
bare_target_over n scope at ws all = either _ (is_form (is_name_besides (codes "this" ∷ []) ∷ []) ws) _ _ (named_target_over n scope at (spelled ws) at all) tt

other_target_over : (n size room : ℕ) (scope : Scope) (ws : List Word) → AreBoundOver n scope.declarations → IfOk (other_target size room scope ws) (IsExactOver n)
unfolding other_target
other_target_over n size room scope ws all =
    either _ (is_form (is_name_among jquery ∷ is_mark (codes "(") ∷ is_name (codes "this") ∷ is_mark (codes ")") ∷ []) ws) _ _ (wrapped_this_over n size room scope (drop 1 ws))
    (either _ (is_form (is_name_among jquery ∷ is_mark (codes "(") ∷ is_name_besides pages ∷ is_mark (codes ")") ∷ []) ws) _ _ (wrapped_target_over n size room scope (place size ws) (drop 1 ws) all)
    (bare_target_over n scope (place size ws) ws all))

-- a chain and the names then
abbrev pub TargetOver : List Named → ExactChain × List Named → Type 0
TargetOver names r = (length names ≤ length r.1) × IsExactOver (length r.1) r.0

target_or_over : (size room : ℕ) (scope : Scope) (ws : List Word) (names : List Named) (letters : Option (List ℕ)) → AreBoundOver (length names) scope.declarations
    → IfOk (target_or size room scope ws names letters) (TargetOver names)
target_or_over size room scope ws names (Some letters) all = and_then _ _ (selectors (place size ws) letters names) _ (selectors_over (place size ws) letters names) (λ r over. (over.0, (over.1, tt)))
target_or_over size room scope ws names None all = and_then _ _ (other_target size room scope ws) _ (other_target_over (length names) size room scope ws all) (λ chain over. (omega arith, over))

pub target_over : (size room : ℕ) (scope : Scope) (ws : List Word) (names : List Named) → AreBoundOver (length names) scope.declarations → IfOk (target size room scope ws names) (TargetOver names)
unfolding target
target_over size room scope ws names all = target_or_over size room scope ws names (texts ws) all

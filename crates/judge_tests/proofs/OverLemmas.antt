-- Checks of lists, element by element.
use Rattle.std.proofs.Common.{◌≡◌, ◌⊎◌, ℕ, ◌+◌, ◌<◌, ◌≤◌, List, [], ◌∷◌, ◌++◌, map, take, length, Some, IsSome, slice_get, Contains, All, refl, sym, subst, inr}
use Rattle.std.proofs.lemmas.List.{take_all}
use Rattle.std.proofs.lemmas.List.Elements.{All-more, All-nil}
use Rattle.std.proofs.lemmas.Option.{get_or_from_slice_get}
use Rattle.tree_sem.specs.Trees.{LabelTree, node_at}
use Rattle.tree_sem.specs.Nodes.{HasAtom}
use Rattle.tree_sem.specs.Order.{rest_of}
use Rattle.tree_sem.proofs.NodeLemmas.{Contains-paths_of, HasAtom-node}
use Rattle.sel_text.specs.declared.selectors.Compound.{Compound}
use Rattle.sel_text.specs.declared.selectors.Join.{Join}
use Rattle.sel_text.specs.Selectors.{Selector, simple}
use Rattle.sel_text.specs.Parts.{and_then, with_parts, selector_from}
use Rattle.jq_stmts.specs.Views.{atoms_of}
use Rattle.css_read.specs.declared.sheets.SheetItem.{SheetItem}
use Rattle.css_read.specs.Sheets.{Outcome, judged, skipped, Item}
use Rattle.css_read.specs.Views.{outcome_of, item_of}
use Rattle.jq_stmts.specs.Statements.{Statement}
use Rattle.guard_sem.specs.Guards.{Guard}
use Rattle.guard_simplify.specs.Law.{IsOver}
use Rattle.judge.specs.Answers.{judged_of, judged_in}
use Rattle.judge.specs.Outcomes.{AreGiven}
use Rattle.jq_stmts.specs.Tables.{AreAtoms, AreCompoundsOver, IsSelectorOver, AreSelectorsOver}

pub atoms_more : (n : ℕ) (xs : List ℕ) (i a : ℕ) → i < length xs → slice_get xs i ≡ Some a → a < n → AreAtoms n (take i xs) → AreAtoms n (take (i + 1) xs)
atoms_more n xs i a within is here so_far = All-more (λ a. a < n) xs i a within so_far (subst (λ a. a < n) (sym (get_or_from_slice_get xs i a a is)) here)

pub atoms_all : (n : ℕ) (xs : List ℕ) (i : ℕ) → length xs ≤ i → AreAtoms n (take i xs) → AreAtoms n xs
atoms_all n xs i le so_far = subst (λ (z : List ℕ). AreAtoms n z) (take_all i xs le) so_far

parts_over : (n : ℕ) (s : Selector) (joins : List Join) (parts : List Compound) → IsSelectorOver n s → AreCompoundsOver n (atoms_of parts) → IsSelectorOver n (with_parts s joins parts)
parts_over n s [] parts over are = over
parts_over n s (j ∷ joins) [] over are = over
parts_over n s (j ∷ joins) (c ∷ parts) over are = parts_over n (and_then s j c) joins parts (are.0, (over.0, over.1)) are.1

pub selector_over : (n : ℕ) (parts : List Compound) (joins : List Join) → AreCompoundsOver n (atoms_of parts) → IsSelectorOver n (selector_from parts joins)
selector_over n [] joins are = (All-nil (λ a. a < n), tt)
selector_over n (c ∷ parts) joins are = parts_over n (simple c.atoms) joins parts (are.0, tt) are.1

both_over : (n : ℕ) (o : Outcome) (items : List SheetItem) → AreSelectorsOver n (judged_of o) → AreSelectorsOver n (judged_in (map item_of items)) → AreSelectorsOver n (judged_of o ++ judged_in (map item_of items))
both_over n (judged s) items here others = (here.0, others)
both_over n (skipped cause at) items here others = others

pub one_judged : (n : ℕ) (i : SheetItem) (items : List SheetItem) → AreSelectorsOver n (judged_of (outcome_of i.outcome)) → AreSelectorsOver n (judged_in (map item_of items)) → AreSelectorsOver n (judged_in (map item_of (i ∷ items)))
one_judged n i items here others = both_over n (outcome_of i.outcome) items here others

pub root_node : (t : LabelTree) (at : List ℕ) → at ≡ [] → IsSome (node_at at t)
root_node t at root = subst (λ v. IsSome (node_at v t)) (sym root) refl

-- each node with an atom is the root or comes after it
pub root_left : (n : ℕ) (t : LabelTree) (at : List ℕ) → at ≡ [] → (v : List ℕ) (a : ℕ) → HasAtom t v a → (a < n) ⊎ Contains (at ∷ rest_of at t) v
root_left n t at root v a has = inr (subst (λ (p : List ℕ). Contains (p ∷ rest_of p t) v) (sym root) ((Contains-paths_of t v).1 (HasAtom-node t v a has)))

-- what may be judged may be judged with further guards
pub with_guards : (ss : List Statement) (items : List Item) (extra : List Guard) (n : ℕ) (page : LabelTree) → AreGiven ss items [] n page → All (IsOver n) extra → AreGiven ss items extra n page
with_guards ss items extra n page given guards = record {
  statements = given.statements;
  selectors = given.selectors;
  guards = guards;
  tree = given.tree;
  few_statements = given.few_statements;
  few_nodes = given.few_nodes;
}

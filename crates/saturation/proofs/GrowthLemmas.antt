-- The changes of a cell grow, so that the first that holds is found by halves.
use Rattle.std.proofs.Common.{◌≡◌, ℕ, zero, suc, ◌+◌, ◌<◌, ◌≤◌, Bool, true, false, List, [], ◌∷◌, length, get_or, Some, None, refl, sym, ap, subst, ◌∙◌, arith}
use Rattle.std.proofs.lemmas.List.{get_or_default}
use Rattle.std.proofs.lemmas.Bool.{both_ways, le-ltb, false_from_ne_true}
use Rattle.class_diagrams.specs.References.{Reference}
use Rattle.class_diagrams.specs.Trees.{Tree, eval}
use Rattle.class_diagrams.specs.Arena.{tree_at, Arena}
use Rattle.simple_core.specs.declared.system.System.{System}
use Rattle.pushdown_sym.specs.CellMap.{Entries}
use Rattle.pushdown_sym.specs.Rounds.{cell}
use Rattle.saturation.specs.Histories.{Change, place_from, start_place, AreInOrder, AreGrowing, first_holding, IsHistory}
use Rattle.saturation.specs.Saturation.{Histories, IsBuilt}
use Rattle.saturation.proofs.HistoryLemmas.{place_from-before}
use Rattle.saturation.proofs.RestLemmas.{cell-later}

-- ### the changes grow

-- in the round of a change its diagram is the cell's
placed : (cs : List Change) (f : Reference) → AreInOrder cs → (i : ℕ) (d : Change) → i < length cs → place_from f cs (get_or cs i d).0 ≡ (get_or cs i d).1
placed [] f order i d less = absurd (omega arith)
placed (c ∷ cs) f order zero d less = rw (le-ltb c.0 c.0 (omega arith)) (place_from-before c.1 cs c.0 order.0)
placed (c ∷ cs) f order (suc i) d less = placed cs _ order.1 i d (omega arith)

rounds_rise : (cs : List Change) → AreInOrder cs → (i j : ℕ) (d : Change) → i ≤ j → j < length cs → (get_or cs i d).0 ≤ (get_or cs j d).0
rounds_rise [] order i j d le less = absurd (omega arith)
rounds_rise (c ∷ cs) order zero zero d le less = omega arith
rounds_rise (c ∷ cs) order zero (suc j) d le less = let later = order.0 j d (omega arith) in omega arith
rounds_rise (c ∷ cs) order (suc i) zero d le less = absurd (omega arith)
rounds_rise (c ∷ cs) order (suc i) (suc j) d le less = rounds_rise cs order.1 i j d (omega arith) (omega arith)

module _ (s : System) (branches : List Tree) (n j a : ℕ) (history : List Change) (told : IsHistory s branches n history j a) where
  cell_then : (i : ℕ) (d : Change) → i < length history → tree_at branches (get_or history i d).1 ≡ cell s (get_or history i d).0 j a
  cell_then i d less =
      ap (tree_at branches) (sym (placed history (start_place s j a) told.order i d less)) ∙ told.cells (get_or history i d).0 (told.past i d less)

  pub changes_grow : (label : List ℕ) → AreGrowing branches history label
  changes_grow label i k d le less holds =
      ap (λ t. eval t label) (cell_then k d less)
      ∙ cell-later s (get_or history i d).0 (get_or history k d).0 j a (rounds_rise history told.order i k d le less) label
      (ap (λ t. eval t label) (sym (cell_then i d (omega arith))) ∙ holds)

-- ### the first that holds, by halves

module _ (branches : List Tree) (label : List ℕ) where
  holds : Change → Bool
  holds c = eval (tree_at branches c.1) label

  -- no change before the first place holds, and each from the second on does
  pub record IsBetween (cs : List Change) (low high : ℕ) : Type 0 where
    pub ordered : low ≤ high
    pub within : high ≤ length cs
    pub none : (i : ℕ) (d : Change) → i < low → eval (tree_at branches (get_or cs i d).1) label ≡ false
    pub all : (i : ℕ) (d : Change) → high ≤ i → i < length cs → eval (tree_at branches (get_or cs i d).1) label ≡ true

  module _ (cs all : List Change) (same : cs ≡ all) (grows : AreGrowing branches all label) (low high middle : ℕ) (between : IsBetween cs low high) (from : low ≤ middle) (below : middle < high) (e : Change) where
    inside : middle < length cs
    inside = let end = between.within in omega arith

    growing : AreGrowing branches cs label
    growing = subst (λ (xs : List Change). AreGrowing branches xs label) (sym same) grows

    at_any : (d : Change) (v : Bool) → eval (tree_at branches (get_or cs middle e).1) label ≡ v → eval (tree_at branches (get_or cs middle d).1) label ≡ v
    at_any d v here = ap (λ (c : Change). eval (tree_at branches c.1) label) (get_or_default cs middle d e inside) ∙ here

    pub between_lower : eval (tree_at branches (get_or cs middle e).1) label ≡ true → IsBetween cs low middle
    between_lower here = record {
      ordered = from;
      within = omega (arith, inside);
      none = between.none;
      all = λ i d past less. growing middle i d past less (at_any d true here);
    }

    pub between_upper : eval (tree_at branches (get_or cs middle e).1) label ≡ false → IsBetween cs (middle + 1) high
    between_upper fails = record {
      ordered = omega arith;
      within = between.within;
      none = λ i d less. false_from_ne_true (eval (tree_at branches (get_or cs i d).1) label)
          (λ yes. both_ways (eval (tree_at branches (get_or cs middle d).1) label) (at_any d false fails) (growing i middle d (omega arith) inside yes));
      all = between.all;
    }

  -- where the halves meet
  pub first_at : (cs : List Change) (i : ℕ) (d : Change) → i < length cs → ((m : ℕ) (e : Change) → m < i → eval (tree_at branches (get_or cs m e).1) label ≡ false)
      → eval (tree_at branches (get_or cs i d).1) label ≡ true → first_holding branches cs label ≡ Some (get_or cs i d).0
  first_at [] i d less none here = absurd (omega arith)
  first_at (c ∷ cs) zero d less none here = rw here refl
  first_at (c ∷ cs) (suc i) d less none here = rw (none 0 c (omega arith)) (first_at cs i d (omega arith) (λ m e before. none (suc m) e (omega arith)) here)

  pub none_at : (cs : List Change) → ((m : ℕ) (e : Change) → m < length cs → eval (tree_at branches (get_or cs m e).1) label ≡ false) → first_holding branches cs label ≡ None
  none_at [] none = refl
  none_at (c ∷ cs) none = rw (none 0 c (omega arith)) (none_at cs (λ m e before. none (suc m) e (omega arith)))

  module _ (cs all : List Change) (same : cs ≡ all) (low high : ℕ) (between : IsBetween cs low high) (met : high ≤ low) where
    pub first_met : (d : Change) → low < length cs → Some (get_or cs low d).0 ≡ first_holding branches all label
    first_met d less =
        sym (first_at cs low d less between.none (between.all low d met less)) ∙ ap (λ (xs : List Change). first_holding branches xs label) same

    pub none_met : length cs ≤ low → None ≡ first_holding branches all label
    none_met past = sym (none_at cs (λ m d less. between.none m d (omega arith))) ∙ ap (λ (xs : List Change). first_holding branches xs label) same

-- of a cell's history that is found at the end
pub found_growing : (s : System) (d : Arena) (histories : Histories) (cells : Entries) → IsBuilt s d histories cells → (j a : ℕ) → j < length s.kinds
    → (found : List Change) → found ≡ histories j a → (label : List ℕ) → AreGrowing d.branches found label
found_growing s d histories cells built j a kind found is label =
    subst (λ (h : List Change). AreGrowing d.branches h label) (sym is) (changes_grow s d.branches built.round j a (histories j a) (built.told j a kind) label)

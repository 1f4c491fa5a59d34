-- A binary search among the atoms that have diagrams.
use Rattle.std.proofs.Common.{◌≡◌, ℕ, ◌<◌, ◌≤◌, eqb, false, List, [], ◌∷◌, map, length, get_or, Contains, Ok, Err, refl, sym, ap, ◌∙◌, arith, inl, inr}
use Rattle.std.specs.List.Sorted.{IsSearchInRange, IsBinarySearchResult, IsNonDecreasingBy, IsStrictlyIncreasing}
use Rattle.std.specs.Ordering.{nat_cmp, ordering_index}
use Rattle.std.proofs.lemmas.Cmp.{ranked}
use Rattle.std.proofs.lemmas.Bool.{cases_lt, eq-eqb, ne_eqb}
use Rattle.std.proofs.lemmas.Bool.Decides.{nat_tests}
use Rattle.std.proofs.lemmas.List.{get_or-map, length-map}
use Rattle.std.proofs.lemmas.List.Elements.{All-contains}
use Rattle.std.proofs.lemmas.List.Sorted.{IsNonDecreasingBy-from_default}
use Rattle.tp_base.proofs.Rising.{rises_between, rises_head, rises_tail, Contains-here, Contains-behind, Contains-cons, Contains-none}
use Rattle.class_diagrams.specs.References.{Reference, leaf_reference}
use Rattle.class_diagrams.specs.Trees.{Tree, leaf}
use Rattle.class_diagrams.specs.Arena.{tree_at}
use Rattle.diagram_ops.specs.Compositions.{tree_by}

abbrev Pairs : Type 0
Pairs = List (ℕ × Reference)

atom_there : (by : Pairs) (e : ℕ × Reference) → Contains by e → Contains (map (λ (x : ℕ × Reference). x.0) by) e.0
atom_there [] e there = absurd (Contains-none e there)
atom_there (x ∷ by) e there = elim ((Contains-cons e x by).0 there) [
  | inl same ↦ Contains-here e.0 x.0 (map (λ (y : ℕ × Reference). y.0) by) (ap (λ (y : ℕ × Reference). y.0) same)
  | inr behind ↦ Contains-behind e.0 x.0 (map (λ (y : ℕ × Reference). y.0) by) (atom_there by e behind)
]

module _ (ts : List Tree) (atom : ℕ) where
  -- the entry of the atom is the only one
  found_at : (by : Pairs) → IsStrictlyIncreasing (map (λ e. e.0) by) → (e : ℕ × Reference) → Contains by e → e.0 ≡ atom → tree_by ts by atom ≡ tree_at ts e.1
  found_at [] rises e there is = absurd (Contains-none e there)
  found_at (x ∷ by) rises e there is = elim ((Contains-cons e x by).0 there) [
    | inl same ↦
        let first : eqb x.0 atom ≡ eqb atom atom = ap (λ a. eqb a atom) (ap (λ (y : ℕ × Reference). y.0) (sym same) ∙ is) in
        rw (first, eq-eqb atom atom refl) (ap (λ (y : ℕ × Reference). tree_at ts y.1) (sym same))
    | inr behind ↦
        let less : x.0 < e.0 = All-contains (λ y. x.0 < y) (map (λ (y : ℕ × Reference). y.0) by) e.0 (rises_head x.0 (map (λ (y : ℕ × Reference). y.0) by) rises) (atom_there by e behind) in
        rw (ne_eqb x.0 atom (λ same. omega (arith, less, is, same)))
        (found_at by (rises_tail x.0 (map (λ (y : ℕ × Reference). y.0) by) rises) e behind is)
  ]

  not_found : (by : Pairs) → ((e : ℕ × Reference) → Contains by e → e.0 ≡ atom → ⊥) → tree_by ts by atom ≡ leaf false
  not_found [] none = refl
  not_found (x ∷ by) none =
      rw (ne_eqb x.0 atom (none x (Contains-here x x by refl)))
      (not_found by (λ e there. none e (Contains-behind e x by there)))

module _ (by : Pairs) (rises : IsStrictlyIncreasing (map (λ e. e.0) by)) (atom : ℕ) where
  -- the comparisons with the atom rise along the list
  comparisons_rise : IsNonDecreasingBy (λ (e : ℕ × Reference). ordering_index (nat_cmp e.0 atom)) by
  comparisons_rise = IsNonDecreasingBy-from_default (λ (e : ℕ × Reference). ordering_index (nat_cmp e.0 atom)) by (0, leaf_reference false) (λ i j le within.
      let long = length-map by (λ (e : ℕ × Reference). e.0) in
      let first = get_or-map (λ (e : ℕ × Reference). e.0) by i (0, leaf_reference false) 0 (omega (arith, le, within)) in
      let second = get_or-map (λ (e : ℕ × Reference). e.0) by j (0, leaf_reference false) 0 within in
      let atoms_rise = rises_between (map (λ e. e.0) by) rises i j le (omega (arith, within, long)) in
      let rise : (get_or by i (0, leaf_reference false)).0 ≤ (get_or by j (0, leaf_reference false)).0 = omega (arith, first, second, atoms_rise) in
      grind (arith, nat_tests))

  pub searched_ok : (ts : List Tree) (i : ℕ) (e : ℕ × Reference) → IsSearchInRange (Ok i) (length by) → IsBinarySearchResult (λ (x : ℕ × Reference). nat_cmp x.0 atom) by (Ok i)
      → e ≡ get_or by i e → tree_by ts by atom ≡ tree_at ts e.1
  searched_ok ts i e within equal is =
      found_at ts atom by rises e (i, within, sym is)
      (ap (λ (x : ℕ × Reference). x.0) is ∙ ranked _ atom _ (sym (equal e)))

  pub searched_err : (ts : List Tree) (i : ℕ) → IsBinarySearchResult (λ (x : ℕ × Reference). nat_cmp x.0 atom) by (Err i) → tree_by ts by atom ≡ leaf false
  searched_err ts i parted =
      let parts = parted comparisons_rise in
      not_found ts atom by (λ e there same. elim (cases_lt there.0 i) [
        | inl before ↦
            let less : (get_or by there.0 e).0 < atom = ranked _ atom _ (sym (parts.0 there.0 e (omega arith) before)) in
            omega (arith, less, same, ap (λ (x : ℕ × Reference). x.0) there.2)
        | inr behind ↦
            let more : atom < (get_or by there.0 e).0 = ranked _ atom _ (sym (parts.1 there.0 e behind there.1)) in
            omega (arith, more, same, ap (λ (x : ℕ × Reference). x.0) there.2)
      ])

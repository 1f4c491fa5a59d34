-- The guard of a selector holds exactly where the selector matches.
use Rattle.std.proofs.Common.{◌≡◌, ◌↔◌, ℕ, ◌≤◌, List, [], ◌∷◌, ◌++◌, length, take, map, Option, Result, Ok, Err, IfOk, Some, None, option_map, IsSome, IsSomeAnd, All, Contains, refl, sym, ap, ◌∙◌, arith, length-append}
use Rattle.std.proofs.lemmas.List.Elements.{All-cons, All-head, All-tail, All-contains}
use Rattle.std.proofs.lemmas.List.{take-append-le, length-take}
use Rattle.std.proofs.Math.Seq.{take-length}
use Rattle.tp_base.specs.declared.no_memory.NoMemory.{NoMemory}
use Rattle.tree_sem.specs.Trees.{LabelTree, node_at}
use Rattle.tree_sem.specs.Nodes.{IsNode, HasAtom, HasAtoms}
use Rattle.tree_sem.proofs.BothLemmas.{last_of}
use Rattle.tree_sem.proofs.NodeLemmas.{HasAtom-node, HasAtoms-node, HasAtoms-none}
use Rattle.tree_sem.proofs.PathLemmas.{take_take}
use Rattle.sel_core.specs.Selectors.{IsAbove, Above, Matches}
use Rattle.sel_text.specs.Selectors.{Join, child as to_parent, inside, Outer, Selector, simple}
use Rattle.sel_text.specs.declared.selectors.Compound.{Compound}
use Rattle.sel_text.specs.declared.selectors.Join as code
use Rattle.sel_text.specs.Parts.{and_then, with_parts, selector_from}
use Rattle.guard_sem.specs.Guards.{Guard, atom, guards_of}
use Rattle.guard_sem.specs.Holding.{Holds, HoldAll}
use Rattle.guard_sem.specs.OfSelectors.{of_compound, of_join, of_parts, of_selector, with_joined}

module _ (t : LabelTree) (v : List ℕ) where
  abbrev Label : Option LabelTree → (List ℕ → Type 0) → Type 0
  Label o P = IsSomeAnd (option_map (λ (n : LabelTree). n.label) o) P

  pub HasAtoms-more : (a : ℕ) (atoms : List ℕ) → HasAtom t v a → HasAtoms t v atoms → HasAtoms t v (a ∷ atoms)
  HasAtoms-more a atoms has fits = elim (node_at v t) as (λ o. Label o (λ l. Contains l a) → Label o (λ l. All (Contains l) atoms) → Label o (λ l. All (Contains l) (a ∷ atoms))) [
    | None ↦ λ has fits. absurd fits
    | Some s ↦ λ has fits. All-cons (Contains s.label) a atoms has fits
  ] has fits

  pub HasAtoms-first : (a : ℕ) (atoms : List ℕ) → HasAtoms t v (a ∷ atoms) → HasAtom t v a
  HasAtoms-first a atoms fits = elim (node_at v t) as (λ o. Label o (λ l. All (Contains l) (a ∷ atoms)) → Label o (λ l. Contains l a)) [
    | None ↦ λ fits. absurd fits
    | Some s ↦ λ fits. All-head (Contains s.label) a atoms fits
  ] fits

  pub HasAtoms-others : (a : ℕ) (atoms : List ℕ) → HasAtoms t v (a ∷ atoms) → HasAtoms t v atoms
  HasAtoms-others a atoms fits = elim (node_at v t) as (λ o. Label o (λ l. All (Contains l) (a ∷ atoms)) → Label o (λ l. All (Contains l) atoms)) [
    | None ↦ λ fits. absurd fits
    | Some s ↦ λ fits. All-tail (Contains s.label) a atoms fits
  ] fits

  pub HasAtoms-has : (atoms : List ℕ) (a : ℕ) → HasAtoms t v atoms → Contains atoms a → HasAtom t v a
  HasAtoms-has atoms a fits listed = elim (node_at v t) as (λ o. Label o (λ l. All (Contains l) atoms) → Label o (λ l. Contains l a)) [
    | None ↦ λ fits. absurd fits
    | Some s ↦ λ fits. All-contains (Contains s.label) atoms a fits listed
  ] fits

  of_atoms : (atoms : List ℕ) → IsNode t v → HoldAll t v (guards_of (map atom atoms)) ↔ HasAtoms t v atoms
  of_atoms [] is = (λ h. HasAtoms-none t v is, λ fits. tt)
  of_atoms (a ∷ atoms) is =
      let rest = of_atoms atoms is in
      (λ h. HasAtoms-more a atoms h.0 (rest.0 h.1), λ fits. (HasAtoms-first a atoms fits, rest.1 (HasAtoms-others a atoms fits)))

  pub of_compound-fits : (atoms : List ℕ) → Holds t v (of_compound atoms) ↔ HasAtoms t v atoms
  of_compound-fits [] = (λ is. HasAtoms-none t v is, λ fits. HasAtoms-node t v [] fits)
  of_compound-fits (a ∷ []) = (λ has. HasAtoms-more a [] has (HasAtoms-none t v (HasAtom-node t v a has)), λ fits. HasAtoms-first a [] fits)
  of_compound-fits (a ∷ b ∷ atoms) = (
    λ h. (of_atoms (a ∷ b ∷ atoms) h.0).0 h.1,
    λ fits. let is = HasAtoms-node t v (a ∷ b ∷ atoms) fits in (is, (of_atoms (a ∷ b ∷ atoms) is).1 fits),
  )

-- Where g holds above v at the levels with P, a join to g leads to such a level.
module _ (t : LabelTree) (v : List ℕ) (g : Guard) (P : ℕ → Type 0) (same : (m : ℕ) → m ≤ length v → Holds t (take m v) g ↔ P m) (n : ℕ) (le : n ≤ length v) where
  of_join-up : (j : Join) → Holds t (take n v) (of_join j g) → (m : ℕ) × IsAbove j m n × P m
  of_join-up to_parent h =
      let long = length-take n v in
      let long' : length (take n v) ≡ length (h.2 ++ h.1 ∷ []) = ap length h.3 in
      let long'' = length-append h.2 (h.1 ∷ []) in
      let front : take (length h.2) v ≡ h.2 =
      sym (take_take (length h.2) n v (omega arith)) ∙ ap (take (length h.2)) h.3 ∙ take-append-le (length h.2) h.2 (h.1 ∷ []) (omega arith) ∙ take-length h.2 in
      (length h.2, omega arith, (same (length h.2) (omega arith)).0 (rw front h.4))
  of_join-up inside h =
      let long = length-take n v in
      let front : take h.1 (take n v) ≡ take h.1 v = take_take h.1 n v (omega (arith, h.2)) in
      (h.1, omega (arith, h.2), (same h.1 (omega (arith, h.2))).0 (rw front at h.3))

  of_join-down : IsNode t (take n v) → (j : Join) (m : ℕ) → IsAbove j m n → P m → Holds t (take n v) (of_join j g)
  of_join-down is to_parent m above p =
      let long = length-take n v in
      let last = last_of (take n v) m (omega arith) in
      let front : take m (take n v) ≡ take m v = take_take m n v (omega arith) in
      (is, last.0, take m v, (last.1 ∙ ap (λ z. z ++ last.0 ∷ []) front), (same m (omega arith)).1 p)
  of_join-down is inside m above p =
      let long = length-take n v in
      let front : take m (take n v) ≡ take m v = take_take m n v (omega (arith, above)) in
      (is, m, omega (arith, above), rw front ((same m (omega (arith, above))).1 p))

-- the compounds from this one on, at the node that the first n numbers of v lead to
of_parts-matches : (t : LabelTree) (v : List ℕ) (outer : List Outer) (atoms : List ℕ) (n : ℕ) → n ≤ length v → Holds t (take n v) (of_parts atoms outer) ↔ (HasAtoms t (take n v) atoms × Above t v n outer)
of_parts-matches t v [] atoms n le = let here = of_compound-fits t (take n v) atoms in (λ h. (here.0 h, tt), λ m. here.1 m.0)
of_parts-matches t v (o ∷ outer) atoms n le =
    let here = of_compound-fits t (take n v) atoms in
    let P : ℕ → Type 0 = λ m. HasAtoms t (take m v) o.atoms × Above t v m outer in
    let same : (m : ℕ) → m ≤ length v → Holds t (take m v) (of_parts o.atoms outer) ↔ P m = λ m le'. of_parts-matches t v outer o.atoms m le' in (
      λ h. let up = of_join-up t v (of_parts o.atoms outer) P same n le o.join h.1.1.0 in (here.0 h.1.0, (up.0, up.1, up.2.0, up.2.1)),
      λ m. (HasAtoms-node t (take n v) atoms m.0, (here.1 m.0, (of_join-down t v (of_parts o.atoms outer) P same n le (HasAtoms-node t (take n v) atoms m.0) o.join m.1.0 m.1.1 (m.1.2, m.1.3), tt))),
    )

pub guard_matches_is : (t : LabelTree) (v : List ℕ) (s : Selector) → Holds t v (of_selector s) ↔ Matches t v s
guard_matches_is t v s = let whole : take (length v) v ≡ v = take-length v in rw whole at (of_parts-matches t v s.outer s.subject (length v) (omega arith))

-- a selector with further compounds on its right
pub of_selector-with_parts : (s : Selector) (joins : List code.Join) (parts : List Compound) → of_selector (with_parts s joins parts) ≡ with_joined (of_selector s) joins parts
of_selector-with_parts s [] parts = refl
of_selector-with_parts s (j ∷ joins) [] = refl
of_selector-with_parts s (j ∷ joins) (c ∷ parts) = of_selector-with_parts (and_then s j c) joins parts

-- what is made of all compounds, from the first on
pub of_first : (c : Compound) (parts : List Compound) (joins : List code.Join) → of_selector (selector_from (c ∷ parts) joins) ≡ with_joined (of_compound c.atoms) joins parts
of_first c parts joins = of_selector-with_parts (simple c.atoms) joins parts

-- what a call gives that makes it of the others, where the first one's guard is made
pub of_whole : (xs parts : List Compound) (c : Compound) (joins : List code.Join) (g : Guard) (r : Result Guard NoMemory) → xs ≡ c ∷ parts → g ≡ of_compound c.atoms
    → IfOk r (λ z. z ≡ with_joined g joins parts) → IfOk r (λ z. z ≡ of_selector (selector_from xs joins))
of_whole xs parts c joins g (Ok z) split made is = is ∙ ap (λ h. with_joined h joins parts) made ∙ sym (of_first c parts joins) ∙ ap (λ (l : List Compound). of_selector (selector_from l joins)) (sym split)
of_whole xs parts c joins g (Err e) split made is = tt

-- The firsts of a node's children.
use Rattle.std.proofs.Common.{◌≡◌, ◌+◌, ◌<◌, leb, ℕ, zero, suc, Bool, true, false, cond, List, [], ◌∷◌, ◌++◌, length, find, get_or, Option, Some, None, IsNone, IsSome, unwrap_or, Contains, refl, sym, ap, ◌∙◌, arith, subst}
use Rattle.std.specs.List.{range_with_len}
use Rattle.std.proofs.lemmas.Bool.{leb-true, le-leb, false_from_ne_true}
use Rattle.tree_sem.specs.Trees.{LabelTree, label_at, children_at}
use Rattle.tree_sem.proofs.EditLemmas.{node_at-label_at}
use Rattle.closed_page.specs.Notes.{NodeFirst}
use Rattle.closed_page.specs.ClosedPages.{First, HasNoOthers, round_of}
use Rattle.closed_page.specs.Views.{PageFirst, firsts_of}
use Rattle.closed_page.specs.Firsts.{path_to, placed, placed_one, AreSpots, AreOfNodes, AreRooted, IsBelow, IsChildIn}
use Rattle.closed_page.specs.FirstChildren.{came_by, IsFirstChild}
use Rattle.closed_page.proofs.FirstsLemmas.{round_of-some, round_of-none, path_there, spot_child, is_placed, placed-is}
use Rattle.closed_page.proofs.LabelledLemmas.{child_number}

-- ---- the search along numbers

module _ (p : ℕ → Bool) where
  range_at : (a n i : ℕ) → i < n → p (a + i) ≡ true → ((k : ℕ) → k < i → p (a + k) ≡ false) → find p (range_with_len a n) ≡ Some (a + i)
  range_at a zero i less pass before = absurd (omega (arith, less))
  range_at a (suc n) zero less pass before =
      let place : a ≡ a + 0 = omega arith in
      ap (λ b. cond b (Some a) (find p (range_with_len (a + 1) n))) (ap p place ∙ pass) ∙ ap Some place
  range_at a (suc n) (suc i) less pass before =
      let first : a ≡ a + 0 = omega arith in
      let place : (a + 1) + i ≡ a + suc i = omega arith in
      ap (λ b. cond b (Some a) (find p (range_with_len (a + 1) n))) (ap p first ∙ before 0 (omega arith))
      ∙ range_at (a + 1) n i (omega (arith, less)) (ap p place ∙ pass) (λ k lt. let further : (a + 1) + k ≡ a + suc k = omega arith in ap p further ∙ before (suc k) (omega (arith, lt)))
      ∙ ap Some place

  range_past : (a n : ℕ) → ((k : ℕ) → k < n → p (a + k) ≡ false) → find p (range_with_len a n) ≡ None
  range_past a zero before = refl
  range_past a (suc n) before =
      let first : a ≡ a + 0 = omega arith in
      ap (λ b. cond b (Some a) (find p (range_with_len (a + 1) n))) (ap p first ∙ before 0 (omega arith))
      ∙ range_past (a + 1) n (λ k lt. let further : (a + 1) + k ≡ a + suc k = omega arith in ap p further ∙ before (suc k) (omega (arith, lt)))

  pub range_found : (n i : ℕ) → i < n → p i ≡ true → ((k : ℕ) → k < i → p k ≡ false) → Some i ≡ find p (range_with_len 0 n)
  range_found n i less pass before =
      let place : 0 + i ≡ i = omega arith in
      sym (range_at 0 n i less (ap p place ∙ pass) (λ k lt. let further : 0 + k ≡ k = omega arith in ap p further ∙ before k lt) ∙ ap Some place)

  pub range_none : (n : ℕ) → ((k : ℕ) → k < n → p k ≡ false) → None ≡ find p (range_with_len 0 n)
  range_none n before = sym (range_past 0 n (λ k lt. let further : 0 + k ≡ k = omega arith in ap p further ∙ before k lt))

-- two tests that agree below n find the same
module _ (p q : ℕ → Bool) where
  agree_from : (a n : ℕ) → ((k : ℕ) → k < n → p (a + k) ≡ q (a + k)) → find p (range_with_len a n) ≡ find q (range_with_len a n)
  agree_from a zero same = refl
  agree_from a (suc n) same =
      let first : a ≡ a + 0 = omega arith in
      let rest = agree_from (a + 1) n (λ k lt. let further : (a + 1) + k ≡ a + suc k = omega arith in ap p further ∙ same (suc k) (omega (arith, lt)) ∙ ap q (sym further)) in
      ap (λ b. cond b (Some a) (find p (range_with_len (a + 1) n))) (ap p first ∙ same 0 (omega arith) ∙ ap q (sym first))
      ∙ ap (λ o. cond (q a) (Some a) o) rest

  pub range_agree : (n : ℕ) → ((k : ℕ) → k < n → p k ≡ q k) → find p (range_with_len 0 n) ≡ find q (range_with_len 0 n)
  range_agree n same = agree_from 0 n (λ k lt. let further : 0 + k ≡ k = omega arith in ap p further ∙ same k lt ∙ ap q (sym further))

-- ---- first rounds that came

pub came_some : (k : ℕ) (o : Option ℕ) → came_by k o ≡ true → (r : ℕ) × (o ≡ Some r) × (leb r k ≡ true)
came_some k None is = cc
came_some k (Some r) is = (r, refl, is)

module _ (firsts : List PageFirst) (v : List ℕ) (a k : ℕ) where
  -- the first by which a child has the atom
  pub came_first : (m : ℕ) → came_by k (round_of (firsts_of firsts) (v ++ m ∷ []) a) ≡ true
      → (f : PageFirst) × Contains firsts f × (f.at ≡ v ++ m ∷ []) × (f.atom ≡ a) × (leb f.round k ≡ true)
  came_first m came =
      let some = came_some k (round_of (firsts_of firsts) (v ++ m ∷ []) a) came in
      let (f, there, at, atom, round) = round_of-some firsts (v ++ m ∷ []) a some.0 some.1 in
      (f, there, at, atom, ap (λ r. leb r k) round ∙ some.2)

  pub came_by_first : (nodes : List (List ℕ)) → AreOfNodes nodes firsts → (m : ℕ) (f : PageFirst) → Contains firsts f → f.at ≡ v ++ m ∷ [] → f.atom ≡ a → leb f.round k ≡ true
      → came_by k (round_of (firsts_of firsts) (v ++ m ∷ []) a) ≡ true
  came_by_first nodes of m f there at atom low =
      elim (round_of (firsts_of firsts) (v ++ m ∷ []) a) as (λ o. round_of (firsts_of firsts) (v ++ m ∷ []) a ≡ o → came_by k o ≡ true) [
        | None ↦ λ e. absurd (round_of-none firsts (v ++ m ∷ []) a e f there at atom)
        | Some r ↦ λ e.
            let (g, g_there, g_at, g_atom, g_round) = round_of-some firsts (v ++ m ∷ []) a r e in
            let one : g.round ≡ f.round = of.one g f g_there there (g_at ∙ sym at) (g_atom ∙ sym atom) in
            ap (λ n. leb n k) (sym g_round ∙ one) ∙ low
      ] refl

-- ---- what the least step is to the page

module _ (nodes : List (List ℕ)) (fs : List NodeFirst) (of : AreOfNodes nodes (placed nodes fs)) (spots : AreSpots nodes fs) (v : List ℕ) (a k : ℕ) where
  module _ (p : ℕ) (less : p < length nodes) (at : get_or nodes p [] ≡ v) where
    -- a child that has the atom is below the node, and the other way round
    is_below : (m : ℕ) → came_by k (round_of (firsts_of (placed nodes fs)) (v ++ m ∷ []) a) ≡ true → (f : NodeFirst) × Contains fs f × IsBelow p a k f × (f.step ≡ m)
    is_below m came =
        let (g, there, g_at, g_atom, low) = came_first (placed nodes fs) v a k m came in
        let (f, listed, same) = placed-is nodes fs g there in
        let path : path_to nodes f.parent f.step ≡ get_or nodes p [] ++ m ∷ [] = ap (λ (z : PageFirst). z.at) (sym same) ∙ g_at ∙ ap (λ (z : List ℕ). z ++ m ∷ []) (sym at) in
        let both = spot_child nodes of.once p m f.parent f.step less (spots f listed) path in
        let round : f.round ≡ g.round = ap (λ (z : PageFirst). z.round) (sym same) in
        let le = leb-true g.round k low in
        (f, listed, record { parent = both.0; atom = ap (λ (z : PageFirst). z.atom) (sym same) ∙ g_atom; round = omega (arith, round, le) }, both.1)

    below_came : (f : NodeFirst) → Contains fs f → IsBelow p a k f → came_by k (round_of (firsts_of (placed nodes fs)) (v ++ f.step ∷ []) a) ≡ true
    below_came f listed is =
        let path : path_to nodes f.parent f.step ≡ v ++ f.step ∷ [] = ap (λ z. path_to nodes z f.step) is.parent ∙ path_there nodes p f.step less ∙ ap (λ (z : List ℕ). z ++ f.step ∷ []) at in
        came_by_first (placed nodes fs) v a k nodes of f.step (placed_one nodes f) (is_placed nodes fs f listed) path is.atom (le-leb f.round k is.round)

    pub first_child_found : (o : Option ℕ) → IsChildIn fs p a k o → IsFirstChild (firsts_of (placed nodes fs)) v a k o
    first_child_found None none = λ m. false_from_ne_true (came_by k (round_of (firsts_of (placed nodes fs)) (v ++ m ∷ []) a)) (λ came. let f = is_below m came in none f.0 f.1 f.2)
    first_child_found (Some s) is = (
      subst (λ z. came_by k (round_of (firsts_of (placed nodes fs)) (v ++ z ∷ []) a) ≡ true) is.0.3 (below_came is.0.0 is.0.1 is.0.2),
      λ m lt. false_from_ne_true (came_by k (round_of (firsts_of (placed nodes fs)) (v ++ m ∷ []) a)) (λ came.
          let f = is_below m came in
          let le = is.1 f.0 f.1 f.2 in
          let step = f.3 in
          omega (arith, le, lt, step)),
    )

  pub first_child_nowhere : AreRooted nodes → (Contains nodes v → ⊥) → IsFirstChild (firsts_of (placed nodes fs)) v a k None
  first_child_nowhere rooted none = λ m. false_from_ne_true (came_by k (round_of (firsts_of (placed nodes fs)) (v ++ m ∷ []) a)) (λ came.
      let (g, there, g_at, g_atom, low) = came_first (placed nodes fs) v a k m came in
      none (rooted v m (subst (Contains nodes) g_at (of.there g there))))

-- the least child is the first of the node's children
pub child_found : (t : LabelTree) (firsts : List First) (v : List ℕ) (a k : ℕ) (o : Option ℕ) → HasNoOthers t firsts → IsFirstChild firsts v a k o
    → o ≡ find (λ n. came_by k (round_of firsts (v ++ n ∷ []) a)) (range_with_len 0 (unwrap_or (children_at v t) 0))
child_found t firsts v a k None others is = range_none (λ n. came_by k (round_of firsts (v ++ n ∷ []) a)) (unwrap_or (children_at v t) 0) (λ m less. is m)
child_found t firsts v a k (Some n) others is =
    let came = came_some k (round_of firsts (v ++ n ∷ []) a) is.0 in
    let there : IsSome (label_at (v ++ n ∷ []) t) = elim (label_at (v ++ n ∷ []) t) as (λ o. label_at (v ++ n ∷ []) t ≡ o → IsSome o) [
      | None ↦ λ e. let never : Some came.0 ≡ None = sym came.1 ∙ others (v ++ n ∷ []) a (subst (λ (z : Option (List ℕ)). IsNone z) (sym e) refl) in absurd (cc)
      | Some l ↦ λ e. refl
    ] refl in
    range_found (λ m. came_by k (round_of firsts (v ++ m ∷ []) a)) (unwrap_or (children_at v t) 0) n (child_number v n t ((node_at-label_at (v ++ n ∷ []) t).0 there)) is.0 is.1

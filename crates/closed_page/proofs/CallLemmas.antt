-- Rows of numbers of nodes: a node's parent, and each node at its parent.
use Rattle.std.proofs.Common.{◌≡◌, ◌⊎◌, ℕ, ◌+◌, ◌<◌, List, [], ◌∷◌, ◌++◌, length, get_or, Some, None, Contains, refl, sym, ap, ◌∙◌, inl, inr, arith, subst}
use Rattle.std.proofs.lemmas.Bool.{cases_lt}
use Rattle.std.proofs.lemmas.List.{get_or_default}
use Rattle.std.proofs.lemmas.List.Elements.{Contains-get_or, Contains-append_left, Contains-append_right, Contains-append_cases}
use Rattle.tp_base.proofs.Rising.{Contains-none, Contains-here, Contains-cons}
use Rattle.row_index.specs.Rows.{row_of, IsNoted}
use Rattle.row_index.proofs.RowLemmas.{noted_kept, noted_cases}
use Rattle.closed_page.specs.Labelled.{AreKids, IsAbove, AreKidsAll, IsHeard, IsCalled}
use Rattle.closed_page.proofs.LabelledLemmas.{one_number, rooted_page}
use Rattle.tree_sem.specs.Trees.{LabelTree}
use Rattle.tree_sem.specs.Order.{paths_of}
use Rattle.tree_sem.proofs.NodeLemmas.{length-paths_of}
use Rattle.tree_sem.specs.Paths.{parent_of}
use Rattle.tree_sem.proofs.PathLemmas.{same_parent, parent_of-none, child_of_parent}

pub pushed : {X : Type 0} (old new : List X) (x y : X) → new ≡ old ++ x ∷ [] → Contains new y → Contains old y ⊎ (y ≡ x)
pushed old new x y is there = elim (Contains-append_cases old (x ∷ []) y (subst (λ z. Contains z y) is there)) [
  | inl before ↦ inl before
  | inr now ↦ elim ((Contains-cons y x []).0 now) [ inl here ↦ inr here | inr none ↦ absurd (Contains-none y none) ]
]

pub pushed_kept : {X : Type 0} (old new : List X) (x y : X) → new ≡ old ++ x ∷ [] → Contains old y → Contains new y
pushed_kept old new x y is there = subst (λ z. Contains z y) (sym is) (Contains-append_left old (x ∷ []) y there)

pub pushed_there : {X : Type 0} (old new : List X) (x : X) → new ≡ old ++ x ∷ [] → Contains new x
pushed_there old new x is = subst (λ z. Contains z x) (sym is) (Contains-append_right old (x ∷ []) x (Contains-here x x [] refl))

pub number_within : (old new : List ℕ) (i count : ℕ) → new ≡ old ++ i ∷ [] → i < count → ((j : ℕ) → Contains old j → j < count) → (j : ℕ) → Contains new j → j < count
number_within old new i count is less f j there = elim (pushed old new i j is there) [ inl before ↦ f j before | inr same ↦ subst (λ z. z < count) (sym same) less ]

pub number_more : (old new : List ℕ) (i : ℕ) → new ≡ old ++ i ∷ [] → ((j : ℕ) → j < i → Contains old j) → (j : ℕ) → j < i + 1 → Contains new j
number_more old new i is f j less = elim (cases_lt j i) [
  | inl before ↦ pushed_kept old new i j is (f j before)
  | inr late ↦ let same : i ≡ j = omega (arith, less, late) in subst (Contains new) same (pushed_there old new i is)
]

-- ---- all nodes, by their parents

pub row_within : (old row new : List ℕ) (count : ℕ) → new ≡ old ++ row → ((j : ℕ) → Contains old j → j < count) → ((j : ℕ) → Contains row j → j < count) → (j : ℕ) → Contains new j → j < count
row_within old row new count is f g j there = elim (Contains-append_cases old row j (subst (λ (z : List ℕ). Contains z j) is there)) [ inl before ↦ f j before | inr now ↦ g j now ]

-- the children of the first i nodes are there
abbrev pub HasKidsOf : List (List ℕ) → List ℕ → ℕ → Type 0
HasKidsOf nodes numbers i = (c p n : ℕ) → p < i → c < length nodes → get_or nodes c [] ≡ get_or nodes p [] ++ n ∷ [] → Contains numbers c

pub kids_more : (nodes : List (List ℕ)) (old row new : List ℕ) (i : ℕ) → new ≡ old ++ row → AreKids nodes i row → HasKidsOf nodes old i → HasKidsOf nodes new (i + 1)
kids_more nodes old row new i is kids f c p n below less at = elim (cases_lt p i) [
  | inl before ↦ subst (λ (z : List ℕ). Contains z c) (sym is) (Contains-append_left old row c (f c p n before less at))
  | inr late ↦
      let same : p ≡ i = omega (arith, below, late) in
      subst (λ (z : List ℕ). Contains z c) (sym is) (Contains-append_right old row c (kids.whole c n less (at ∙ ap (λ z. get_or nodes z [] ++ n ∷ []) same)))
]

-- and the root, so that all are
pub all_told : (t : LabelTree) (numbers new : List ℕ) → HasKidsOf (paths_of t) numbers (length (paths_of t)) → new ≡ numbers ++ 0 ∷ [] → (c : ℕ) → c < length (paths_of t) → Contains new c
all_told t numbers new told is c less =
    let nodes = paths_of t in
    let count = length-paths_of t in
    let v = get_or nodes c [] in
    elim (parent_of v) as (λ o. parent_of v ≡ o → Contains new c) [
      | None ↦ λ e. subst (Contains new) (one_number t 0 c (omega arith) (omega (arith, count, less)) (sym (parent_of-none v e))) (pushed_there numbers new 0 is)
      | Some q ↦ λ e.
          let kid = child_of_parent v q e in
          let p = rooted_page t q kid.0 (subst (Contains nodes) kid.1 (Contains-get_or nodes c [] less)) in
          let at : get_or nodes p.0 [] ≡ q = get_or_default nodes p.0 [] q p.1 ∙ p.2 in
          pushed_kept numbers new 0 c is (told c p.0 kid.0 p.1 less (kid.1 ∙ ap (λ (z : List ℕ). z ++ kid.0 ∷ []) (sym at)))
    ] refl

-- ---- a node's parent

-- ---- each node at its parent

module _ (nodes : List (List ℕ)) (once : (i j : ℕ) → i < length nodes → j < length nodes → get_or nodes i [] ≡ get_or nodes j [] → i ≡ j) (c : ℕ) (less : c < length nodes) where
  pub called_none : (old : List (List ℕ)) → IsAbove nodes (get_or nodes c []) None → IsCalled nodes old old c
  called_none old above = record {
    kept = λ i j there. there;
    only = λ h. h;
    heard = λ i n within at. absurd (above (get_or nodes i []) n at (Contains-get_or nodes i [] within));
  }

  pub called_some : (old new : List (List ℕ)) (p : ℕ) → IsAbove nodes (get_or nodes c []) (Some p) → IsNoted old new p c → IsCalled nodes old new c
  called_some old new p above noted = record {
    kept = noted_kept old new p c noted;
    only = λ h i j there. elim (noted_cases old new p c noted i j there) [
      | inl before ↦ h i j before
      | inr now ↦
          let at : get_or nodes j [] ≡ get_or nodes i [] ++ above.1 ∷ [] = ap (λ z. get_or nodes z []) now.1 ∙ above.2 ∙ ap (λ z. get_or nodes z [] ++ above.1 ∷ []) (sym now.0) in
          (subst (λ z. z < length nodes) (sym now.1) less, above.1, at)
    ];
    heard = λ i n within at.
        let same : p ≡ i = once p i above.0 within (same_parent (get_or nodes p []) (get_or nodes i []) above.1 n (sym above.2 ∙ at)) in
        subst (λ z. Contains (row_of new z) c) same (subst (λ (z : List ℕ). Contains z c) (sym noted.here) (Contains-append_right (row_of old p) (c ∷ []) c (Contains-here c c [] refl)));
  }

pub heard_more : (nodes old new : List (List ℕ)) (c : ℕ) → ((i j : ℕ) → Contains (row_of old i) j → Contains (row_of new i) j) → IsHeard nodes old c → IsHeard nodes new c
heard_more nodes old new c kept h = λ i n within at. kept i c (h i n within at)

pub kids_none : (nodes rows : List (List ℕ)) → rows ≡ [] → AreKidsAll nodes rows
kids_none nodes rows none = λ i c there. absurd (Contains-none c (subst (λ (z : List (List ℕ)). Contains (row_of z i) c) none there))

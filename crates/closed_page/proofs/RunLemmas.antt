-- Runs in a row, and what a search in it finds.
use Rattle.std.proofs.Common.{◌≡◌, ◌⊎◌, ◌+◌, ◌<◌, ◌≤◌, ℕ, true, false, List, [], ◌∷◌, ◌++◌, length, get_or, set, Some, None, Contains, refl, sym, ap, ◌∙◌, inl, inr, arith, subst}
use Rattle.std.specs.List.Sorted.{IsPartitionedBy, IsPartitionPoint}
use Rattle.std.proofs.lemmas.Bool.{cases_lt, cases_eq, cases_order, both_ways}
use Rattle.std.proofs.lemmas.List.{get_or_default, get_or-set_same, get_or-set_other, length-set}
use Rattle.std.proofs.lemmas.List.Elements.{Contains-get_or, Contains-push, Contains-push_cases, Contains-append_left}
use Rattle.std.proofs.lemmas.List.Quantifiers.{all_pairs_push}
use Rattle.tp_base.proofs.Rising.{Contains-none}
use Rattle.closed_page.specs.declared.first_rounds.Spot.{Spot}
use Rattle.closed_page.specs.declared.first_rows.Run.{Run}
use Rattle.closed_page.specs.Runs.{IsIn, Tells, IsBefore, AreOrdered, covers, ends_before, EndsBefore, EndsBy, AllEndBy, start_of, end_of, IsWith, IsPutIn, IsRoundInRow, IsBelowIn, IsChildInRow}

-- ---- a child that is put into a row

pub none_ordered : AreOrdered []
none_ordered = record {
  pairs = λ i j d less within. absurd (omega (arith, within));
  filled = λ x there. absurd (Contains-none x there);
}

-- what ends by the first of some children ends by the last
pub ends_on : (x y : Run) → y.first ≤ y.last → EndsBy x (start_of y) → EndsBy x (end_of y)
ends_on x y full (inl under) = inl under
ends_on x y full (inr beside) = let to = beside.1 in inr (beside.0, omega (arith, to, full))

-- a row whose last run takes in the children of the run y, and is z then
module _ (old : List Run) (i : ℕ) (last : i + 1 ≡ length old) (x z : Run) (at : x ≡ get_or old i x) (y : Run) (ordered : AreOrdered old) (ends : AllEndBy old (start_of y)) (full : y.first ≤ y.last) (with_is : IsWith x y z) where
  within : i < length old
  within = omega (arith, last)

  x_there : Contains old x
  x_there = (i, within, sym at)

  new_at : (d : Run) → get_or (set old i z) i d ≡ z
  new_at d = get_or-set_same old i z d within

  z_there : Contains (set old i z) z
  z_there = (i, subst (λ n. i < n) (sym (length-set old i z)) within, new_at z)

  -- what stands in the new row is the longer run, or stood there
  new_is : (w : Run) → Contains (set old i z) w → (w ≡ z) ⊎ ((k : ℕ) × (k < i) × (get_or old k w ≡ w))
  new_is w (k, less, is) =
      let long = length-set old i z in
      elim (cases_eq k i) [
        | inl same ↦ inl (sym is ∙ ap (λ n. get_or (set old i z) n w) same ∙ new_at w)
        | inr other ↦ inr (k, omega (arith, less, long, last, other), sym (get_or-set_other old i k z w other) ∙ is)
      ]

  old_is : (w : Run) → Contains old w → (w ≡ x) ⊎ Contains (set old i z) w
  old_is w (k, less, is) = elim (cases_eq k i) [
    | inl same ↦ inl (sym is ∙ ap (λ n. get_or old n w) same ∙ get_or_default old i w x within ∙ sym at)
    | inr other ↦ inr (k, subst (λ n. k < n) (sym (length-set old i z)) less, get_or-set_other old i k z w other ∙ is)
  ]

  x_upto : x.last ≤ y.first
  x_upto = let here = with_is.here in elim (ends x x_there) [ inl under ↦ absurd (omega (arith, under, here)) | inr beside ↦ beside.1 ]

  x_full : x.first ≤ x.last
  x_full = ordered.filled x x_there

  in_longer : (s : Spot) → IsIn x s → IsIn z s
  in_longer s is =
      let first = with_is.first in
      let end = with_is.last in
      let from = is.from in
      let to = is.to in
      let upto = x_upto in
      record { parent = with_is.parent ∙ is.parent; from = omega (arith, first, from); to = omega (arith, to, upto, full, end) }

  y_in : (s : Spot) → IsIn y s → IsIn z s
  y_in s is =
      let first = with_is.first in
      let end = with_is.last in
      let from = is.from in
      let to = is.to in
      let upto = x_upto in
      let low = x_full in
      record { parent = with_is.parent ∙ with_is.here ∙ is.parent; from = omega (arith, first, low, upto, from); to = omega (arith, to, end) }

  z_tells : (s : Spot) (k : ℕ) → IsIn z s → z.round ≡ k → Tells old s k ⊎ (IsIn y s × (k ≡ y.round))
  z_tells s k is round =
      let first = with_is.first in
      let end = with_is.last in
      let near = with_is.near in
      let from = is.from in
      let to = is.to in
      let parent : x.parent ≡ s.parent = sym with_is.parent ∙ is.parent in
      elim (cases_lt x.last s.step) [
        | inr inside ↦ inl (x, x_there, record { parent = parent; from = omega (arith, first, from); to = inside }, sym with_is.round ∙ round)
        | inl behind ↦ inr (record { parent = sym with_is.here ∙ parent; from = omega (arith, near, behind); to = omega (arith, to, end) }, sym round ∙ with_is.round ∙ with_is.same)
      ]

  z_before : (k : ℕ) (d : Run) → k < i → IsBefore (get_or old k d) z
  z_before k d less =
      let first = with_is.first in
      let parent = with_is.parent in
      let was : IsBefore (get_or old k d) x = subst (IsBefore (get_or old k d)) (get_or_default old i d x within ∙ sym at) (ordered.pairs k i d less within) in
      elim was [ inl under ↦ inl (omega (arith, under, parent)) | inr beside ↦ let same = beside.0 in let less' = beside.1 in inr (same ∙ sym parent, omega (arith, less', first)) ]

  pub with_put : IsPutIn old (set old i z) y
  with_put = record {
    kept = λ s (w, there, is). elim (old_is w there) [
      | inl same ↦ (z, z_there, in_longer s (subst (λ v. IsIn v s) same is))
      | inr still ↦ (w, still, is)
    ];
    here = λ s is. (z, z_there, y_in s is);
    only = λ s k (w, there, is, round). elim (new_is w there) [
      | inl same ↦ z_tells s k (subst (λ v. IsIn v s) same is) (ap (λ (v : Run). v.round) (sym same) ∙ round)
      | inr before ↦ let less = before.1 in inl (w, (before.0, omega (arith, less, last), before.2), is, round)
    ];
    ordered = record {
      pairs = λ k l d less in_new.
          let long = length-set old i z in
          let other : (k ≡ i → ⊥) = λ e. omega (arith, e, less, in_new, long, last) in
          elim (cases_eq l i) [
            | inl same ↦
                let low : get_or (set old i z) k d ≡ get_or old k d = get_or-set_other old i k z d other in
                let high : get_or (set old i z) l d ≡ z = ap (λ n. get_or (set old i z) n d) same ∙ new_at d in
                subst (λ v. IsBefore v (get_or (set old i z) l d)) (sym low) (subst (IsBefore (get_or old k d)) (sym high) (z_before k d (omega (arith, less, same))))
            | inr apart ↦
                let low : get_or (set old i z) k d ≡ get_or old k d = get_or-set_other old i k z d other in
                let high : get_or (set old i z) l d ≡ get_or old l d = get_or-set_other old i l z d apart in
                subst (λ v. IsBefore v (get_or (set old i z) l d)) (sym low) (subst (IsBefore (get_or old k d)) (sym high) (ordered.pairs k l d less (omega (arith, in_new, long))))
          ];
      filled = λ w there. elim (new_is w there) [
        | inl same ↦
            let first = with_is.first in
            let end = with_is.last in
            let upto = x_upto in
            let low = x_full in
            subst (λ (v : Run). v.first ≤ v.last) (sym same) (omega (arith, first, low, upto, full, end))
        | inr before ↦ let less = before.1 in ordered.filled w (before.0, omega (arith, less, last), before.2)
      ];
    };
    ends = λ w there. elim (new_is w there) [
      | inl same ↦ let end = with_is.last in subst (λ v. EndsBy v (end_of y)) (sym same) (inr (with_is.parent ∙ with_is.here, omega (arith, end)))
      | inr before ↦ let less = before.1 in ends_on w y full (ends w (before.0, omega (arith, less, last), before.2))
    ];
  }

pub pushed_put : (old new : List Run) (y : Run) → new ≡ old ++ y ∷ [] → AreOrdered old → AllEndBy old (start_of y) → y.first ≤ y.last → IsPutIn old new y
pushed_put old new y is ordered ends full = subst (λ w. IsPutIn old w y) (sym is) (record {
  kept = λ s (w, there, in_w). (w, Contains-append_left old (y ∷ []) w there, in_w);
  here = λ s in_y. (y, Contains-push old y, in_y);
  only = λ s k (w, there, in_w, round). elim (Contains-push_cases old y w there) [
    | inl before ↦ inl (w, before, in_w, round)
    | inr now ↦ inr (subst (λ v. IsIn v s) (sym now) in_w, sym round ∙ ap (λ (v : Run). v.round) (sym now))
  ];
  ordered = record {
    pairs = all_pairs_push IsBefore old y ordered.pairs (λ k d less. ends (get_or old k d) (Contains-get_or old k d less));
    filled = λ w there. elim (Contains-push_cases old y w there) [ inl before ↦ ordered.filled w before | inr now ↦ subst (λ (v : Run). v.first ≤ v.last) now full ];
  };
  ends = λ w there. elim (Contains-push_cases old y w there) [
    | inl before ↦ ends_on w y full (ends w before)
    | inr now ↦ subst (λ v. EndsBy v (end_of y)) now (inr (refl, omega arith))
  ];
})

-- ---- the tests

pub ends_true : (x : Run) (spot : Spot) → ends_before x spot ≡ true → EndsBefore x spot
ends_true x spot pass = elim (cases_order x.parent spot.parent) [
  | inl same ↦ elim (cases_lt x.last spot.step) [
    | inl less ↦ inr (same, less)
    | inr from ↦ absurd (both_ways (ends_before x spot) (grind (arith, same, from)) pass)
  ]
  | inr (inl less) ↦ inl less
  | inr (inr more) ↦ absurd (both_ways (ends_before x spot) (grind (arith, more)) pass)
]

pub ends_from : (x : Run) (spot : Spot) → EndsBefore x spot → ends_before x spot ≡ true
ends_from x spot (inl less) = grind (arith, less)
ends_from x spot (inr beside) = let same = beside.0 in let less = beside.1 in grind (arith, same, less)

pub covers_false : (x : Run) (spot : Spot) → covers x spot ≡ false → IsIn x spot → ⊥
covers_false x spot fail is =
    let parent = is.parent in
    let from = is.from in
    let to = is.to in
    both_ways (covers x spot) fail (grind (arith, parent, from, to))

-- ---- where a search in a row ends

pub parted : (spot : Spot) (row : List Run) → AreOrdered row → IsPartitionedBy (λ x. ends_before x spot) row
parted spot row ordered i j d le less after = elim (cases_lt i j) [
  | inl under ↦ ends_from (get_or row i d) spot (before_more (get_or row i d) (get_or row j d) spot (ordered.pairs i j d under less) (ordered.filled (get_or row j d) (Contains-get_or row j d less)) (ends_true (get_or row j d) spot after))
  | inr over ↦ let same : j ≡ i = omega (arith, le, over) in subst (λ n. ends_before (get_or row n d) spot ≡ true) same after
]
  where
    before_more : (x y : Run) (spot : Spot) → IsBefore x y → y.first ≤ y.last → EndsBefore y spot → EndsBefore x spot
    before_more x y spot (inl under) full (inl under') = inl (omega (arith, under, under'))
    before_more x y spot (inl under) full (inr beside) = let same = beside.0 in inl (omega (arith, under, same))
    before_more x y spot (inr beside) full (inl under) = let same = beside.0 in inl (omega (arith, same, under))
    before_more x y spot (inr beside) full (inr beside') = let low = beside.1 in let less = beside'.1 in inr (beside.0 ∙ beside'.0, omega (arith, low, full, less))

module _ (row : List Run) (ordered : AreOrdered row) (spot : Spot) (place : ℕ) (point : IsPartitionPoint (λ x. ends_before x spot ≡ true) (λ x. ends_before x spot ≡ false) row place) where
  -- a run with the child stands at the place or behind it
  stands_from : (z : Run) (there : Contains row z) → IsIn z spot → place ≤ there.0
  stands_from z there is = elim (cases_lt there.0 place) [
    | inl before ↦
        let end = ends_true z spot (ap (λ v. ends_before v spot) (sym there.2) ∙ point.0 there.0 z (omega arith) before) in
        let parent = is.parent in
        let to = is.to in
        elim end [ inl under ↦ absurd (omega (arith, under, parent)) | inr beside ↦ let less = beside.1 in absurd (omega (arith, less, to)) ]
    | inr from ↦ from
  ]

  pub no_round : (x : Run) → (place < length row → (x ≡ get_or row place x) × (IsIn x spot → ⊥)) → IsRoundInRow row spot None
  no_round x missing (z, there, is) =
      let from = stands_from z there is in
      let less = there.1 in
      let inside : place < length row = omega (arith, from, less) in
      let here = missing inside in
      elim (cases_lt place there.0) [
        | inl before ↦
            let pair : IsBefore x z = subst (IsBefore x) there.2 (subst (λ v. IsBefore v (get_or row there.0 z)) (get_or_default row place z x inside ∙ sym here.0) (ordered.pairs place there.0 z before less)) in
            let parent = is.parent in
            let from_z = is.from in
            let late : ends_before x spot ≡ false = ap (λ v. ends_before v spot) here.0 ∙ point.1 place x (omega arith) inside in
            elim pair [
              | inl under ↦ both_ways (ends_before x spot) late (ends_from x spot (inl (omega (arith, under, parent))))
              | inr beside ↦ elim (cases_lt x.last spot.step) [
                | inl before' ↦ both_ways (ends_before x spot) late (ends_from x spot (inr (beside.0 ∙ parent, before')))
                | inr to ↦
                    let low = beside.1 in
                    let full = ordered.filled x (place, inside, sym here.0) in
                    here.1 (record { parent = beside.0 ∙ parent; from = omega (arith, full, low, from_z); to = to })
              ]
            ]
        | inr upto ↦
            let same : there.0 ≡ place = omega (arith, upto, from) in
            let one : z ≡ x = sym there.2 ∙ ap (λ n. get_or row n z) same ∙ get_or_default row place z x inside ∙ sym here.0 in
            here.1 (subst (λ v. IsIn v spot) one is)
      ]

-- ---- the least step to one that came by a round

-- none of the runs before the i-th is such, and those from it on are not of earlier parents
pub record AreLeft (row : List Run) (p k i : ℕ) : Type 0 where
  pub before : (j : ℕ) (d : Run) → j < i → j < length row → IsBelowIn p k (get_or row j d) → ⊥
  pub from : (j : ℕ) (d : Run) → i ≤ j → j < length row → p ≤ (get_or row j d).parent

module _ (row : List Run) (ordered : AreOrdered row) (p k i : ℕ) (left : AreLeft row p k i) where
  -- where the i-th isn't of this parent, none is from there on
  pub no_child : (x : Run) → (i < length row → (x ≡ get_or row i x) × (x.parent ≡ p → ⊥)) → IsChildInRow row p k None
  no_child x missing z there is = elim (cases_lt there.0 i) [
    | inl before ↦ left.before there.0 z before there.1 (subst (IsBelowIn p k) (sym there.2) is)
    | inr from ↦
        let less = there.1 in
        let inside : i < length row = omega (arith, from, less) in
        let here = missing inside in
        let low : p ≤ x.parent = subst (λ (v : Run). p ≤ v.parent) (sym here.0) (left.from i x (omega arith) inside) in
        let parent = is.parent in
        here.1 (elim (cases_lt i there.0) [
          | inl before ↦
              let pair : IsBefore x z = subst (IsBefore x) there.2 (subst (λ v. IsBefore v (get_or row there.0 z)) (get_or_default row i z x inside ∙ sym here.0) (ordered.pairs i there.0 z before less)) in
              elim pair [ inl under ↦ absurd (omega (arith, under, parent, low)) | inr beside ↦ beside.0 ∙ parent ]
          | inr upto ↦
              let same : there.0 ≡ i = omega (arith, upto, from) in
              let one : z ≡ x = sym there.2 ∙ ap (λ n. get_or row n z) same ∙ get_or_default row i z x inside ∙ sym here.0 in
              ap (λ (v : Run). v.parent) (sym one) ∙ parent
        ])
  ]

  module _ (x : Run) (inside : i < length row) (here : x ≡ get_or row i x) (parent : x.parent ≡ p) where
    pub child_here : x.round ≤ k → IsChildInRow row p k (Some x.first)
    child_here low =
        let full = ordered.filled x (i, inside, sym here) in (
          (x, (i, inside, sym here), record { parent = parent; round = low }, refl, full),
          λ z there is. elim (cases_lt there.0 i) [
            | inl before ↦ absurd (left.before there.0 z before there.1 (subst (IsBelowIn p k) (sym there.2) is))
            | inr from ↦ elim (cases_lt i there.0) [
              | inl before ↦
                  let pair : IsBefore x z = subst (IsBefore x) there.2 (subst (λ v. IsBefore v (get_or row there.0 z)) (get_or_default row i z x inside ∙ sym here) (ordered.pairs i there.0 z before there.1)) in
                  let parent' = is.parent in
                  elim pair [ inl under ↦ absurd (omega (arith, under, parent, parent')) | inr beside ↦ let low' = beside.1 in omega (arith, low', full) ]
              | inr upto ↦
                  let same : there.0 ≡ i = omega (arith, upto, from) in
                  let one : z ≡ x = sym there.2 ∙ ap (λ n. get_or row n z) same ∙ get_or_default row i z x inside ∙ sym here in
                  subst (λ (v : Run). x.first ≤ v.first) (sym one) (omega arith)
            ]
          ],
        )

    pub left_next : k < x.round → AreLeft row p k (i + 1)
    left_next late = record {
      before = λ j d lt within is. elim (cases_lt j i) [
        | inl early ↦ left.before j d early within is
        | inr now ↦
            let same : j ≡ i = omega (arith, lt, now) in
            let it : get_or row j d ≡ x = ap (λ z. get_or row z d) same ∙ get_or_default row i d x inside ∙ sym here in
            let low = (subst (IsBelowIn p k) it is).round in
            omega (arith, low, late)
      ];
      from = λ j d le within. left.from j d (omega (arith, le)) within;
    }

-- The passes over numbers of nodes, as sets of nodes.
use Rattle.std.proofs.Common.{◌≡◌, ◌⊎◌, ◌↔◌, ℕ, zero, suc, ◌-◌, ◌<◌, ◌≤◌, nat_lt, Bool, true, false, ◌&&◌, ◌||◌, IsTrue, if◌then◌else◌, List, [], ◌∷◌, ◌++◌, length, refl, sym, ap, ◌∙◌, subst, inl, inr, arith, append_assoc, append-nil}
use Rattle.std.proofs.lemmas.Bool.{cases_Bool, cases_eq, and_parts, and_from, false≢true, lt-ltb, ltb-true}
use Rattle.tree_sem.specs.Trees.{LabelTree, count_of}
use Rattle.tree_sem.specs.Nodes.{IsNode}
use Rattle.tree_sem.specs.Order.{Before}
use Rattle.tree_sem.proofs.NodeLemmas.{length-paths_of}
use Rattle.tree_sem.proofs.RestLemmas.{Before-irreflexive, Before-transitive, AllPairs-paths_of}
use Rattle.node_marks.specs.Marks.{path_at, mark, IsMarked, IsSetOf, IsFree, IsFirstIn, HasParentIn, HasAncestorIn, HasChildIn, HasDescendantIn, HasOtherIn}
use Rattle.node_marks.specs.Numbering.{parent_number, IsNumbering}
use Rattle.node_marks.specs.Passes.{AreOver, AreFarOver, AreBehind, AreAhead}
use Rattle.node_marks.specs.Ranks.{rank, under, above, IsUnder, AreRanked, HasNearestIn, IsEarly, IsReached, IsLeastRank, HasUnranked, AreOwn, AreChosen, AreLesser, AreUpTo, AreRanksBelow, AreRanksFarBelow, AreNearest, AreReached}
use Rattle.node_marks.proofs.NumberLemmas.{IsNumbered, node_there, number_there, marked_at, numbered, IsSetOf_numbers, parent_is}
use Rattle.node_marks.proofs.SetLemmas.{marked_node, marked_number, marked_both, marked_below, marked_far_below, marked_over, marked_far_over}
use Rattle.node_marks.proofs.BesideLemmas.{marked_beside}
use Rattle.node_marks.proofs.RankLemmas.{under_at, chosen_under, chosen_both, below_below, far_below_below, lesser_either, least_under, or_true}

module _ (t : LabelTree) (made : List ℕ) where
  pub ranked_own : AreOwn made (count_of t) (count_of t) → AreRanked t made (IsEarly t)
  ranked_own is k low v = (
    λ on. (on.0, on.1, on.2, ltb-true on.0 k (sym (early on.0 on.1) ∙ on.3)),
    λ h. (h.0, h.1, h.2, early h.0 h.1 ∙ lt-ltb h.0 k h.3),
  )
    where
      early : (i : ℕ) → i < count_of t → mark (under k made) i ≡ nat_lt i k
      early i lt = under_at k (count_of t) low made i ∙ ap (λ r. nat_lt r k) (is.each i lt)

  pub ranked_chosen : (marks : List Bool) (ranks : List ℕ) → AreChosen marks ranks made (count_of t) (count_of t) → AreRanked t made (λ k v. IsMarked t marks v × IsUnder t k ranks v)
  ranked_chosen marks ranks is k low = marked_both t marks (under k ranks) (under k made) (chosen_both (count_of t) k low marks ranks made (count_of t) is)

module _ (t : LabelTree) (parents steps : List ℕ) (labels : List (List ℕ)) (is : IsNumbering t parents steps labels) (ranks made : List ℕ) where
  lower : (k : ℕ) → k ≤ count_of t → k ≤ length parents
  lower k low = let count = is.parents_count in omega (arith, count, low)

  pub ranked_below : AreRanksBelow parents ranks made (length parents) (length parents) → AreRanked t made (λ k v. IsNode t v × HasParentIn (IsUnder t k ranks) v)
  ranked_below of k low = marked_below t parents steps labels is (under k ranks) (under k made) (below_below (length parents) k (lower k low) parents ranks made (length parents) of)

  pub ranked_far_below : AreRanksFarBelow parents ranks made (length parents) (length parents) → AreRanked t made (λ k v. IsNode t v × HasAncestorIn (IsUnder t k ranks) v)
  ranked_far_below of k low = marked_far_below t parents steps labels is (under k ranks) (under k made) (far_below_below (length parents) k (lower k low) parents ranks made (length parents) of)

  pub ranked_over : ((k : ℕ) → k ≤ length parents → AreOver parents (under k ranks) (under k made) 0) → AreRanked t made (λ k. HasChildIn (IsUnder t k ranks))
  ranked_over of k low = marked_over t parents steps labels is (under k ranks) (under k made) (of k (lower k low))

  pub ranked_far_over : ((k : ℕ) → k ≤ length parents → AreFarOver parents (under k ranks) (under k made) 0) → AreRanked t made (λ k. HasDescendantIn (IsUnder t k ranks))
  ranked_far_over of k low = marked_far_over t parents steps labels is (under k ranks) (under k made) (of k (lower k low))

  pub ranked_beside : (before after : List ℕ) → ((k : ℕ) → k ≤ length parents → AreBehind parents (under k ranks) (under k before) (length parents))
      → ((k : ℕ) → k ≤ length parents → AreAhead parents (under k ranks) (under k after) 0) → AreLesser before after made (count_of t) (count_of t) → AreRanked t made (λ k v. IsNode t v × HasOtherIn (IsUnder t k ranks) v)
  ranked_beside before after behind ahead lesser k low =
      marked_beside t parents steps labels is (under k ranks) (under k made) (under k before) (under k after) (behind k (lower k low)) (ahead k (lower k low)) (lesser_either (count_of t) k low before after made (count_of t) lesser)

-- the last step of a way that is free
free_push : (F : List ℕ → Type 0) (v q : List ℕ) (k : ℕ) → IsFree F v (q ++ k ∷ []) ↔ (IsFree F v q × (F ((v ++ q) ++ k ∷ []) → ⊥))
free_push F v [] k =
    let same = append-nil v in (
      λ h. (tt, subst (λ z. F (z ++ k ∷ []) → ⊥) (sym same) h.0),
      λ h. (subst (λ z. F (z ++ k ∷ []) → ⊥) same h.1, tt),
    )
free_push F v (l ∷ q) k =
    let rest = free_push F (v ++ l ∷ []) q k in
    let same : (v ++ l ∷ []) ++ q ≡ v ++ l ∷ q = append_assoc v (l ∷ []) q in (
      λ h. let parts = rest.0 h.1 in ((h.0, parts.0), subst (λ z. F (z ++ k ∷ []) → ⊥) same parts.1),
      λ h. (h.0.0, rest.1 (h.0.1, subst (λ z. F (z ++ k ∷ []) → ⊥) (sym same) h.1)),
    )

split_last : (q : List ℕ) → (q ≡ []) ⊎ ((m : List ℕ) × (l : ℕ) × (q ≡ m ++ l ∷ []))
split_last [] = inl refl
split_last (x ∷ q) = elim (split_last q) [
  | inl none ↦ inr ([], x, ap (λ z. x ∷ z) none)
  | inr some ↦ inr (x ∷ some.0, some.1, ap (λ z. x ∷ z) some.2)
]

-- the node itself, or what is so of its parent
way : (F S : List ℕ → Type 0) (v : List ℕ) → HasNearestIn F S v → (F v × S v) ⊎ ((F v → ⊥) × (p : List ℕ) × (l : ℕ) × (v ≡ p ++ l ∷ []) × HasNearestIn F S p)
way F S v h = elim (split_last h.1) [
  | inl none ↦ let same : v ≡ h.0 = h.2 ∙ ap (λ z. h.0 ++ z) none ∙ append-nil h.0 in inl (subst F (sym same) h.3, subst S (sym same) h.5)
  | inr some ↦
      let m = some.0 in
      let l = some.1 in
      let parts = (free_push F h.0 m l).0 (subst (IsFree F h.0) some.2 h.4) in
      let whole : v ≡ (h.0 ++ m) ++ l ∷ [] = h.2 ∙ ap (λ z. h.0 ++ z) some.2 ∙ sym (append_assoc h.0 m (l ∷ [])) in
      inr ((λ on. parts.1 (subst F whole on)), h.0 ++ m, l, whole, (h.0, m, refl, h.3, parts.0, h.5))
]

module _ (t : LabelTree) (n : ℕ) (path : ℕ → List ℕ) (up : ℕ → ℕ) (is : IsNumbered t n path up) (S : List ℕ → Type 0) (nodes : (v : List ℕ) → S v → IsNode t v) (s c : ℕ → Bool) (marks : (i : ℕ) → i < n → (s i ≡ true) ↔ S (path i))
    (F : List ℕ → Type 0) (f : ℕ → Bool) (stops : (i : ℕ) → i < n → (f i ≡ true) ↔ F (path i)) (made : (i : ℕ) → i < n → c i ≡ (if f i then s i else (nat_lt 0 i && c (up i)))) where
  nearest_step : (i : ℕ) → i < n → ((j : ℕ) → j < i → (c j ≡ true) ↔ HasNearestIn F S (path j)) → (c i ≡ true) ↔ HasNearestIn F S (path i)
  nearest_step i lt before = elim (cases_Bool (f i)) [
    | inl on ↦
        let same : c i ≡ s i = made i lt ∙ rw on refl in (
          λ yes'. (path i, [], sym (append-nil (path i)), (stops i lt).0 on, tt, (marks i lt).0 (sym same ∙ yes')),
          λ h. elim (way F S (path i) h) [
            | inl both ↦ same ∙ (marks i lt).1 both.1
            | inr other ↦ absurd (other.0 ((stops i lt).0 on))
          ],
        )
    | inr off ↦
        let same : c i ≡ (nat_lt 0 i && c (up i)) = made i lt ∙ rw off refl in (
          λ yes'.
              let both = and_parts (nat_lt 0 i) (c (up i)) (sym same ∙ yes') in
              let higher = is.above i (ltb-true 0 i both.0) lt in
              let k = higher.0 in
              let h = (before (up i) higher.2).0 both.1 in
              let place : path i ≡ (h.0 ++ h.1) ++ k ∷ [] = higher.1 ∙ ap (λ z. z ++ k ∷ []) h.2 in (
                h.0,
                h.1 ++ k ∷ [],
                place ∙ append_assoc h.0 h.1 (k ∷ []),
                h.3,
                (free_push F h.0 h.1 k).1 (h.4, λ stop. false≢true (sym off ∙ (stops i lt).1 (subst F (sym place) stop))),
                h.5,
              ),
          λ h. elim (way F S (path i) h) [
            | inl both ↦ absurd (false≢true (sym off ∙ (stops i lt).1 both.0))
            | inr other ↦
                let parent = parent_is t n path up is S nodes s c marks i other.1 other.2 lt other.3 in
                let higher = (before (up i) parent.1).1 (subst (HasNearestIn F S) (sym parent.2) other.4) in
                same ∙ and_from (nat_lt 0 i) (c (up i)) (lt-ltb 0 i parent.0) higher
          ],
        )
  ]

  set_nearest : (d i : ℕ) → i ≤ d → i < n → (c i ≡ true) ↔ HasNearestIn F S (path i)
  set_nearest zero i high lt = nearest_step i lt (λ j less. absurd (omega (arith, less, high)))
  set_nearest (suc d) i high lt = nearest_step i lt (λ j less. set_nearest d j (omega (arith, less, high)) (omega (arith, less, lt)))

  pub nearest_each : (i : ℕ) → i < n → (c i ≡ true) ↔ HasNearestIn F S (path i)
  nearest_each i lt = set_nearest i i (omega arith) lt

pub ranked_nearest : (t : LabelTree) (parents steps : List ℕ) (labels : List (List ℕ)) (is : IsNumbering t parents steps labels) (ranks made : List ℕ) (stops : List Bool) → AreNearest parents ranks stops made (length parents) (length parents)
    → AreRanked t made (λ k v. IsNode t v × HasNearestIn (IsMarked t stops) (IsUnder t k ranks) v)
ranked_nearest t parents steps labels is ranks made stops of k low =
    IsSetOf_numbers t (under k made) (λ v. IsNode t v × HasNearestIn (IsMarked t stops) (IsUnder t k ranks) v) (λ v h. h.0) (λ i lt.
    let near =
    nearest_each t (count_of t) (path_at t) (parent_number parents) (numbered t parents steps labels is) (IsUnder t k ranks) (marked_node t (under k ranks)) (mark (under k ranks)) (mark (under k made)) (marked_number t (under k ranks))
    (IsMarked t stops) (mark stops) (marked_number t stops) is_made i lt in
    (λ on. (node_there t i lt, near.0 on), λ h. near.1 h.1))
  where
    low' : k ≤ length parents
    low' = let count = is.parents_count in omega (arith, count, low)

    choose : (b : Bool) (i : ℕ) → nat_lt (if b then rank ranks (length parents) i else above parents made (length parents) i) k ≡ (if b then mark (under k ranks) i else (nat_lt 0 i && mark (under k made) (parent_number parents i)))
    choose true i = sym (under_at k (length parents) low' ranks i)
    choose false i = chosen_under (length parents) k low' (nat_lt 0 i) made (parent_number parents i)

    is_made : (i : ℕ) → i < count_of t → mark (under k made) i ≡ (if mark stops i then mark (under k ranks) i else (nat_lt 0 i && mark (under k made) (parent_number parents i)))
    is_made i lt =
        let count = is.parents_count in
        under_at k (length parents) low' made i ∙ ap (λ r. nat_lt r k) (of.each i (omega (arith, count, lt))) ∙ choose (mark stops i) i

pub marked_reached : (t : LabelTree) (marks : List Bool) (ranks : List ℕ) (made : List Bool) → AreReached marks ranks made (count_of t) (count_of t) → IsSetOf t made (IsReached t ranks (IsMarked t marks))
marked_reached t marks ranks made of v = (
  λ on.
      let r = (of.each on.0 on.1).0 on.3 in
      let same = r.3 in
      let within = on.1 in
      (r.0, r.1, (r.0, r.1, refl, r.2), omega (arith, same, within), ap (path_at t) same ∙ on.2),
  λ h. (rank ranks (count_of t) h.0, h.3, h.4, (of.each (rank ranks (count_of t) h.0) h.3).1 (h.0, h.1, marked_at t marks h.0 h.1 h.2, refl)),
)

-- ---- what numbers say of one node

pub ranked_at : (t : LabelTree) (ranks : List ℕ) (S : ℕ → List ℕ → Type 0) → AreRanked t ranks S → (i : ℕ) → i < count_of t → (k : ℕ) → k ≤ count_of t → (rank ranks (count_of t) i < k) ↔ S k (path_at t i)
ranked_at t ranks S of i lt k low =
    let r = rank ranks (count_of t) i in
    let at = under_at k (count_of t) low ranks i in (
      λ less. (of k low (path_at t i)).0 (i, lt, refl, at ∙ lt-ltb r k less),
      λ s. ltb-true r k (sym at ∙ marked_at t (under k ranks) i lt ((of k low (path_at t i)).1 s)),
    )

-- the first node of a set is that of the least number
pub first_of : (t : LabelTree) (M : List ℕ → Type 0) → ((v : List ℕ) → M v → IsNode t v) → (r : ℕ) → ((j : ℕ) → j < count_of t → M (path_at t j) → r ≤ j) → (r < count_of t → M (path_at t r)) → (v : List ℕ)
    → IsFirstIn M v ↔ ((r < count_of t) × (path_at t r ≡ v))
first_of t M nodes r least there v = (
  λ f.
      let j = number_there t v (nodes v f.0) in
      let here : M (path_at t j.0) = subst M (sym j.2) f.0 in
      let low = least j.0 j.1 here in
      let last = j.1 in
      let within : r < count_of t = omega (arith, low, last) in (
        within,
        elim (cases_eq r j.0) [
          | inl same ↦ ap (path_at t) same ∙ j.2
          | inr other ↦ absurd (f.1 (path_at t r) (there within) (subst (Before (path_at t r)) j.2 (before_at r j.0 j.1 (omega (arith, low, other)))))
        ],
      ),
  λ h. (
    subst M h.1 (there h.0),
    λ w is before.
        let j = number_there t w (nodes w is) in
        let low = least j.0 j.1 (subst M (sym j.2) is) in
        let before' : Before w (path_at t r) = subst (Before w) (sym h.1) before in
        elim (cases_eq r j.0) [
          | inl same ↦ Before-irreflexive (path_at t r) (subst (λ z. Before z (path_at t r)) (sym j.2 ∙ ap (path_at t) (sym same)) before')
          | inr other ↦ Before-irreflexive w (Before-transitive w (path_at t r) w before' (subst (Before (path_at t r)) j.2 (before_at r j.0 j.1 (omega (arith, low, other)))))
        ],
  ),
)
  where
    before_at : (i j : ℕ) → j < count_of t → i < j → Before (path_at t i) (path_at t j)
    before_at i j lt less = let count = length-paths_of t in AllPairs-paths_of t i j [] less (omega (arith, lt, count))

-- ---- numbers that stop at one, and the least of all

pub ranked_up_to : (t : LabelTree) (ranks : List ℕ) (most : ℕ) (made : List ℕ) → AreUpTo ranks most made (count_of t) (count_of t) → AreRanked t made (λ k v. IsNode t v × (IsUnder t k ranks v ⊎ (most < k)))
ranked_up_to t ranks most made is k low = IsSetOf_numbers t (under k made) (λ v. IsNode t v × (IsUnder t k ranks v ⊎ (most < k))) (λ v h. h.0) (λ i lt.
    let at : mark (under k made) i ≡ (mark (under k ranks) i || nat_lt most k) =
    under_at k (count_of t) low made i
    ∙ ap (λ r. nat_lt r k) (is.each i lt)
    ∙ least_under k (rank ranks (count_of t) i) most
    ∙ ap (λ x. x || nat_lt most k) (sym (under_at k (count_of t) low ranks i)) in (
      λ on. (
        node_there t i lt,
        elim ((or_true (mark (under k ranks) i) (nat_lt most k)).0 (sym at ∙ on)) [ inl here ↦ inl (i, lt, refl, here) | inr less ↦ inr (ltb-true most k less) ],
      ),
      λ h. at ∙ (or_true (mark (under k ranks) i) (nat_lt most k)).1 (elim h.1 [ inl here ↦ inl (marked_at t (under k ranks) i lt here) | inr less ↦ inr (lt-ltb most k less) ]),
    ))

pub least_ranked : (t : LabelTree) (ranks : List ℕ) (r : ℕ) → ((k : ℕ) → k ≤ count_of t → (r < k) ↔ ((i : ℕ) × (i < count_of t) × (rank ranks (count_of t) i < k))) → IsLeastRank t ranks r
least_ranked t ranks r is k low = (
  λ less. let h = (is k low).0 less in (path_at t h.0, (h.0, h.1, refl, under_at k (count_of t) low ranks h.0 ∙ lt-ltb (rank ranks (count_of t) h.0) k h.2)),
  λ h. let u = h.1 in (is k low).1 (u.0, u.1, ltb-true (rank ranks (count_of t) u.0) k (sym (under_at k (count_of t) low ranks u.0) ∙ u.3)),
)

pub unranked : (t : LabelTree) (marks : List Bool) (ranks : List ℕ) (b : Bool) → IsTrue b ↔ ((i : ℕ) × (i < count_of t) × (mark marks i ≡ true) × (count_of t ≤ rank ranks (count_of t) i)) → IsTrue b ↔ HasUnranked t ranks (IsMarked t marks)
unranked t marks ranks b is = (
  λ on. let h = is.0 on in (h.0, h.1, (h.0, h.1, refl, h.2), h.3),
  λ h. is.1 (h.0, h.1, marked_at t marks h.0 h.1 h.2, h.3),
)

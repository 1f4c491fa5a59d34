-- Numbers of nodes, by the marks at those that are less than a number.
use Rattle.std.proofs.Common.{◌≡◌, ◌⊎◌, ◌↔◌, ℕ, zero, suc, ◌+◌, ◌<◌, ◌≤◌, nat_lt, min, Bool, true, false, ◌&&◌, ◌||◌, IsTrue, if◌then◌else◌, List, [], ◌∷◌, ◌++◌, length, map, set, get_or, replicate, refl, sym, ap, ◌∙◌, subst, inl, inr, arith}
use Rattle.std.proofs.lemmas.Bool.{cases_Bool, cases_eq, cases_lt, and_parts, and_from, ltb-true, ltb-false, lt-ltb, le-ltb, false≢true}
use Rattle.std.proofs.lemmas.List.{map-append, map-set, length-map, get_or-map, get_or-replicate, get_or-set_same, get_or-set_other, length-replicate}
use Rattle.node_marks.specs.Marks.{mark}
use Rattle.node_marks.specs.Numbering.{parent_number, AreAbove}
use Rattle.node_marks.specs.Passes.{AreBoth, AreEither, AreBelow, AreFarBelow, AreOver, AreFarOver, AreFreeOver, AreBehind, AreAhead, AreSeen, SeenBefore, SeenFrom}
use Rattle.node_marks.specs.Ranks.{rank, under, above, AreChosen, AreLesser, AreRanksBelow, AreRanksFarBelow}
use Rattle.node_marks.proofs.PassLemmas.{none_seen, none_seen_from, seen_one, seen_from_one, free_one, none_behind, behind_one, IsAhead, none_ahead, ahead_one, all_ahead}

-- a number that isn't there is none of the nodes
pub under_at : (k none : ℕ) → k ≤ none → (ranks : List ℕ) (i : ℕ) → mark (under k ranks) i ≡ nat_lt (get_or ranks i none) k
under_at k none low [] i = sym (le-ltb none k low)
under_at k none low (r ∷ ranks) zero = refl
under_at k none low (r ∷ ranks) (suc i) = under_at k none low ranks i

pub under_set : (k : ℕ) (ranks : List ℕ) (i r : ℕ) → under k (set ranks i r) ≡ set (under k ranks) i (nat_lt r k)
under_set k ranks i r = map-set (λ s. nat_lt s k) ranks i r

pub none_under : (k none : ℕ) → k ≤ none → (n : ℕ) → under k (replicate n none) ≡ replicate n false
none_under k none low zero = refl
none_under k none low (suc n) = let first = le-ltb none k low in let rest = none_under k none low n in λ i. first i ∷ rest i

pub length-under : (k : ℕ) (ranks : List ℕ) → length (under k ranks) ≡ length ranks
length-under k ranks = length-map ranks (λ s. nat_lt s k)

-- the lesser of two numbers is less than k where one of them is
pub least_under : (k r s : ℕ) → nat_lt (min r s) k ≡ (nat_lt r k || nat_lt s k)
least_under k r s = elim (cases_Bool (nat_lt r k)) [
  | inl one ↦ rw one (lt-ltb (min r s) k (let less = ltb-true r k one in omega (arith, less)))
  | inr not ↦ rw not (elim (cases_Bool (nat_lt s k)) [
    | inl other ↦ rw other (lt-ltb (min r s) k (let less = ltb-true s k other in omega (arith, less)))
    | inr none ↦ rw none (le-ltb (min r s) k (let more = ltb-false r k not in let more' = ltb-false s k none in omega (arith, more, more')))
  ])
]

-- ---- what the passes make, by the marks

module _ (none k : ℕ) (low : k ≤ none) where
  pub chosen_under : (b : Bool) (ranks : List ℕ) (j : ℕ) → nat_lt (if b then rank ranks none j else none) k ≡ (b && mark (under k ranks) j)
  chosen_under true ranks j = sym (under_at k none low ranks j)
  chosen_under false ranks j = le-ltb none k low

  both_parts : (b x y : Bool) → ((b && x) || (b && y)) ≡ (b && (x || y))
  both_parts true x y = refl
  both_parts false x y = refl

  pub chosen_both : (marks : List Bool) (ranks made : List ℕ) (n : ℕ) → AreChosen marks ranks made none n → AreBoth marks (under k ranks) (under k made) n
  chosen_both marks ranks made n is = record {
    count = length-under k made ∙ is.count;
    each = λ i lt. under_at k none low made i ∙ ap (λ r. nat_lt r k) (is.each i lt) ∙ chosen_under (mark marks i) ranks i;
  }

  pub below_below : (parents ranks made : List ℕ) (n : ℕ) → AreRanksBelow parents ranks made none n → AreBelow parents (under k ranks) (under k made) n
  below_below parents ranks made n is = record {
    count = length-under k made ∙ is.count;
    each = λ i lt. under_at k none low made i ∙ ap (λ r. nat_lt r k) (is.each i lt) ∙ chosen_under (nat_lt 0 i) ranks (parent_number parents i);
  }

  pub far_below_below : (parents ranks made : List ℕ) (n : ℕ) → AreRanksFarBelow parents ranks made none n → AreFarBelow parents (under k ranks) (under k made) n
  far_below_below parents ranks made n is = record {
    count = length-under k made ∙ is.count;
    each = λ i lt.
        let p = parent_number parents i in
        let b = nat_lt 0 i in
        under_at k none low made i
        ∙ ap (λ r. nat_lt r k) (is.each i lt)
        ∙ least_under k (above parents ranks none i) (above parents made none i)
        ∙ ap (λ x. x || nat_lt (above parents made none i) k) (chosen_under b ranks p)
        ∙ ap (λ y. (b && mark (under k ranks) p) || y) (chosen_under b made p)
        ∙ both_parts b (mark (under k ranks) p) (mark (under k made) p);
  }

-- all children are seen
pub seen_over : (parents : List ℕ) (marks made : List Bool) (n : ℕ) → n ≤ 1 → AreSeen parents made (SeenFrom parents marks n) → AreOver parents marks made 0
seen_over parents marks made n low is = record {
  count = is.count;
  each = λ i lt. (
    λ on. let s = (is.each i lt).0 on in (s.0, s.1, omega arith, s.3, s.4, s.5),
    λ h. let some = h.1 in (is.each i lt).1 (h.0, h.1, omega (arith, some, low), h.3, h.4, h.5),
  );
}

-- no node stops
pub free_far_over : (parents : List ℕ) (marks made : List Bool) (n : ℕ) → n ≤ 1 → AreFreeOver parents marks [] made n → AreFarOver parents marks made 0
free_far_over parents marks made n low is = record {
  count = is.count;
  each = λ i lt. (
    λ on. let s = (is.each i lt).0 on in (s.0, s.1, omega arith, s.3, s.4, s.6),
    λ h. let some = h.1 in (is.each i lt).1 (h.0, h.1, omega (arith, some, low), h.3, h.4, refl, h.5),
  );
}

pub none_free : (parents : List ℕ) (marks : List Bool) (k : ℕ) → k ≤ length parents → AreFreeOver parents marks [] (under k (replicate (length parents) (length parents))) (length parents)
none_free parents marks k low = record {
  count = length-under k (replicate (length parents) (length parents)) ∙ length-replicate (length parents) (length parents);
  each = λ i lt. (
    λ on. absurd (false≢true (sym (ap (λ z. mark z i) (none_under k (length parents) low (length parents)) ∙ get_or-replicate (length parents) i false false lt) ∙ on)),
    λ h. let late = h.2 in let within = h.3 in absurd (omega (arith, late, within)),
  );
}

pub none_seen_under : (parents : List ℕ) (marks : List Bool) (k : ℕ) → k ≤ length parents → AreSeen parents (under k (replicate (length parents) (length parents))) (SeenFrom parents marks (length parents))
none_seen_under parents marks k low = subst (λ z. AreSeen parents z (SeenFrom parents marks (length parents))) (sym (none_under k (length parents) low (length parents))) (none_seen_from parents marks)

-- one child more of those that are seen
pub over_one : (parents ranks made new : List ℕ) (n none k : ℕ) → k ≤ none → 0 < n → n < length parents → AreSeen parents (under k made) (SeenFrom parents (under k ranks) (suc n)) → length new ≡ length made
    → ((i : ℕ) → (mark (under k new) i ≡ true) ↔ ((mark (under k made) i ≡ true) ⊎ ((i ≡ parent_number parents n) × (nat_lt (rank ranks none n) k ≡ true)))) → AreSeen parents (under k new) (SeenFrom parents (under k ranks) n)
over_one parents ranks made new n none k low some within before long more =
    let at = under_at k none low ranks n in
    seen_from_one parents (under k ranks) (under k made) (under k new) n (nat_lt (rank ranks none n) k) within before (λ on. (some, at ∙ on), λ h. sym at ∙ h.1) (length-under k new ∙ long ∙ sym (length-under k made)) more

pub or_true : (a b : Bool) → (a || b) ≡ true ↔ ((a ≡ true) ⊎ (b ≡ true))
or_true true b = (λ on. inl refl, λ h. refl)
or_true false b = (λ on. inr on, λ h. elim h [ inl no' ↦ cc | inr on ↦ on ])

-- one child more, with the least of its own number and of those below it
pub least_free : (parents ranks made : List ℕ) (n none k : ℕ) → k ≤ none → AreAbove parents → 0 < n → n < length parents → AreFreeOver parents (under k ranks) [] (under k made) (suc n)
    → AreFreeOver parents (under k ranks) [] (under k (set made (parent_number parents n) (min (min (rank ranks none n) (rank made none n)) (rank made none (parent_number parents n))))) n
least_free parents ranks made n none k low above some within before =
    let p = parent_number parents n in
    let r = min (min (rank ranks none n) (rank made none n)) (rank made none p) in
    let parts : nat_lt r k ≡ ((mark (under k ranks) n || mark (under k made) n) || mark (under k made) p) =
    least_under k (min (rank ranks none n) (rank made none n)) (rank made none p)
    ∙ ap (λ x. x || nat_lt (rank made none p) k) (least_under k (rank ranks none n) (rank made none n))
    ∙ ap (λ x. (x || nat_lt (rank made none n) k) || nat_lt (rank made none p) k) (sym (under_at k none low ranks n))
    ∙ ap (λ x. (mark (under k ranks) n || x) || nat_lt (rank made none p) k) (sym (under_at k none low made n))
    ∙ ap (λ x. (mark (under k ranks) n || mark (under k made) n) || x) (sym (under_at k none low made p)) in
    let a = mark (under k ranks) n in
    let b = mark (under k made) n in
    let c = mark (under k made) p in
    subst (λ z. AreFreeOver parents (under k ranks) [] z n) (sym (under_set k made p r))
    (free_one parents (under k ranks) [] (under k made) n (nat_lt r k) above some within before (
      λ on. elim ((or_true (a || b) c).0 (sym parts ∙ on)) [ inl child ↦ inl (refl, (or_true a b).0 child) | inr old ↦ inr old ],
      λ h. parts ∙ (or_true (a || b) c).1 (elim h [ inl child ↦ inl ((or_true a b).1 child.1) | inr old ↦ inr old ]),
    ))

-- a number that is at most r now
pub lowered : (k : ℕ) (made : List ℕ) (node r : ℕ) → node < length made → (i : ℕ) → (mark (under k (set made node (min r (rank made 0 node)))) i ≡ true) ↔ ((mark (under k made) i ≡ true) ⊎ ((i ≡ node) × (nat_lt r k ≡ true)))
lowered k made node r within i = elim (cases_eq i node) [
  | inl same ↦
      let long = length-under k made in
      let at : mark (under k (set made node (min r (rank made 0 node)))) node ≡ (nat_lt r k || mark (under k made) node) =
      ap (λ z. mark z node) (under_set k made node (min r (rank made 0 node)))
      ∙ get_or-set_same (under k made) node (nat_lt (min r (rank made 0 node)) k) false (omega (arith, long, within))
      ∙ least_under k r (rank made 0 node)
      ∙ ap (λ x. nat_lt r k || x) (sym (get_or-map (λ s. nat_lt s k) made node 0 false within)) in
      let here : mark (under k (set made node (min r (rank made 0 node)))) i ≡ (nat_lt r k || mark (under k made) i) = subst (λ j. mark (under k (set made node (min r (rank made 0 node)))) j ≡ (nat_lt r k || mark (under k made) j)) (sym same) at in (
        λ on. elim ((or_true (nat_lt r k) (mark (under k made) i)).0 (sym here ∙ on)) [ inl now ↦ inr (same, now) | inr old ↦ inl old ],
        λ h. here ∙ (or_true (nat_lt r k) (mark (under k made) i)).1 (elim h [ inl old ↦ inr old | inr now ↦ inl now.1 ]),
      )
  | inr other ↦
      let kept : mark (under k (set made node (min r (rank made 0 node)))) i ≡ mark (under k made) i =
      ap (λ z. mark z i) (under_set k made node (min r (rank made 0 node))) ∙ get_or-set_other (under k made) node i (nat_lt (min r (rank made 0 node)) k) false other in (
        λ on. inl (sym kept ∙ on),
        λ h. kept ∙ elim h [ inl old ↦ old | inr now ↦ absurd (other now.0) ],
      )
]

-- ---- the children of the parent before a node, and behind it

module _ (parents ranks : List ℕ) (none k : ℕ) (low : k ≤ none) where
  abbrev marks : List Bool
  marks = under k ranks

  abbrev up : ℕ → ℕ
  up i = parent_number parents i

  both_true : (n : ℕ) (b : Bool) → IsTrue (nat_lt 0 n && b) ↔ ((0 < n) × (b ≡ true))
  both_true n b = (
    λ on. let h = and_parts (nat_lt 0 n) b on in (ltb-true 0 n h.0, h.1),
    λ h. and_from (nat_lt 0 n) b (lt-ltb 0 n h.0) h.1,
  )

  pub none_seen_yet : AreSeen parents (under k (replicate (length parents) none)) (SeenBefore parents marks 0)
  none_seen_yet = subst (λ z. AreSeen parents z (SeenBefore parents marks 0)) (sym (none_under k none low (length parents))) (none_seen parents marks)

  pub seen_more : (seen new : List ℕ) (n : ℕ) → AreSeen parents (under k seen) (SeenBefore parents marks n) → length new ≡ length seen
      → ((i : ℕ) → (mark (under k new) i ≡ true) ↔ ((mark (under k seen) i ≡ true) ⊎ ((i ≡ up n) × ((nat_lt 0 n && nat_lt (rank ranks none n) k) ≡ true)))) → AreSeen parents (under k new) (SeenBefore parents marks (suc n))
  seen_more seen new n before long more =
      let test : IsTrue (nat_lt 0 n && nat_lt (rank ranks none n) k) ↔ ((0 < n) × (mark marks n ≡ true)) =
      subst (λ z. IsTrue (nat_lt 0 n && z) ↔ ((0 < n) × (mark marks n ≡ true))) (under_at k none low ranks n) (both_true n (mark marks n)) in
      seen_one parents marks (under k seen) (under k new) n (nat_lt 0 n && nat_lt (rank ranks none n) k) before test (length-under k new ∙ long ∙ sym (length-under k seen)) more

  pub behind_more : (made seen : List ℕ) (n : ℕ) → AreAbove parents → n < length parents → AreBehind parents marks (under k made) n → AreSeen parents (under k seen) (SeenBefore parents marks n)
      → AreBehind parents marks (under k (made ++ above parents seen none n ∷ [])) (suc n)
  behind_more made seen n smaller within before seen_is =
      let x = nat_lt 0 n && mark (under k seen) (up n) in
      let same : under k (made ++ above parents seen none n ∷ []) ≡ under k made ++ x ∷ [] =
      map-append (λ r. nat_lt r k) made (above parents seen none n ∷ []) ∙ ap (λ z. under k made ++ z ∷ []) (chosen_under none k low (nat_lt 0 n) seen (up n)) in
      subst (λ z. AreBehind parents marks z (suc n)) (sym same)
      (behind_one parents marks (under k made) (under k seen) n x smaller within before seen_is (both_true n (mark (under k seen) (up n))))

  pub none_ahead_yet : IsAhead parents marks (under k (replicate (length parents) none)) (length parents)
  none_ahead_yet = subst (λ z. IsAhead parents marks z (length parents)) (sym (none_under k none low (length parents))) (none_ahead parents marks)

  pub ahead_more : (made seen : List ℕ) (n : ℕ) → AreAbove parents → 0 < n → n < length parents → IsAhead parents marks (under k made) (suc n) → AreSeen parents (under k seen) (SeenFrom parents marks (suc n))
      → IsAhead parents marks (under k (set made n (rank seen none (up n)))) n
  ahead_more made seen n smaller some within before seen_is =
      let r = rank seen none (up n) in
      let at = under_at k none low seen (up n) in
      subst (λ z. IsAhead parents marks z n) (sym (under_set k made n r))
      (ahead_one parents marks (under k made) (under k seen) n (nat_lt r k) smaller within before seen_is (λ on. (some, at ∙ on), λ h. sym at ∙ h.1))

pub lesser_either : (none k : ℕ) → k ≤ none → (ranks others made : List ℕ) (n : ℕ) → AreLesser ranks others made none n → AreEither (under k ranks) (under k others) (under k made) n
lesser_either none k low ranks others made n is = record {
  count = length-under k made ∙ is.count;
  each = λ i lt.
      under_at k none low made i
      ∙ ap (λ r. nat_lt r k) (is.each i lt)
      ∙ least_under k (rank ranks none i) (rank others none i)
      ∙ ap (λ x. x || nat_lt (rank others none i) k) (sym (under_at k none low ranks i))
      ∙ ap (λ x. mark (under k ranks) i || x) (sym (under_at k none low others i));
}

-- the least of one number more
pub least_more : (ranks : List ℕ) (none i found r new : ℕ) → r ≡ rank ranks none i → new ≡ min found r → ((k : ℕ) → k ≤ none → (found < k) ↔ ((j : ℕ) × (j < i) × (rank ranks none j < k)))
    → (k : ℕ) → k ≤ none → (new < k) ↔ ((j : ℕ) × (j < i + 1) × (rank ranks none j < k))
least_more ranks none i found r new at is before k low = (
  λ less. elim (cases_lt found k) [
    | inl old ↦ let h = (before k low).0 old in let lt = h.1 in (h.0, omega (arith, lt), h.2)
    | inr past ↦ let own : rank ranks none i < k = omega (arith, less, is, at, past) in (i, omega arith, own)
  ],
  λ h. elim (cases_eq h.0 i) [
    | inl same ↦ let own : rank ranks none i < k = subst (λ j. rank ranks none j < k) same h.2 in omega (arith, own, at, is)
    | inr other ↦ let lt = h.1 in let old = (before k low).1 (h.0, omega (arith, lt, other), h.2) in omega (arith, old, is)
  ],
)

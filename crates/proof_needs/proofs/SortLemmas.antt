-- The order of ranks, and what a sort makes of the ranks of all wants.
use Rattle.std.proofs.Common.{◌≡◌, ◌⊎◌, ℕ, ◌+◌, ◌<◌, ◌==◌, true, false, List, [], ◌∷◌, ◌++◌, length, get_or, inl, inr, refl, sym, ap, ◌∙◌, subst, arith}
use Rattle.std.specs.Cmp.{IsTotalOrder}
use Rattle.std.specs.Cmp.Lexicographic.{slice_cmp, nat_list_cmp_total}
use Rattle.std.specs.Ordering.{nat_cmp, is_lt, ordering_then}
use Rattle.std.specs.declared.cmp.Ordering.{Ordering}
use Rattle.std.specs.declared.cmp.Ordering.TheVariants.{Less, Equal}
use Rattle.std.specs.List.{IsDistinct}
use Rattle.std.specs.List.Sorted.{IsPermutation, IsSorted}
use Rattle.std.proofs.lemmas.Bool.{cases_order}
use Rattle.std.proofs.lemmas.Bool.Decides.{Decides-eqb}
use Rattle.std.proofs.lemmas.Cmp.{on_total, then_total, nat_cmp_total}
use Rattle.std.proofs.lemmas.List.Sorted.{sorted_far, ranks_by, Contains-permutation, IsPermutation-sym}
use Rattle.std.proofs.lemmas.Map.Keys.{IsDistinct-IsPermutation, IsDistinct-from_apart, apart_from_distinct}
use Rattle.std.proofs.lemmas.Option.{slice_get_within, get_or_from_slice_get, slice_get-get_or}
use Rattle.tp_base.proofs.Lists.{Contains-at, at_Contains, element_at, push_cases}
use Rattle.tp_base.proofs.Numbers.{nat_less, nat_same, never_less}
use Rattle.tree_sem.specs.Order.{Before}
use Rattle.proof_needs.specs.declared.orders.Rank.{Rank}
use Rattle.proof_needs.specs.declared.needs.Needs.{Needs}
use Rattle.proof_needs.specs.Orders.{IsRank, AreRanks, IsBefore, AreSorted}

-- of two paths one is before the other, or they are the same
pub path_cases : (v w : List ℕ) → Before v w ⊎ ((v ≡ w) ⊎ Before w v)
path_cases [] [] = inr (inl refl)
path_cases [] (l ∷ w) = inl tt
path_cases (k ∷ v) [] = inr (inr tt)
path_cases (k ∷ v) (l ∷ w) = elim (cases_order k l) [
  | inl same ↦ elim (path_cases v w) [
    | inl less ↦ inl (inr (same, less))
    | inr (inl alike) ↦ inr (inl (λ i. same i ∷ alike i))
    | inr (inr more) ↦ inr (inr (inr (sym same, more)))
  ]
  | inr (inl less) ↦ inl (inl less)
  | inr (inr more) ↦ inr (inr (inl more))
]

-- the order of lists is that of a document
pub before_less : (v w : List ℕ) → Before v w → slice_cmp nat_cmp v w ≡ Less
before_less [] [] b = absurd b
before_less (k ∷ v) [] b = absurd b
before_less [] (l ∷ w) b = refl
before_less (k ∷ v) (l ∷ w) (inl less) = ap (λ o. ordering_then o (slice_cmp nat_cmp v w)) (nat_less k l less)
before_less (k ∷ v) (l ∷ w) (inr (same, b)) = ap (λ o. ordering_then o (slice_cmp nat_cmp v w)) (nat_same k l same) ∙ before_less v w b

list_same : (v w : List ℕ) → v ≡ w → slice_cmp nat_cmp v w ≡ Equal
list_same v w same = ap (slice_cmp nat_cmp v) (sym same) ∙ itself v
  where
    itself : (v : List ℕ) → slice_cmp nat_cmp v v ≡ Equal
    itself [] = refl
    itself (k ∷ v) = ap (λ o. ordering_then o (slice_cmp nat_cmp v v)) (nat_same k k refl) ∙ itself v

-- the derived order
abbrev pub rank_cmp : Rank → Rank → Ordering
rank_cmp q r = ordering_then (nat_cmp q.round r.round) (ordering_then (slice_cmp nat_cmp q.path.items r.path.items) (ordering_then (nat_cmp q.atom r.atom) (nat_cmp q.want r.want)))

pub rank_total : IsTotalOrder rank_cmp
rank_total =
    then_total (on_total (λ (r : Rank). r.round) nat_cmp_total) (then_total (on_total (λ (r : Rank). r.path.items) nat_list_cmp_total) (then_total (on_total (λ (r : Rank). r.atom) nat_cmp_total) (on_total (λ (r : Rank). r.want) nat_cmp_total)))

-- what isn't behind another want comes before it
pub sooner : (q r : Rank) → is_lt (rank_cmp r q) ≡ false → (q.want ≡ r.want → ⊥) → IsBefore q r
sooner q r not other =
    let paths = slice_cmp nat_cmp r.path.items q.path.items in
    let atoms = nat_cmp r.atom q.atom in
    let wants = nat_cmp r.want q.want in
    elim (cases_order q.round r.round) [
      | inl same ↦
          let one : rank_cmp r q ≡ ordering_then paths (ordering_then atoms wants) = ap (λ o. ordering_then o (ordering_then paths (ordering_then atoms wants))) (nat_same r.round q.round (sym same)) in
          inr (
            same,
            elim (path_cases q.path.items r.path.items) [
              | inl before ↦ inl before
              | inr (inl alike) ↦
                  let two : rank_cmp r q ≡ ordering_then atoms wants = one ∙ ap (λ o. ordering_then o (ordering_then atoms wants)) (list_same r.path.items q.path.items (sym alike)) in
                  inr (
                    alike,
                    elim (cases_order q.atom r.atom) [
                      | inl equal ↦
                          let three : rank_cmp r q ≡ wants = two ∙ ap (λ o. ordering_then o wants) (nat_same r.atom q.atom (sym equal)) in
                          inr (
                            equal,
                            elim (cases_order q.want r.want) [
                              | inl twice ↦ absurd (other twice)
                              | inr (inl less) ↦ less
                              | inr (inr more) ↦ absurd (never_less (rank_cmp r q) (three ∙ nat_less r.want q.want more) not)
                            ],
                          )
                      | inr (inl less) ↦ inl less
                      | inr (inr more) ↦ absurd (never_less (rank_cmp r q) (two ∙ ap (λ o. ordering_then o wants) (nat_less r.atom q.atom more)) not)
                    ],
                  )
              | inr (inr after) ↦ absurd (never_less (rank_cmp r q) (one ∙ ap (λ o. ordering_then o (ordering_then atoms wants)) (before_less r.path.items q.path.items after)) not)
            ],
          )
      | inr (inl less) ↦ inl less
      | inr (inr more) ↦ absurd (never_less (rank_cmp r q) (ap (λ o. ordering_then o (ordering_then paths (ordering_then atoms wants))) (nat_less r.round q.round more)) not)
    ]

pub ranks_start : (n : Needs) → AreRanks n 0 []
ranks_start n = record { long = refl; each = λ i r at. cc }

pub ranks_next : (n : Needs) (k : ℕ) (rs : List Rank) (r : Rank) → AreRanks n k rs → IsRank n k r → AreRanks n (k + 1) (rs ++ r ∷ [])
ranks_next n k rs r ranks one = record {
  long = let long = ranks.long in omega (arith, long, length-push rs r);
  each = λ i q at. elim (push_cases rs r i q at) [
    | inl old ↦ ranks.each i q old
    | inr (last, same) ↦ subst (λ j. IsRank n j q) (sym (last ∙ ranks.long)) (subst (IsRank n k) same one)
  ];
}
  where
    length-push : {X : Type 0} (xs : List X) (x : X) → length (xs ++ x ∷ []) ≡ length xs + 1
    length-push [] x = refl
    length-push (y ∷ xs) x = let rest = length-push xs x in omega (arith, rest)

-- the places of different wants differ
flips : (x y : ℕ) → (x == y) ≡ (y == x)
flips x y = grind arith

ranks_distinct : (n : Needs) (count : ℕ) (rs : List Rank) → AreRanks n count rs → IsDistinct (λ (q r : Rank). q.want == r.want) rs
ranks_distinct n count rs ranks = IsDistinct-from_apart (λ (q r : Rank). q.want == r.want) rs apart
  where
    differ : (x y : ℕ) → (x ≡ y → ⊥) → (x == y) ≡ false
    differ x y other = elim (x == y) as (λ b. (x == y) ≡ b → b ≡ false) [ true ↦ λ e. absurd (other ((Decides-eqb x y).0 e)) | false ↦ λ e. refl ] refl

    apart : (i j : ℕ) (d : Rank) → i < j → j < length rs → ((get_or rs i d).want == (get_or rs j d).want) ≡ false
    apart i j d less within =
        let a = (ranks.each i (get_or rs i d) (slice_get-get_or rs i d (omega (arith, less, within)))).place in
        let b = (ranks.each j (get_or rs j d) (slice_get-get_or rs j d within)).place in
        differ (get_or rs i d).want (get_or rs j d).want (λ same. let e = sym a ∙ same ∙ b in omega (arith, e, less))

-- all ranks, sorted
pub sorted_is : (n : Needs) (rs rs' : List Rank) → AreRanks n (length n.wants.keys) rs → IsPermutation rs rs' → IsSorted rank_cmp rs' → AreSorted n rs'
sorted_is n rs rs' ranks moved sorted = record {
  each = λ k r at.
      let i = at_Contains rs r (Contains-permutation rs' rs r (IsPermutation-sym rs rs' moved) (Contains-at rs' k r at)) in
      let rank = ranks.each i.0 r i.1 in
      subst (λ j. IsRank n j r) (sym rank.place) rank;
  all = λ i within.
      let r = element_at rs i (subst (λ m. i < m) (sym ranks.long) within) in
      let k = at_Contains rs' r.0 (Contains-permutation rs rs' r.0 moved (Contains-at rs i r.0 r.1)) in
      (k.0, r.0, k.1, (ranks.each i r.0 r.1).place);
  ordered = λ k l q r less at_k at_l.
      let within = slice_get_within rs' l r at_l in
      let q_is = get_or_from_slice_get rs' k q q at_k in
      let r_is = get_or_from_slice_get rs' l r q at_l in
      let far = sorted_far (λ (x y : Rank). is_lt (rank_cmp x y)) (ranks_by rank_total (λ (x : Rank). x)) rs' sorted k l q (omega (arith, less)) within in
      let not : is_lt (rank_cmp r q) ≡ false = ap (λ x. is_lt (rank_cmp x q)) (sym r_is) ∙ ap (λ x. is_lt (rank_cmp (get_or rs' l q) x)) (sym q_is) ∙ far in
      let apart = apart_from_distinct (λ (x y : Rank). x.want == y.want) rs' k l q (IsDistinct-IsPermutation (λ (x y : Rank). x.want == y.want) (λ x y. flips x.want y.want) rs rs' moved (ranks_distinct n (length n.wants.keys) rs ranks)) less within in
      let apart' : (q.want == r.want) ≡ false = ap (λ (x : Rank). q.want == x.want) (sym r_is) ∙ ap (λ (x : Rank). x.want == (get_or rs' l q).want) (sym q_is) ∙ apart in
      sooner q r not (λ same. let e : true ≡ false = sym ((Decides-eqb q.want r.want).1 same) ∙ apart' in cc);
}

-- Places of numbers in a table.
use Rattle.std.proofs.Common.{◌≡◌, ℕ, suc, ◌==◌, ◌≤◌, Bool, true, false, if◌then◌else◌, List, [], ◌∷◌, ◌++◌, length, get_or, Option, Some, None, option_map, refl, sym, ap, ◌∙◌, subst, inl, inr, arith}
use Rattle.std.proofs.lemmas.Bool.{cases_Bool, eqb-true, eq-eqb}
use Rattle.guard_simplify.specs.Firsts.{is_among, with_new, place_of}
use Rattle.guard_simplify.specs.NumberSets.{noted, ArePlaces, IsNoted}

abbrev same : ℕ → ℕ → Bool
same x y = x == y

noted_behind : (n m : ℕ) (ns : List ℕ) → (n == m) ≡ false → noted n (m ∷ ns) ≡ option_map suc (noted n ns)
noted_behind n m ns apart = elim (cases_Bool (is_among same n ns)) [
  | inl there ↦ rw (apart, there) refl
  | inr none ↦ rw (apart, none) refl
]

absent_long : (n : ℕ) (ns : List ℕ) → is_among same n ns ≡ false → length ns ≡ place_of same n ns
absent_long n [] none = refl
absent_long n (m ∷ ns) none = elim (cases_Bool (n == m)) [
  | inl here ↦ let none' = rw here at none in absurd (cc)
  | inr apart ↦ rw apart (ap suc (absent_long n ns (rw apart at none)))
]

some_among : (n p : ℕ) (ns : List ℕ) → noted n ns ≡ Some p → (is_among same n ns ≡ true) × (p ≡ place_of same n ns)
some_among n p ns is = elim (cases_Bool (is_among same n ns)) [
  | inl there ↦ let is' = rw there at is in (there, cc)
  | inr none ↦ let is' = rw none at is in absurd (cc)
]

none_among : (n : ℕ) (ns : List ℕ) → noted n ns ≡ None → is_among same n ns ≡ false
none_among n ns is = elim (cases_Bool (is_among same n ns)) [
  | inl there ↦ let is' = rw there at is in absurd (cc)
  | inr none ↦ none
]

-- one number more
noted_push : (m n : ℕ) (ns : List ℕ) → is_among same n ns ≡ false → noted m (ns ++ n ∷ []) ≡ (if m == n then Some (length ns) else noted m ns)
noted_push m n [] none = elim (cases_Bool (m == n)) [
  | inl new' ↦ rw new' refl
  | inr old' ↦ rw old' refl
]
noted_push m n (k ∷ ns) none = elim (cases_Bool (n == k)) [
  | inl here ↦ let none' = rw here at none in absurd (cc)
  | inr apart ↦ elim (cases_Bool (m == k)) [
    | inl first ↦
        let one : m ≡ k = eqb-true m k first in
        let other : (m == n) ≡ false = elim (cases_Bool (m == n)) [
          | inl same' ↦ let both : (n == k) ≡ true = eq-eqb n k (sym (eqb-true m n same') ∙ one) in absurd (cc)
          | inr no' ↦ no'
        ] in
        rw (first, other) refl
    | inr later ↦
        noted_behind m k (ns ++ n ∷ []) later ∙ ap (option_map suc) (noted_push m n ns (rw apart at none)) ∙ elim (cases_Bool (m == n)) [
          | inl new' ↦ rw new' refl
          | inr old' ↦ rw old' (sym (noted_behind m k ns later))
        ]
  ]
]

-- a number that has a place, and one that gets the next
pub stays : (n p : ℕ) (ns : List ℕ) (places : List (Option ℕ)) → ArePlaces places ns → get_or places n None ≡ Some p → ns ≡ with_new same ns n
stays n p ns places are is = let there = (some_among n p ns (sym (are n) ∙ is)).0 in rw there refl

pub grows : (n : ℕ) (ns : List ℕ) (places : List (Option ℕ)) → ArePlaces places ns → get_or places n None ≡ None → ns ++ n ∷ [] ≡ with_new same ns n
grows n ns places are is = let none = none_among n ns (sym (are n) ∙ is) in rw none refl

pub placed_more : (n : ℕ) (ns : List ℕ) (old new : List (Option ℕ)) → ArePlaces old ns → get_or old n None ≡ None → IsNoted old new n (length ns) → ArePlaces new (ns ++ n ∷ [])
placed_more n ns old new are is put k =
    let none = none_among n ns (sym (are n) ∙ is) in
    elim (cases_Bool (k == n)) [
      | inl here ↦
          let one : k ≡ n = eqb-true k n here in
          let more = rw here at (noted_push k n ns none) in
          subst (λ z. get_or new z None ≡ Some (length ns)) (sym one) put.here ∙ sym more
      | inr apart ↦
          let more = rw apart at (noted_push k n ns none) in
          let other = put.others k (λ one. let same' : (k == n) ≡ true = eq-eqb k n one in absurd (cc)) in
          other ∙ are k ∙ sym more
    ]

pub found_place : (n p : ℕ) (ns : List ℕ) (places : List (Option ℕ)) → ArePlaces places ns → get_or places n None ≡ Some p → p ≡ place_of same n ns
found_place n p ns places are is = (some_among n p ns (sym (are n) ∙ is)).1

pub missing_place : (n : ℕ) (ns : List ℕ) (places : List (Option ℕ)) → ArePlaces places ns → get_or places n None ≡ None → length ns ≡ place_of same n ns
missing_place n ns places are is = absent_long n ns (none_among n ns (sym (are n) ∙ is))

place_short : (n : ℕ) (ns : List ℕ) → place_of same n ns ≤ length ns
place_short n [] = omega arith
place_short n (m ∷ ns) = elim (cases_Bool (n == m)) [
  | inl here ↦ rw here (omega arith)
  | inr apart ↦ let rest = place_short n ns in rw apart (omega (arith, rest))
]

pub found_short : (n p : ℕ) (ns : List ℕ) (places : List (Option ℕ)) → ArePlaces places ns → get_or places n None ≡ Some p → p ≤ length ns
found_short n p ns places are is = let place = found_place n p ns places are is in let short = place_short n ns in omega (arith, place, short)

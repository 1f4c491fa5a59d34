-- Rules by the atoms that they give: one rule more.
use Rattle.std.proofs.Common.{◌≡◌, ℕ, suc, ◌+◌, ◌<◌, Bool, ◌==◌, if◌then◌else◌, List, [], ◌∷◌, ◌++◌, take, length, get_or, refl, sym, ap, ◌∙◌, arith, inl, inr}
use Rattle.std.proofs.lemmas.Bool.{cases_Bool, eqb-true}
use Rattle.std.proofs.lemmas.List.{take_more, length-take-le}
use Rattle.row_index.specs.Rows.{IsNoted}
use Rattle.row_index.proofs.RowLemmas.{noted_at}
use Rattle.simple_core.specs.Givers.{places_from, places_in, AreGivers}

places_from-push : {X : Type 0} (passes : X → Bool) (k : ℕ) (xs : List X) (x : X)
    → places_from passes k (xs ++ x ∷ []) ≡ (if passes x then places_from passes k xs ++ (k + length xs) ∷ [] else places_from passes k xs)
places_from-push passes k [] x = elim (cases_Bool (passes x)) [
  | inl here ↦ rw here (let same : k ≡ k + 0 = omega arith in ap (λ n. n ∷ []) same)
  | inr other ↦ rw other refl
]
places_from-push passes k (y ∷ xs) x =
    let more = places_from-push passes (suc k) xs x in
    let place : suc k + length xs ≡ k + suc (length xs) = omega arith in
    elim (cases_Bool (passes y)) [
      | inl first ↦ elim (cases_Bool (passes x)) [
        | inl here ↦ rw (first, here) (ap (λ ns. k ∷ ns) ((rw here at more) ∙ ap (λ n. places_from passes (suc k) xs ++ n ∷ []) place))
        | inr other ↦ rw (first, other) (ap (λ ns. k ∷ ns) (rw other at more))
      ]
      | inr skipped ↦ elim (cases_Bool (passes x)) [
        | inl here ↦ rw (skipped, here) ((rw here at more) ∙ ap (λ n. places_from passes (suc k) xs ++ n ∷ []) place)
        | inr other ↦ rw (skipped, other) (rw other at more)
      ]
    ]

module _ {X : Type 0} (gives : X → ℕ) (rules : List X) (i : ℕ) (r : X) (less : i < length rules) (at : r ≡ get_or rules i r) (old new : List (List ℕ)) where
  pub givers_more : AreGivers gives (take i rules) old
      → IsNoted old new (gives r) i
      → AreGivers gives (take (i + 1) rules) new
  givers_more before noted a =
      let put = noted_at old new (gives r) i noted in
      let longer : take (i + 1) rules ≡ take i rules ++ r ∷ [] = take_more rules i r less ∙ (λ n. take i rules ++ sym at n ∷ []) in
      let push = ap (places_from (λ (x : X). gives x == a) 0) longer ∙ places_from-push (λ (x : X). gives x == a) 0 (take i rules) r in
      let place : 0 + length (take i rules) ≡ i = omega (arith, length-take-le i rules (omega (arith, less))) in
      elim (cases_Bool (gives r == a)) [
        | inl here ↦
            (rw here at (put a))
            ∙ ap (λ b. places_in old b ++ i ∷ []) (eqb-true (gives r) a here)
            ∙ (λ n. before a n ++ sym place n ∷ [])
            ∙ sym (rw here at push)
        | inr other ↦ (rw other at (put a)) ∙ before a ∙ sym (rw other at push)
      ]

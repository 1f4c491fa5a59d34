-- Lists that rise: each number is below the next.
use Rattle.std.proofs.Common.{◌≡◌, ℕ, zero, suc, ◌+◌, ◌<◌, ◌≤◌, List, [], ◌∷◌, length, get_or, All, Contains, ◌↔◌, ◌⊎◌, refl, sym, ap, ◌∙◌, subst, inl, inr, arith, add-one}
use Rattle.std.specs.List.Sorted.{IsStrictlyIncreasing}
use Rattle.std.proofs.lemmas.Bool.{cases_order}
use Rattle.std.proofs.lemmas.List.{get_or_default}
use Rattle.std.proofs.lemmas.List.Elements.{All-contains, Contains-get_or, All-head, All-tail}
use Rattle.std.proofs.lemmas.List.Kept.{AllPairs-from_increasing}
use native.Mathlib.Numerals.{unary_clauses}

-- what is in a list with one more number in front
pub Contains-here : {X : Type 0} (x y : X) (xs : List X) → x ≡ y → Contains (y ∷ xs) x
Contains-here x y xs e = (0, omega arith, sym e)

pub Contains-behind : {X : Type 0} (x y : X) (xs : List X) → Contains xs x → Contains (y ∷ xs) x
Contains-behind x y xs (k, within, at) = (suc k, omega arith, at)

pub Contains-cons : {X : Type 0} (x y : X) (xs : List X) → Contains (y ∷ xs) x ↔ ((x ≡ y) ⊎ Contains xs x)
Contains-cons x y xs = (
  cases x y xs,
  λ either. elim either [ inl here ↦ Contains-here x y xs here | inr behind ↦ Contains-behind x y xs behind ],
)
  where
    cases : {X : Type 0} (x y : X) (xs : List X) → Contains (y ∷ xs) x → (x ≡ y) ⊎ Contains xs x
    cases x y xs (zero, within, at) = inl (sym at)
    cases x y xs (suc k, within, at) = inr (k, omega arith, at)

pub Contains-none : {X : Type 0} (x : X) → Contains [] x → ⊥
Contains-none x (k, within, at) = absurd (omega arith)

-- what holds of each number that is in a list
pub All-from_Contains : {X : Type 0} (P : X → Type 0) (xs : List X) → ((x : X) → Contains xs x → P x) → All P xs
All-from_Contains P xs each k d within = each (get_or xs k d) (Contains-get_or xs k d within)

-- a list rises where its first number is below the others, and those rise
pub rises_tail : (x : ℕ) (xs : List ℕ) → IsStrictlyIncreasing (x ∷ xs) → IsStrictlyIncreasing xs
rises_tail x xs up k within = rw add-one (simp unary_clauses at (up (suc k) (omega arith)))

pub rises_head : (x : ℕ) (xs : List ℕ) → IsStrictlyIncreasing (x ∷ xs) → All (λ y. x < y) xs
rises_head x xs up k d within =
    rw (get_or_default xs k d 0 within) (AllPairs-from_increasing (x ∷ xs) up 0 (suc k) 0 (omega arith) (omega arith))

pub rises_cons : (x : ℕ) (xs : List ℕ) → All (λ y. x < y) xs → IsStrictlyIncreasing xs → IsStrictlyIncreasing (x ∷ xs)
rises_cons x xs above up zero within = above 0 0 (omega arith)
rises_cons x xs above up (suc k) within =
    subst (λ j. get_or xs k 0 < get_or (x ∷ xs) j 0) {x = suc (k + 1)} (omega arith) (up k (omega arith))

-- a number is at most each later one
pub rises_between : (xs : List ℕ) → IsStrictlyIncreasing xs → (i j : ℕ) → i ≤ j → j < length xs → get_or xs i 0 ≤ get_or xs j 0
rises_between xs up i j le within = grind (arith, AllPairs-from_increasing xs up i j 0, λ (same : i ≡ j). ap (λ k. get_or xs k 0) same)

rises_nil : IsStrictlyIncreasing []
rises_nil k within = absurd (omega arith)

-- the first number is not behind itself
pub not_behind : (x : ℕ) (xs : List ℕ) → IsStrictlyIncreasing (x ∷ xs) → Contains xs x → ⊥
not_behind x xs up there = let less : x < x = All-contains (λ y. x < y) xs x (rises_head x xs up) there in omega arith

-- nor is a smaller one in the list
pub not_below : (z x : ℕ) (xs : List ℕ) → IsStrictlyIncreasing (x ∷ xs) → z < x → Contains (x ∷ xs) z → ⊥
not_below z x xs up less there = elim ((Contains-cons z x xs).0 there) [
  | inl here ↦ omega arith
  | inr behind ↦ let more : x < z = All-contains (λ y. x < y) xs z (rises_head x xs up) behind in omega arith
]

-- two lists that rise and have the same members are one
pub same_members : (xs ys : List ℕ) → IsStrictlyIncreasing xs → IsStrictlyIncreasing ys → All (Contains ys) xs → All (Contains xs) ys → xs ≡ ys
same_members [] [] up_x up_y within back = refl
same_members [] (y ∷ ys) up_x up_y within back = absurd (Contains-none y (All-head (Contains []) y ys back))
same_members (x ∷ xs) [] up_x up_y within back = absurd (Contains-none x (All-head (Contains []) x xs within))
same_members (x ∷ xs) (y ∷ ys) up_x up_y within back =
    let same : x ≡ y = elim (cases_order x y) [
      | inl same ↦ same
      | inr other ↦ elim other [
        | inl less ↦ absurd (not_below x y ys up_y less (All-head (Contains (y ∷ ys)) x xs within))
        | inr more ↦ absurd (not_below y x xs up_x more (All-head (Contains (x ∷ xs)) y ys back))
      ]
    ] in
    let there : All (Contains ys) xs = All-from_Contains (Contains ys) xs (λ z in_xs. elim ((Contains-cons z y ys).0 (All-contains (Contains (y ∷ ys)) xs z (All-tail (Contains (y ∷ ys)) x xs within) in_xs)) [
      | inl here ↦ absurd (let more : x < z = All-contains (λ w. x < w) xs z (rises_head x xs up_x) in_xs in omega arith)
      | inr behind ↦ behind
    ]) in
    let here : All (Contains xs) ys = All-from_Contains (Contains xs) ys (λ z in_ys. elim ((Contains-cons z x xs).0 (All-contains (Contains (x ∷ xs)) ys z (All-tail (Contains (x ∷ xs)) y ys back) in_ys)) [
      | inl here ↦ absurd (let more : y < z = All-contains (λ w. y < w) ys z (rises_head y ys up_y) in_ys in omega arith)
      | inr behind ↦ behind
    ]) in
    ap (λ z. z ∷ xs) same ∙ ap (λ zs. y ∷ zs) (same_members xs ys (rises_tail x xs up_x) (rises_tail y ys up_y) there here)

-- The places at which rules pass.
use Rattle.std.proofs.Common.{◌≡◌, ℕ, zero, suc, ◌+◌, Bool, true, false, if◌then◌else◌, List, [], ◌∷◌, Contains, Some, slice_get, inl, inr, refl, ap, ◌∙◌, subst, arith}
use Rattle.tp_base.proofs.Lists.{cons_cases, first_there, next_there}
use Rattle.tp_base.proofs.Rising.{Contains-none}
use Rattle.simple_core.specs.Givers.{places_from}

pub places_from-Contains : {X : Type 0} (test : X → Bool) (n : ℕ) (xs : List X) (i : ℕ) (x : X) → slice_get xs i ≡ Some x → test x ≡ true → Contains (places_from test n xs) (n + i)
places_from-Contains test n [] i x at pass = cc
places_from-Contains test n (y ∷ xs) zero x at pass =
    let same : y ≡ x = cc in
    let first : test y ≡ true = ap test same ∙ pass in
    rw first (subst (λ m. Contains (n ∷ places_from test (suc n) xs) m) {x = n} (omega arith) (first_there n (places_from test (suc n) xs)))
places_from-Contains test n (y ∷ xs) (suc i) x at pass =
    let rest : Contains (places_from test (suc n) xs) (n + suc i) = subst (λ m. Contains (places_from test (suc n) xs) m) {x = suc n + i} (omega arith) (places_from-Contains test (suc n) xs i x at pass) in
    elim (test y) as (λ b. Contains (if b then n ∷ places_from test (suc n) xs else places_from test (suc n) xs) (n + suc i)) [
      | true ↦ next_there n (places_from test (suc n) xs) (n + suc i) rest
      | false ↦ rest
    ]

pub places_from-is : {X : Type 0} (test : X → Bool) (n : ℕ) (xs : List X) (m : ℕ) → Contains (places_from test n xs) m → (i : ℕ) × (m ≡ n + i) × (x : X) × (slice_get xs i ≡ Some x) × (test x ≡ true)
places_from-is test n [] m is = absurd (Contains-none m is)
places_from-is {X} test n (y ∷ xs) m is =
    elim (test y) as (λ b. test y ≡ b → Contains (if b then n ∷ places_from test (suc n) xs else places_from test (suc n) xs) m → (i : ℕ) × (m ≡ n + i) × (x : X) × (slice_get (y ∷ xs) i ≡ Some x) × (test x ≡ true)) [
      | true ↦ λ e is. elim (cons_cases n (places_from test (suc n) xs) m is) [
        | inl same ↦ (0, omega arith, y, refl, e)
        | inr later ↦ let r = places_from-is test (suc n) xs m later in (suc r.0, omega (arith, r.1), r.2, r.3, r.4)
      ]
      | false ↦ λ e is. let r = places_from-is test (suc n) xs m is in (suc r.0, omega (arith, r.1), r.2, r.3, r.4)
    ] refl is

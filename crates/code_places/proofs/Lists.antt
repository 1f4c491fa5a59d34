-- One token further.
use Rattle.std.proofs.Common.{◌≡◌, ℕ, zero, suc, ◌+◌, List, [], ◌∷◌, length, drop, refl, sym, subst, arith}

next : {A : Type 0} (ts : List A) (at : ℕ) (t : A) (us : List A) → drop at ts ≡ t ∷ us → drop (suc at) ts ≡ us
next [] zero t us is = cc
next [] (suc at) t us is = cc
next (x ∷ ts) zero t us is = cc
next (x ∷ ts) (suc at) t us is = next ts at t us is

none_next : {A : Type 0} (ts : List A) (at : ℕ) → length (drop at ts) ≡ 0 → drop (suc at) ts ≡ []
none_next [] at none = refl
none_next (x ∷ ts) zero none = absurd (omega arith)
none_next (x ∷ ts) (suc at) none = none_next ts at none

pub one_further : {A : Type 0} (ts : List A) (at : ℕ) (t : A) (us : List A) → drop at ts ≡ t ∷ us → drop (at + 1) ts ≡ us
one_further {A} ts at t us is =
    let more : at + 1 ≡ suc at = omega arith in
    subst (λ n. drop n ts ≡ us) (sym more) (next ts at t us is)

pub none_further : {A : Type 0} (ts : List A) (at : ℕ) → length (drop at ts) ≡ 0 → drop (at + 1) ts ≡ []
none_further {A} ts at none =
    let more : at + 1 ≡ suc at = omega arith in
    subst (λ n. drop n ts ≡ []) (sym more) (none_next ts at none)

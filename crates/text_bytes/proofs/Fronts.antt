-- The longest front of a text all of whose bytes pass.
use Rattle.std.proofs.Common.{◌≡◌, ℕ, suc, ◌+◌, Bool, true, false, if◌then◌else◌, List, [], ◌∷◌, take, refl, sym, subst, arith}
use Rattle.std.specs.List.{prefix_len}

run_when : (p : ℕ → Bool) (b : ℕ) (bs : List ℕ) (test : Bool) → p b ≡ test → prefix_len p (take (prefix_len p bs) bs) ≡ prefix_len p bs
    → prefix_len p (take (if test then 1 + prefix_len p bs else 0) (b ∷ bs)) ≡ (if test then 1 + prefix_len p bs else 0)
run_when p b bs true passes own =
    let one : 1 + prefix_len p bs ≡ suc (prefix_len p bs) = omega arith in
    subst (λ (k : ℕ). prefix_len p (take k (b ∷ bs)) ≡ k) (sym one) (rw (passes, own) one)
run_when p b bs false fails own = refl

pub own_run : (p : ℕ → Bool) (bs : List ℕ) → prefix_len p (take (prefix_len p bs) bs) ≡ prefix_len p bs
own_run p [] = refl
own_run p (b ∷ bs) = run_when p b bs (p b) refl (own_run p bs)

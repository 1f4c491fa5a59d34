-- What is left of a set without one of its numbers.
use Rattle.std.proofs.Common.{◌≡◌, ◌≢◌, ℕ, zero, suc, ◌<◌, List, [], ◌∷◌, length, get_or, remove, refl, ap, ◌∙◌, inl, inr, arith}
use Rattle.std.specs.List.Sorted.{IsStrictlyIncreasing, IsBinarySearchResult}
use Rattle.std.specs.Ordering.{nat_cmp}
use Rattle.std.proofs.lemmas.Bool.{cases_order, eq-eqb, ne_eqb}
use Rattle.std.proofs.lemmas.List.Kept.{IsStrictlyIncreasing-filter}
use Rattle.std.proofs.lemmas.List.Sorted.{searched}
use Rattle.std.proofs.lemmas.List.Kept.{AllPairs-from_increasing}
use Rattle.std.proofs.lemmas.List.{get_or_default}
use Rattle.std.specs.declared.result.Result.TheVariants.{Ok, Err}
use Rattle.tp_base.specs.Losses.{without_class}
use Rattle.tp_base.proofs.Rising.{rises_between}
use Rattle.tp_base.proofs.Searches.{found_gap, not_in_gap}

pub IsStrictlyIncreasing-without_class : (x : ℕ) (xs : List ℕ) → IsStrictlyIncreasing xs → IsStrictlyIncreasing (without_class x xs)
IsStrictlyIncreasing-without_class x xs up = IsStrictlyIncreasing-filter _ xs up

pub without_class-absent : (x : ℕ) (xs : List ℕ) → ((k : ℕ) → k < length xs → get_or xs k 0 ≢ x) → without_class x xs ≡ xs
without_class-absent x [] none = refl
without_class-absent x (y ∷ xs) none = rw (ne_eqb y x (none 0 (omega arith))) (ap (λ z. y ∷ z) (without_class-absent x xs (λ k less. none (suc k) (omega arith))))

without_class-at : (x : ℕ) (xs : List ℕ) (i : ℕ) → i < length xs → get_or xs i 0 ≡ x → ((k : ℕ) → k ≢ i → k < length xs → get_or xs k 0 ≢ x) → without_class x xs ≡ remove xs i
without_class-at x [] i within at once = absurd (omega arith)
without_class-at x (y ∷ xs) zero within at once = rw (eq-eqb y x at) (without_class-absent x xs (λ k less. once (suc k) (λ e. omega arith) (omega arith)))
without_class-at x (y ∷ xs) (suc i) within at once =
    rw (ne_eqb y x (once 0 (λ e. omega arith) (omega arith))) (ap (λ z. y ∷ z) (without_class-at x xs i (omega arith) at (λ k other less. once (suc k) (λ e. other (omega arith)) (omega arith))))

-- what a search in the list says of it
module _ (xs : List ℕ) (x : ℕ) (up : IsStrictlyIncreasing xs) where
  pub without_found : (i : ℕ) → IsBinarySearchResult (λ y. nat_cmp y x) xs (Ok i) → without_class x xs ≡ remove xs i
  without_found i is =
      let h = searched xs x (Ok i) is (rises_between xs up) in
      let at : get_or xs i 0 ≡ x = h.1 in
      without_class-at x xs i h.0 at (λ k other less same. elim (cases_order k i) [
        | inl e ↦ other e
        | inr (inl before) ↦ grind (arith, AllPairs-from_increasing xs up k i 0, same, at, h.0)
        | inr (inr after) ↦ grind (arith, AllPairs-from_increasing xs up i k 0, same, at, less)
      ])

  pub without_missing : (i : ℕ) → IsBinarySearchResult (λ y. nat_cmp y x) xs (Err i) → without_class x xs ≡ xs
  without_missing i is = without_class-absent x xs (λ k less same. not_in_gap xs x i (found_gap xs x up i is) (k, less, get_or_default xs k x 0 less ∙ same))

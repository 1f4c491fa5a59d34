-- What a binary search says in a list that rises.
use Rattle.std.proofs.Common.{◌≡◌, ℕ, zero, suc, ◌<◌, ◌≤◌, List, [], ◌∷◌, length, get_or, Result, Ok, Err, is_ok, IsTrue, Contains, ◌↔◌, refl, sym, ap, ◌∙◌, arith}
use Rattle.std.specs.List.{insert}
use Rattle.std.specs.Ordering.{nat_cmp}
use Rattle.std.specs.List.Sorted.{IsStrictlyIncreasing, IsBinarySearchResult}
use Rattle.std.proofs.lemmas.Bool.{true≢false}
use Rattle.std.proofs.lemmas.List.Sorted.{searched}
use Rattle.std.proofs.lemmas.List.{get_or_default}
use Rattle.tp_base.specs.Classes.{has_class, with_class}
use Rattle.tp_base.proofs.Rising.{rises_between}
use Rattle.tp_base.proofs.ClassLemmas.{has_class-Contains, Contains-has_class, with_class-below, with_class-above}
use Rattle.tp_base.proofs.Truths.{same_test}

-- x would go at place i: smaller numbers before it, and greater ones from it on
pub record IsGap (xs : List ℕ) (x i : ℕ) : Type 0 where
  pub in_range : i ≤ length xs
  pub smaller : (k : ℕ) → k < i → get_or xs k 0 < x
  pub greater : (k : ℕ) → i ≤ k → k < length xs → x < get_or xs k 0

-- so it is not there
pub not_in_gap : (xs : List ℕ) (x i : ℕ) → IsGap xs x i → Contains xs x → ⊥
not_in_gap xs x i gap (k, within, at) =
    let here : get_or xs k 0 ≡ x = get_or_default xs k 0 x within ∙ at in
    grind (arith, gap.smaller k, gap.greater k)

module _ (xs : List ℕ) (x : ℕ) (up : IsStrictlyIncreasing xs) where
  pub found : (i : ℕ) → IsBinarySearchResult (λ y. nat_cmp y x) xs (Ok i) → Contains xs x
  found i is = let h = searched xs x (Ok i) is (rises_between xs up) in (i, h.0, get_or_default xs i x 0 h.0 ∙ h.1)

  pub found_gap : (i : ℕ) → IsBinarySearchResult (λ y. nat_cmp y x) xs (Err i) → IsGap xs x i
  found_gap i is =
      let h = searched xs x (Err i) is (rises_between xs up) in
      record { in_range = h.0; smaller = h.1; greater = h.2 }

  pub search_decides : (r : Result ℕ ℕ) → IsBinarySearchResult (λ y. nat_cmp y x) xs r → IsTrue (is_ok r) ↔ Contains xs x
  search_decides (Ok i) is = (λ _. found i is, λ _. refl)
  search_decides (Err i) is = (λ f. absurd (true≢false (sym f)), λ there. absurd (not_in_gap xs x i (found_gap i is) there))

  pub search_test : (r : Result ℕ ℕ) → IsBinarySearchResult (λ y. nat_cmp y x) xs r → is_ok r ≡ has_class x xs
  search_test r is =
      let decides = search_decides r is in
      same_test (is_ok r) (has_class x xs) (λ yes. has_class-Contains x xs (decides.0 yes)) (λ yes. decides.1 (Contains-has_class x xs yes))

tail_gap : (x y : ℕ) (xs : List ℕ) (i : ℕ) → IsGap (y ∷ xs) x (suc i) → IsGap xs x i
tail_gap x y xs i gap = record {
  in_range = omega (arith, gap.in_range);
  smaller = λ k lt. gap.smaller (suc k) (omega arith);
  greater = λ k le within. gap.greater (suc k) (omega arith) (omega arith);
}

-- an insert into the gap is `with_class`
pub insert_gap : (x : ℕ) (xs : List ℕ) (i : ℕ) → IsGap xs x i → insert xs i x ≡ with_class x xs
insert_gap x [] zero gap = refl
insert_gap x [] (suc i) gap = absurd (omega (arith, gap.in_range))
insert_gap x (y ∷ xs) zero gap = sym (with_class-below x y xs (gap.greater 0 (omega arith) (omega arith)))
insert_gap x (y ∷ xs) (suc i) gap =
    ap (λ zs. y ∷ zs) (insert_gap x xs i (tail_gap x y xs i gap)) ∙ sym (with_class-above x y xs (gap.smaller 0 (omega arith)))

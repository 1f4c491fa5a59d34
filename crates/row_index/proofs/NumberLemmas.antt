-- Places in a list of numbers, by the numbers that stand there.
use Rattle.std.proofs.Common.{◌≡◌, ℕ, ◌+◌, ◌<◌, List, [], ◌∷◌, ◌++◌, length, get_or, slice_get, Option, Some, None, Contains, take, refl, sym, ap, ◌∙◌, inl, inr, arith, subst}
use Rattle.std.proofs.lemmas.List.{take_more, length-take-le, get_or_default}
use Rattle.std.proofs.lemmas.List.Elements.{Contains-append_right}
use Rattle.std.proofs.lemmas.Option.{slice_get_within}
use Rattle.tp_base.proofs.Rising.{Contains-here, Contains-none}
use Rattle.tp_base.proofs.Lists.{slice_get-append_left, slice_get-push, push_cases}
use Rattle.row_index.specs.Rows.{row_of, IsNoted, IsNotedIf, AreByNumber}
use Rattle.row_index.proofs.RowLemmas.{noted_kept, noted_cases}

pub numbers_start : (rows : List (List ℕ)) → rows ≡ [] → AreByNumber [] rows
numbers_start rows none = record {
  whole = λ i j at. let never : None ≡ Some (Some j) = at in cc;
  only = λ j i there. absurd (Contains-none i (subst (λ (z : List (List ℕ)). Contains (row_of z j) i) none there));
}

module _ (numbers : List (Option ℕ)) (i : ℕ) (o : Option ℕ) (less : i < length numbers) (at : o ≡ get_or numbers i o) where
  longer : take (i + 1) numbers ≡ take i numbers ++ o ∷ []
  longer = take_more numbers i o less ∙ (λ n. take i numbers ++ sym at n ∷ [])

  long : length (take i numbers) ≡ i
  long = length-take-le i numbers (omega (arith, less))

  pub numbers_none : (rows : List (List ℕ)) → o ≡ None → AreByNumber (take i numbers) rows → AreByNumber (take (i + 1) numbers) rows
  numbers_none rows none before = subst (λ (xs : List (Option ℕ)). AreByNumber xs rows) (sym longer) (record {
    whole = λ k j at_k. elim (push_cases (take i numbers) o k (Some j) at_k) [
      | inl old ↦ before.whole k j old
      | inr last ↦ let never : Some j ≡ None = sym last.1 ∙ none in cc
    ];
    only = λ j k there. let old = before.only j k there in slice_get-append_left (take i numbers) (o ∷ []) k (slice_get_within (take i numbers) k (Some j) old) ∙ old;
  })

  pub numbers_some : (old new : List (List ℕ)) (key : ℕ) → o ≡ Some key → IsNoted old new key i → AreByNumber (take i numbers) old → AreByNumber (take (i + 1) numbers) new
  numbers_some old new key some noted before = subst (λ (xs : List (Option ℕ)). AreByNumber xs new) (sym longer) (record {
    whole = λ k j at_k. elim (push_cases (take i numbers) o k (Some j) at_k) [
      | inl earlier ↦ noted_kept old new key i noted j k (before.whole k j earlier)
      | inr last ↦
          let both : Some j ≡ Some key = sym last.1 ∙ some in
          let same : j ≡ key = cc in
          let place : k ≡ i = last.0 ∙ long in
          subst (λ z. Contains (row_of new z) k) (sym same) (subst (λ z. Contains (row_of new key) z) (sym place) (subst (λ (z : List ℕ). Contains z i) (sym noted.here) (Contains-append_right (row_of old key) (i ∷ []) i (Contains-here i i [] refl))))
    ];
    only = λ j k there. elim (noted_cases old new key i noted j k there) [
      | inl earlier ↦ let h = before.only j k earlier in slice_get-append_left (take i numbers) (o ∷ []) k (slice_get_within (take i numbers) k (Some j) h) ∙ h
      | inr last ↦ ap (slice_get (take i numbers ++ o ∷ [])) (last.1 ∙ sym long) ∙ slice_get-push (take i numbers) o ∙ ap Some (some ∙ ap Some (sym last.0))
    ];
  })

pub numbers_next : (numbers : List (Option ℕ)) (i : ℕ) (old new : List (List ℕ)) → i < length numbers → IsNotedIf old new (get_or numbers i None) i → AreByNumber (take i numbers) old → AreByNumber (take (i + 1) numbers) new
numbers_next numbers i old new less noted_if before = elim (get_or numbers i None) as (λ (o : Option ℕ). o ≡ get_or numbers i o → IsNotedIf old new o i → AreByNumber (take (i + 1) numbers) new) [
  | None ↦ λ at same. numbers_none numbers i None less at new refl (subst (λ (z : List (List ℕ)). AreByNumber (take i numbers) z) (sym same) before)
  | Some key ↦ λ at noted. numbers_some numbers i (Some key) less at old new key refl noted before
] (get_or_default numbers i None (get_or numbers i None) less) noted_if

-- A value noted at a key.
use Rattle.std.proofs.Common.{◌≡◌, ◌⊎◌, ℕ, zero, suc, ◌==◌, if◌then◌else◌, List, [], ◌∷◌, ◌++◌, take, Contains, sym, ap, ◌∙◌, inl, inr, arith, subst}
use Rattle.std.proofs.lemmas.Bool.{cases_Bool, cases_order, eqb-true, eq-eqb}
use Rattle.std.proofs.lemmas.List.Elements.{Contains-append_left, Contains-append_cases}
use Rattle.tp_base.proofs.Lists.{Contains-only}
use Rattle.tp_base.proofs.Rising.{Contains-none, Contains-cons, Contains-here, Contains-behind}
use Rattle.row_index.specs.Rows.{row_of, IsNoted}

module _ {V : Type 0} (old new : List (List V)) (key : ℕ) (x : V) (noted : IsNoted old new key x) where
  pub noted_kept : (k : ℕ) (y : V) → Contains (row_of old k) y → Contains (row_of new k) y
  noted_kept k y there = elim (cases_order k key) [
    | inl same ↦ subst (λ z. Contains (row_of new z) y) (sym same) (subst (λ (z : List V). Contains z y) (sym noted.here) (Contains-append_left (row_of old key) (x ∷ []) y (subst (λ z. Contains (row_of old z) y) same there)))
    | inr (inl less) ↦ subst (λ (z : List V). Contains z y) (sym (noted.others k (λ e. omega arith))) there
    | inr (inr more) ↦ subst (λ (z : List V). Contains z y) (sym (noted.others k (λ e. omega arith))) there
  ]

  pub noted_cases : (k : ℕ) (y : V) → Contains (row_of new k) y → Contains (row_of old k) y ⊎ ((k ≡ key) × (y ≡ x))
  noted_cases k y there = elim (cases_order k key) [
    | inl same ↦ elim (Contains-append_cases (row_of old key) (x ∷ []) y (subst (λ (z : List V). Contains z y) noted.here (subst (λ z. Contains (row_of new z) y) same there))) [
      | inl before ↦ inl (subst (λ z. Contains (row_of old z) y) (sym same) before)
      | inr now ↦ inr (same, sym (Contains-only x y now))
    ]
    | inr (inl less) ↦ inl (subst (λ (z : List V). Contains z y) (noted.others k (λ e. omega arith)) there)
    | inr (inr more) ↦ inl (subst (λ (z : List V). Contains z y) (noted.others k (λ e. omega arith)) there)
  ]

  -- what stands at any key
  pub noted_at : (k : ℕ) → row_of new k ≡ (if key == k then row_of old key ++ x ∷ [] else row_of old k)
  noted_at k = elim (cases_Bool (key == k)) [
    | inl here ↦ rw here (ap (row_of new) (sym (eqb-true key k here)) ∙ noted.here)
    | inr other ↦ rw other (noted.others k (λ same. let yes = eq-eqb key k (sym same) in cc))
  ]

-- what is among the first is among all
pub Contains-take : {X : Type 0} (xs : List X) (i : ℕ) (x : X) → Contains (take i xs) x → Contains xs x
Contains-take {X} xs zero x there = absurd (Contains-none x there)
Contains-take {X} [] (suc i) x there = there
Contains-take {X} (y ∷ xs) (suc i) x there = elim ((Contains-cons x y (take i xs)).0 there) [
  | inl here ↦ Contains-here x y xs here
  | inr behind ↦ Contains-behind x y xs (Contains-take xs i x behind)
]

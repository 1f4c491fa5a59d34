-- Elements of lists without repeats, and their places.
use Rattle.std.proofs.Common.{◌≡◌, ◌⊎◌, ◌↔◌, ℕ, ◌<◌, ◌==◌, Bool, true, List, [], ◌∷◌, length, fold, Contains, refl, sym, ap, ◌∙◌, subst, inl, inr, arith}
use Rattle.std.specs.Cmp.Derive.{both_true}
use Rattle.std.proofs.lemmas.Bool.{cases_Bool, and_parts, eqb-true, eq-eqb}
use Rattle.std.proofs.lemmas.List.Elements.{Contains-append_left, Contains-push, Contains-push_cases}
use Rattle.tp_base.proofs.Rising.{Contains-here, Contains-behind, Contains-cons, Contains-none}
use Rattle.guard_sem.proofs.SameGuards.{same_guard-sound, same_guard-itself}
use Rattle.guard_simplify.specs.Firsts.{is_among, with_new, different, place_of, same_path}
use Rattle.guard_simplify.specs.Auxiliaries.{Place, same_place, Auxiliary, formula, owner, seen, same_auxiliary}

module _ {X : Type 0} (same : X → X → Bool) (sound : (x y : X) → same x y ≡ true → x ≡ y) (itself : (x : X) → same x x ≡ true) where
  pub among-Contains : (x : X) (xs : List X) → is_among same x xs ≡ true → Contains xs x
  among-Contains x [] e = cc
  among-Contains x (y ∷ xs) e = elim (cases_Bool (same x y)) [
    | inl yes' ↦ Contains-here x y xs (sound x y yes')
    | inr no' ↦ Contains-behind x y xs (among-Contains x xs (rw no' at e))
  ]

  pub Contains-among : (x : X) (xs : List X) → Contains xs x → is_among same x xs ≡ true
  Contains-among x [] is = absurd (Contains-none x is)
  Contains-among x (y ∷ xs) is = elim ((Contains-cons x y xs).0 is) [
    | inl here ↦ let test : same x y ≡ true = subst (λ z. same x z ≡ true) here (itself x) in rw test refl
    | inr behind ↦ elim (cases_Bool (same x y)) [ inl yes' ↦ rw yes' refl | inr no' ↦ rw no' (Contains-among x xs behind) ]
  ]

  -- the same elements
  pub with_new-Contains : (xs : List X) (x y : X) → Contains (with_new same xs x) y → Contains xs y ⊎ (x ≡ y)
  with_new-Contains xs x y is = elim (cases_Bool (is_among same x xs)) [
    | inl yes' ↦ inl (rw yes' at is)
    | inr no' ↦ Contains-push_cases xs x y (rw no' at is)
  ]

  Contains-with_new : (xs : List X) (x y : X) → Contains xs y → Contains (with_new same xs x) y
  Contains-with_new xs x y is = elim (cases_Bool (is_among same x xs)) [
    | inl yes' ↦ rw yes' is
    | inr no' ↦ rw no' (Contains-append_left xs (x ∷ []) y is)
  ]

  pub with_new-there : (xs : List X) (x : X) → Contains (with_new same xs x) x
  with_new-there xs x = elim (cases_Bool (is_among same x xs)) [
    | inl yes' ↦ rw yes' (among-Contains x xs yes')
    | inr no' ↦ rw no' (Contains-push xs x)
  ]

  pub folded-Contains : (xs kept : List X) (y : X) → Contains (fold (with_new same) kept xs) y → Contains kept y ⊎ Contains xs y
  folded-Contains [] kept y is = inl is
  folded-Contains (x ∷ xs) kept y is = elim (folded-Contains xs (with_new same kept x) y is) [
    | inl before ↦ elim (with_new-Contains kept x y before) [ inl old ↦ inl old | inr new ↦ inr (Contains-here y x xs (sym new)) ]
    | inr later ↦ inr (Contains-behind y x xs later)
  ]

  Contains-folded : (xs kept : List X) (y : X) → Contains kept y → Contains (fold (with_new same) kept xs) y
  Contains-folded [] kept y is = is
  Contains-folded (x ∷ xs) kept y is = Contains-folded xs (with_new same kept x) y (Contains-with_new kept x y is)

  pub Contains-folded_list : (xs kept : List X) (y : X) → Contains xs y → Contains (fold (with_new same) kept xs) y
  Contains-folded_list [] kept y is = absurd (Contains-none y is)
  Contains-folded_list (x ∷ xs) kept y is = elim ((Contains-cons y x xs).0 is) [
    | inl here ↦ Contains-folded xs (with_new same kept x) y (subst (λ z. Contains (with_new same kept x) z) (sym here) (with_new-there kept x))
    | inr behind ↦ Contains-folded_list xs (with_new same kept x) y behind
  ]

  pub different-Contains : (xs : List X) (x : X) → Contains (different same xs) x ↔ Contains xs x
  different-Contains xs x = (λ is. elim (folded-Contains xs [] x is) [ inl none ↦ absurd (Contains-none x none) | inr listed ↦ listed ], λ is. Contains-folded_list xs [] x is)

  -- two elements of the list at one place are one
  pub one_place : (xs : List X) (x y : X) → Contains xs x → place_of same x xs ≡ place_of same y xs → x ≡ y
  one_place [] x y is e = absurd (Contains-none x is)
  one_place (z ∷ xs) x y is e = elim (cases_Bool (same x z)) [
    | inl here ↦ elim (cases_Bool (same y z)) [
      | inl here' ↦ sound x z here ∙ sym (sound y z here')
      | inr other' ↦ let e' = rw (here, other') at e in absurd (omega arith)
    ]
    | inr other ↦ elim (cases_Bool (same y z)) [
      | inl here' ↦ let e' = rw (other, here') at e in absurd (omega arith)
      | inr other' ↦ elim ((Contains-cons x z xs).0 is) [
        | inl first ↦ let is_first : same x z ≡ true = ap (same x) (sym first) ∙ itself x in cc
        | inr behind ↦ one_place xs x y behind (let e' = rw (other, other') at e in omega arith)
      ]
    ]
  ]

  pub place_within : (xs : List X) (x : X) → Contains xs x → place_of same x xs < length xs
  place_within [] x is = absurd (Contains-none x is)
  place_within (z ∷ xs) x is = elim (cases_Bool (same x z)) [
    | inl here ↦ rw here (omega arith)
    | inr other ↦ elim ((Contains-cons x z xs).0 is) [
      | inl first ↦ let is_first : same x z ≡ true = ap (same x) (sym first) ∙ itself x in absurd (cc)
      | inr behind ↦ rw other (let rest = place_within xs x behind in omega arith)
    ]
  ]

pub same_path-sound : (p q : List ℕ) → same_path p q ≡ true → p ≡ q
same_path-sound [] [] e = refl
same_path-sound [] (m ∷ q) e = cc
same_path-sound (k ∷ p) [] e = cc
same_path-sound (k ∷ p) (m ∷ q) e =
    let parts = and_parts (k == m) (same_path p q) e in
    let first = eqb-true k m parts.0 in
    let rest = same_path-sound p q parts.1 in
    λ i. first i ∷ rest i

pub same_path-itself : (p : List ℕ) → same_path p p ≡ true
same_path-itself [] = refl
same_path-itself (k ∷ p) = both_true (eq-eqb k k refl) (same_path-itself p)

pub same_place-sound : (p q : Place) → same_place p q ≡ true → p ≡ q
same_place-sound p q e =
    let parts = and_parts (p.0 == q.0) (same_path p.1 q.1) e in
    let first = eqb-true p.0 q.0 parts.0 in
    let rest = same_path-sound p.1 q.1 parts.1 in
    λ i. (first i, rest i)

pub same_place-itself : (p : Place) → same_place p p ≡ true
same_place-itself p = both_true (eq-eqb p.0 p.0 refl) (same_path-itself p.1)

pub same_auxiliary-sound : (x y : Auxiliary) → same_auxiliary x y ≡ true → x ≡ y
same_auxiliary-sound (formula g) (formula h) e = ap formula (same_guard-sound g h e)
same_auxiliary-sound (owner p) (owner q) e = ap owner (same_place-sound p q e)
same_auxiliary-sound (seen g) (seen h) e = ap seen (same_guard-sound g h e)
same_auxiliary-sound x y e = cc

pub same_auxiliary-itself : (x : Auxiliary) → same_auxiliary x x ≡ true
same_auxiliary-itself (formula g) = same_guard-itself g
same_auxiliary-itself (owner p) = same_place-itself p
same_auxiliary-itself (seen g) = same_guard-itself g

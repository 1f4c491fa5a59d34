-- How the atoms are numbered one after another.
use Rattle.std.proofs.Common.{◌≡◌, ℕ, suc, ◌+◌, Bool, true, false, List, [], ◌∷◌, ◌++◌, length, map, fold, Contains, refl, sym, ap, ◌∙◌, inl, inr, arith, append_assoc, length-append}
use Rattle.std.proofs.lemmas.Bool.{cases_Bool}
use Rattle.std.proofs.lemmas.List.{length-map}
use Rattle.std.proofs.lemmas.List.Elements.{Contains-append_left, Contains-append_right}
use Rattle.tree_sem.proofs.NodeLemmas.{Contains-map}
use Rattle.tp_base.proofs.Rising.{Contains-cons, Contains-none}
use Rattle.guard_sem.specs.Guards.{Guard, same_guard}
use Rattle.guard_sem.specs.declared.rules.Rule.{Rule}
use Rattle.guard_simplify.specs.Firsts.{is_among, with_new, different, place_of}
use Rattle.guard_simplify.specs.Auxiliaries.{formulas, owners, Place, same_place, Auxiliary, formula, owner, seen, same_auxiliary, auxiliaries}
use Rattle.guard_simplify.specs.Simplified.{atom_for}
use Rattle.guard_simplify.proofs.NumberLemmas.{same_auxiliary-sound, same_auxiliary-itself}

module _ {X : Type 0} (same : X → X → Bool) (sound : (x y : X) → same x y ≡ true → x ≡ y) (itself : (x : X) → same x x ≡ true) where
  -- a list without repeats goes on where more elements come
  pub different-append : (xs ys : List X) → different same (xs ++ ys) ≡ fold (with_new same) (different same xs) ys
  different-append xs ys = folded xs ys []
    where
      folded : (xs ys kept : List X) → fold (with_new same) kept (xs ++ ys) ≡ fold (with_new same) (fold (with_new same) kept xs) ys
      folded [] ys kept = refl
      folded (x ∷ xs) ys kept = folded xs ys (with_new same kept x)

  -- the place of an element in the front of a list
  pub place_front : (xs ys : List X) (x : X) → Contains xs x → place_of same x (xs ++ ys) ≡ place_of same x xs
  place_front [] ys x is = absurd (Contains-none x is)
  place_front (y ∷ xs) ys x is = elim (cases_Bool (same x y)) [
    | inl here ↦ rw here refl
    | inr other ↦ elim ((Contains-cons x y xs).0 is) [
      | inl first ↦ let is_first : same x y ≡ true = ap (same x) (sym first) ∙ itself x in absurd (cc)
      | inr behind ↦ rw other (ap suc (place_front xs ys x behind))
    ]
  ]

  -- the place of a new element at the end
  pub place_new : (xs : List X) (x : X) → is_among same x xs ≡ false → place_of same x (xs ++ x ∷ []) ≡ length xs
  place_new [] x none = rw (itself x) refl
  place_new (y ∷ xs) x none = elim (cases_Bool (same x y)) [
    | inl here ↦ let none' = rw here at none in absurd (cc)
    | inr other ↦ rw other (ap suc (place_new xs x (rw other at none)))
  ]

-- the place of an image, where the tests agree, and behind a front of others
place_map : {X Y : Type 0} (same : X → X → Bool) (same' : Y → Y → Bool) (f : X → Y) → ((x y : X) → same' (f x) (f y) ≡ same x y) → (xs : List X) (x : X) → place_of same' (f x) (map f xs) ≡ place_of same x xs
place_map same same' f agree [] x = refl
place_map same same' f agree (y ∷ xs) x = elim (cases_Bool (same x y)) [
  | inl here ↦ rw (agree x y, here) refl
  | inr other ↦ rw (agree x y, other) (ap suc (place_map same same' f agree xs x))
]

place_behind : {X Y : Type 0} (same' : Y → Y → Bool) (f : X → Y) (y : Y) → ((x : X) → same' y (f x) ≡ false) → (xs : List X) (ys : List Y) → place_of same' y (map f xs ++ ys) ≡ length xs + place_of same' y ys
place_behind same' f y none [] ys = omega arith
place_behind same' f y none (x ∷ xs) ys = rw (none x) (let rest = place_behind same' f y none xs ys in omega arith)

module _ (rules : List Rule) (guards : List Guard) (n : ℕ) where
  abbrev A : List Auxiliary
  A = map formula (formulas rules guards)

  abbrev B : List Auxiliary
  B = map owner (owners rules)

  abbrev C : List Auxiliary
  C = map seen (different same_guard guards)

  -- formulas come first, then owners, then what is seen
  pub atom_for-formula : (g : Guard) → Contains (formulas rules guards) g → atom_for rules guards n (formula g) ≡ n + place_of same_guard g (formulas rules guards)
  atom_for-formula g is =
      let mine = Contains-map formula (formulas rules guards) g is in
      ap (λ k. n + k) (place_front same_auxiliary same_auxiliary-sound same_auxiliary-itself (A ++ B) C (formula g) (Contains-append_left A B (formula g) mine)
      ∙ place_front same_auxiliary same_auxiliary-sound same_auxiliary-itself A B (formula g) mine
      ∙ place_map same_guard same_auxiliary formula (λ x y. refl) (formulas rules guards) g)

  pub atom_for-owner : (p : Place) → Contains (owners rules) p → atom_for rules guards n (owner p) ≡ n + (length (formulas rules guards) + place_of same_place p (owners rules))
  atom_for-owner p is =
      let mine = Contains-map owner (owners rules) p is in
      ap (λ k. n + k) (place_front same_auxiliary same_auxiliary-sound same_auxiliary-itself (A ++ B) C (owner p) (Contains-append_right A B (owner p) mine)
      ∙ place_behind same_auxiliary formula (owner p) (λ x. refl) (formulas rules guards) B
      ∙ ap (λ k. length (formulas rules guards) + k) (place_map same_place same_auxiliary owner (λ x y. refl) (owners rules) p))

  pub atom_for-seen : (g : Guard) → atom_for rules guards n (seen g) ≡ n + (length (formulas rules guards) + (length (owners rules) + place_of same_guard g (different same_guard guards)))
  atom_for-seen g =
      ap (λ k. n + k) (ap (place_of same_auxiliary (seen g)) (append_assoc A B C)
      ∙ place_behind same_auxiliary formula (seen g) (λ x. refl) (formulas rules guards) (B ++ C)
      ∙ ap (λ k. length (formulas rules guards) + k) (place_behind same_auxiliary owner (seen g) (λ x. refl) (owners rules) C
      ∙ ap (λ k. length (owners rules) + k) (place_map same_guard same_auxiliary seen (λ x y. refl) (different same_guard guards) g)))

  -- how many there are
  pub count_auxiliaries : length (auxiliaries rules guards) ≡ length (formulas rules guards) + (length (owners rules) + length (different same_guard guards))
  count_auxiliaries =
      let first : length A ≡ length (formulas rules guards) = length-map (formulas rules guards) formula in
      let second : length B ≡ length (owners rules) = length-map (owners rules) owner in
      let third : length C ≡ length (different same_guard guards) = length-map (different same_guard guards) seen in
      let front : length (A ++ B) ≡ length A + length B = length-append A B in
      let whole : length ((A ++ B) ++ C) ≡ length (A ++ B) + length C = length-append (A ++ B) C in
      omega arith

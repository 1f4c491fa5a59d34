-- The numbers that are given in one pass over rules and guards are those of the definition.
use Rattle.std.proofs.Common.{◌≡◌, ◌⊎◌, ℕ, suc, ◌==◌, Bool, true, List, [], ◌∷◌, ◌++◌, map, fold, All, Contains, refl, sym, ap, ◌∙◌, subst, inl, inr}
use Rattle.std.proofs.lemmas.Bool.{cases_Bool, eqb-true, eq-eqb, false_from_ne_true}
use Rattle.std.proofs.lemmas.List.{map-append}
use Rattle.std.proofs.lemmas.List.Elements.{All-head, All-tail, Contains-push_cases}
use Rattle.tp_base.proofs.Rising.{Contains-here, Contains-behind, Contains-cons, Contains-none}
use Rattle.guard_sem.specs.Guards.{Guard, guards_of, parts, same_guard}
use Rattle.guard_sem.specs.declared.rules.Rule.{Rule}
use Rattle.guard_sem.proofs.SameGuards.{same_guard-sound, same_guard-itself}
use Rattle.guard_simplify.specs.declared.keys.Key.{Key}
use Rattle.guard_simplify.specs.declared.formulas.Formulas.{Formulas}
use Rattle.guard_simplify.specs.Firsts.{is_among, with_new, different, place_of}
use Rattle.guard_simplify.specs.Auxiliaries.{formulas_in, formulas}
use Rattle.guard_simplify.specs.Simplified.{atom_of}
use Rattle.guard_simplify.specs.Law.{IsOver, AreOver, IsRuleOver}
use Rattle.guard_simplify.specs.Keys.{atom_in, HasNumber, HaveNumbers}
use Rattle.guard_simplify.specs.Numbered.{IsTable, AreNumbered, with_all}
use Rattle.guard_simplify.specs.Counted.{IsNumbering}
use Rattle.guard_simplify.proofs.Keyed.{one_number, still_all, numbers_still}
use Rattle.guard_simplify.proofs.NumberedLemmas.{grown, parts-guards_of}
use Rattle.guard_simplify.proofs.KeyRuleLemmas.{same_atom, same_atoms, formulas_numbered}

rules_are_over : (n : ℕ) (rules : List Rule) → All (IsRuleOver n) rules → AreOver n (guards_of (map (λ (r : Rule). r.guard) rules))
rules_are_over n [] over = tt
rules_are_over n (r ∷ rules) over = ((All-head (IsRuleOver n) r rules over).guard, rules_are_over n rules (All-tail (IsRuleOver n) r rules over))

guards_are_over : (n : ℕ) (guards : List Guard) → All (IsOver n) guards → AreOver n (guards_of guards)
guards_are_over n [] over = tt
guards_are_over n (g ∷ guards) over = (All-head (IsOver n) g guards over, guards_are_over n guards (All-tail (IsOver n) g guards over))

each_has : (n : ℕ) (fs guards : List Guard) → HaveNumbers n fs (guards_of guards) → (g : Guard) → Contains guards g → HasNumber n fs g
each_has n fs [] have g is = absurd (Contains-none g is)
each_has n fs (h ∷ guards) have g is = elim ((Contains-cons g h guards).0 is) [
  | inl first ↦ subst (HasNumber n fs) (sym first) have.0
  | inr later ↦ each_has n fs guards have.1 g later
]

pub map_map : {X Y Z : Type 0} (f : X → Y) (g : Y → Z) (xs : List X) → map g (map f xs) ≡ map (λ x. g (f x)) xs
map_map f g [] = refl
map_map f g (x ∷ xs) = ap (λ z. g (f x) ∷ z) (map_map f g xs)

-- elements that are the same one where their images are
module _ {X : Type 0} (same : X → X → Bool) (sound : (x y : X) → same x y ≡ true → x ≡ y) (itself : (x : X) → same x x ≡ true) (f : X → ℕ) where
  same_numbers : (x y : X) → (f x ≡ f y → x ≡ y) → (f x == f y) ≡ same x y
  same_numbers x y one = elim (cases_Bool (same x y)) [
    | inl yes' ↦ eq-eqb (f x) (f y) (ap f (sound x y yes')) ∙ sym yes'
    | inr no' ↦ false_from_ne_true (f x == f y) (λ equal.
        let both = one (eqb-true (f x) (f y) equal) in
        let yes' : same x y ≡ true = ap (same x) (sym both) ∙ itself x in
        absurd (cc)) ∙ sym no'
  ]

  among_numbers : (xs : List X) (x : X) → ((y : X) → Contains xs y → f x ≡ f y → x ≡ y) → is_among (λ (a b : ℕ). a == b) (f x) (map f xs) ≡ is_among same x xs
  among_numbers [] x one = refl
  among_numbers (y ∷ xs) x one = elim (cases_Bool (same x y)) [
    | inl yes' ↦ rw (same_numbers x y (one y (Contains-here y y xs refl)), yes') refl
    | inr no' ↦ rw (same_numbers x y (one y (Contains-here y y xs refl)), no') (among_numbers xs x (λ z is. one z (Contains-behind z y xs is)))
  ]

  pub place_numbers : (xs : List X) (x : X) → ((y : X) → Contains xs y → f x ≡ f y → x ≡ y) → place_of (λ (a b : ℕ). a == b) (f x) (map f xs) ≡ place_of same x xs
  place_numbers [] x one = refl
  place_numbers (y ∷ xs) x one = elim (cases_Bool (same x y)) [
    | inl yes' ↦ rw (same_numbers x y (one y (Contains-here y y xs refl)), yes') refl
    | inr no' ↦ rw (same_numbers x y (one y (Contains-here y y xs refl)), no') (ap suc (place_numbers xs x (λ z is. one z (Contains-behind z y xs is))))
  ]

  once_numbers : (xs kept : List X) → ((x y : X) → Contains xs x → Contains kept y ⊎ Contains xs y → f x ≡ f y → x ≡ y) → fold (with_new (λ (a b : ℕ). a == b)) (map f kept) (map f xs) ≡ map f (fold (with_new same) kept xs)
  once_numbers [] kept one = refl
  once_numbers (x ∷ xs) kept one =
      let here = Contains-here x x xs refl in
      let test = among_numbers kept x (λ y is. one x y here (inl is)) in
      elim (cases_Bool (is_among same x kept)) [
        | inl yes' ↦
            let entered : with_new (λ (a b : ℕ). a == b) (map f kept) (f x) ≡ map f kept = rw (test, yes') refl in
            let left : kept ≡ with_new same kept x = rw yes' refl in
            ap (λ z. fold (with_new (λ (a b : ℕ). a == b)) z (map f xs)) entered
            ∙ once_numbers xs kept (λ y z is is'. one y z (Contains-behind y x xs is) (elim is' [ inl old ↦ inl old | inr later ↦ inr (Contains-behind z x xs later) ]))
            ∙ ap (λ z. map f (fold (with_new same) z xs)) left
        | inr no' ↦
            let pushed = sym (map-append f kept (x ∷ [])) in
            let entered : with_new (λ (a b : ℕ). a == b) (map f kept) (f x) ≡ map f (kept ++ x ∷ []) = rw (test, no') pushed in
            let left : kept ++ x ∷ [] ≡ with_new same kept x = rw no' refl in
            ap (λ z. fold (with_new (λ (a b : ℕ). a == b)) z (map f xs)) entered
            ∙ once_numbers xs (kept ++ x ∷ []) (λ y z is is'. one y z (Contains-behind y x xs is) (elim is' [
              | inl old ↦ elim (Contains-push_cases kept x z old) [ inl older ↦ inl older | inr new ↦ inr (Contains-here z x xs (sym new)) ]
              | inr later ↦ inr (Contains-behind z x xs later)
            ]))
            ∙ ap (λ z. map f (fold (with_new same) z xs)) left
      ]

module _ (rules : List Rule) (guards : List Guard) (n : ℕ) where
  abbrev fs : List Guard
  fs = formulas rules guards

  abbrev at : Guard → ℕ
  at g = atom_of rules guards n g

  -- guards with numbers are the same one where their atoms are
  pub one_guard : (g h : Guard) → HasNumber n fs g → HasNumber n fs h → at g ≡ at h → g ≡ h
  one_guard g h k k' e = one_number n fs g h k k' (sym (same_atom rules guards n g k) ∙ e ∙ same_atom rules guards n h k')

  pub numbering_is : (mid : List Key) (f : Formulas) → All (IsRuleOver n) rules → All (IsOver n) guards
      → AreNumbered n [] mid (guards_of (map (λ (r : Rule). r.guard) rules)) f.of_rules.items → AreNumbered n mid f.keys.keys (guards_of guards) f.of_guards.items
      → f.seen ≡ different (λ (a b : ℕ). a == b) f.of_guards.items → IsNumbering rules guards n f
  numbering_is mid f rules_over guards_over first second seen' =
      let outer : List Guard = map (λ (r : Rule). r.guard) rules in
      let empty : IsTable n [] [] = record { closed = λ f is. absurd (Contains-none f is); formulas = λ f is. absurd (Contains-none f is); are = refl } in
      let X = with_all [] (formulas_in (guards_of outer)) in
      let before = first [] empty (rules_are_over n rules rules_over) in
      let after = second X before.0 (guards_are_over n guards guards_over) in
      let Y = with_all X (formulas_in (guards_of guards)) in
      let whole : Y ≡ fs = formulas_numbered rules guards in
      let more = grown X (formulas_in (guards_of guards)) in
      let have_rules : HaveNumbers n fs (guards_of outer) = subst (λ z. HaveNumbers n z (guards_of outer)) (sym more.1 ∙ whole) (still_all n X more.0 (guards_of outer) before.2) in
      let have_guards : HaveNumbers n fs (guards_of guards) = subst (λ z. HaveNumbers n z (guards_of guards)) whole after.2 in
      let of_rules' : f.of_rules.items ≡ map at outer =
      before.1 ∙ sym (numbers_still n X more.0 (guards_of outer) before.2) ∙ ap (λ z. map (atom_in n z) (parts (guards_of outer))) (sym more.1 ∙ whole)
      ∙ sym (same_atoms rules guards n (guards_of outer) have_rules) ∙ ap (map at) (parts-guards_of outer) in
      let of_guards' : f.of_guards.items ≡ map at guards =
      after.1 ∙ ap (λ z. map (atom_in n z) (parts (guards_of guards))) whole ∙ sym (same_atoms rules guards n (guards_of guards) have_guards) ∙ ap (map at) (parts-guards_of guards) in
      let known' : (g : Guard) → Contains guards g → HasNumber n fs g = each_has n fs guards have_guards in
      record {
        table = subst (λ z. IsTable n z f.keys.keys) whole after.0;
        of_rules = of_rules' ∙ map_map (λ (r : Rule). r.guard) at rules;
        of_guards = of_guards';
        known_rules = each_has n fs outer have_rules;
        known = known';
        seen =
            seen' ∙ ap (different (λ (a b : ℕ). a == b)) of_guards'
            ∙ once_numbers same_guard same_guard-sound same_guard-itself at guards [] (λ x y is is'. elim is' [
              | inl none ↦ absurd (Contains-none y none)
              | inr listed ↦ one_guard x y (known' x is) (known' y listed)
            ]);
      }

-- What is noted in tables.
use Rattle.std.proofs.Common.{◌≡◌, ℕ, ◌+◌, ◌<◌, true, false, ◌==◌, if◌then◌else◌, List, [], ◌∷◌, ◌++◌, take, length, get_or, slice_get, Some, Contains, refl, sym, ap, subst, ◌∙◌, inl, inr}
use Rattle.std.proofs.lemmas.Bool.{cases_Bool, eqb-true, eq-eqb}
use Rattle.std.proofs.lemmas.List.{take_more}
use Rattle.std.proofs.lemmas.List.Elements.{Contains-append_left, Contains-append_right}
use Rattle.tp_base.proofs.Rising.{Contains-here, Contains-none}
use Rattle.tp_base.proofs.Lists.{take_next}
use Rattle.saturation.specs.Tables.{IsNoted, HasAll}
use Rattle.saturation.proofs.NoteLemmas.{last_cases}

-- one number more for a key
module _ (old new : ℕ → List ℕ) (key number : ℕ) (put : (a : ℕ) → new a ≡ (if key == a then old key ++ number ∷ [] else old a)) where
  at_key : (b : ℕ) → (key == b) ≡ true → new b ≡ old b ++ number ∷ []
  at_key b here = (rw here at (put b)) ∙ ap (λ k. old k ++ number ∷ []) (eqb-true key b here)

  at_other : (b : ℕ) → (key == b) ≡ false → new b ≡ old b
  at_other b other = rw other at (put b)

  pub noted : IsNoted (λ b. key ≡ b) number old new
  noted = record {
    kept = λ b a there. elim (cases_Bool (key == b)) [
      | inl here ↦ subst (λ (ns : List ℕ). Contains ns a) (sym (at_key b here)) (Contains-append_left (old b) (number ∷ []) a there)
      | inr other ↦ subst (λ (ns : List ℕ). Contains ns a) (sym (at_other b other)) there
    ];
    noted = λ b same. subst (λ (ns : List ℕ). Contains ns number) (sym (at_key b (eq-eqb key b same))) (Contains-append_right (old b) (number ∷ []) number (Contains-here number number [] refl));
    only = λ b a there. elim (cases_Bool (key == b)) [
      | inl here ↦ elim (last_cases (old b) number a (subst (λ (ns : List ℕ). Contains ns a) (at_key b here) there)) [
        | inl earlier ↦ inl earlier
        | inr last ↦ inr (eqb-true key b here, last)
      ]
      | inr other ↦ inl (subst (λ (ns : List ℕ). Contains ns a) (at_other b other) there)
    ];
  }

-- one key more
pub noted_none : (number : ℕ) (f : ℕ → List ℕ) (keys : List ℕ) → keys ≡ [] → IsNoted (Contains keys) number f f
noted_none number f keys none = record {
  kept = λ b a there. there;
  noted = λ b there. absurd (Contains-none b (subst (λ (ks : List ℕ). Contains ks b) none there));
  only = λ b a there. inl there;
}

pub noted_more : (number : ℕ) (f g h : ℕ → List ℕ) (keys : List ℕ) (key i : ℕ) → slice_get keys i ≡ Some key → IsNoted (Contains (take i keys)) number f g → IsNoted (λ b. key ≡ b) number g h
    → IsNoted (Contains (take (i + 1) keys)) number f h
noted_more number f g h keys key i at before here = record {
  kept = λ b a there. here.kept b a (before.kept b a there);
  noted = λ b there. elim (last_cases (take i keys) key b (subst (λ (ks : List ℕ). Contains ks b) (take_next keys i key at) there)) [
    | inl earlier ↦ here.kept b number (before.noted b earlier)
    | inr last ↦ here.noted b (sym last)
  ];
  only = λ b a there. elim (here.only b a there) [
    | inl earlier ↦ elim (before.only b a earlier) [ inl old ↦ inl old | inr given ↦ inr (longer b (Contains-append_left (take i keys) (key ∷ []) b given.0), given.1) ]
    | inr new ↦ inr (longer b (Contains-append_right (take i keys) (key ∷ []) b (Contains-here b key [] (sym new.0))), new.1)
  ];
}
  where
    longer : (b : ℕ) → Contains (take i keys ++ key ∷ []) b → Contains (take (i + 1) keys) b
    longer b there = subst (λ (ks : List ℕ). Contains ks b) (sym (take_next keys i key at)) there

-- one rule more
pub has_none : {X : Type 0} (keys : X → ℕ → Type 0) (number : X → ℕ) (xs : List X) (f : ℕ → List ℕ) → xs ≡ [] → ((b : ℕ) → f b ≡ []) → HasAll keys number xs f
has_none {X} keys number xs f none empty = record {
  whole = λ x there. absurd (Contains-none x (subst (λ (ys : List X). Contains ys x) none there));
  only = λ b a there. absurd (Contains-none a (subst (λ (ns : List ℕ). Contains ns a) (empty b) there));
}

pub has_more : {X : Type 0} (keys : X → ℕ → Type 0) (number : X → ℕ) (rules : List X) (i : ℕ) (x : X) (old new : ℕ → List ℕ) → i < length rules → x ≡ get_or rules i x
    → HasAll keys number (take i rules) old → IsNoted (keys x) (number x) old new → HasAll keys number (take (i + 1) rules) new
has_more {X} keys number rules i x old new less at before here =
    let longer : take (i + 1) rules ≡ take i rules ++ x ∷ [] = take_more rules i x less ∙ (λ n. take i rules ++ sym at n ∷ []) in
    subst (λ (ys : List X). HasAll keys number ys new) (sym longer) (record {
      whole = λ y there b key. elim (last_cases (take i rules) x y there) [
        | inl earlier ↦ here.kept b (number y) (before.whole y earlier b key)
        | inr last ↦ subst (λ z. Contains (new b) (number z)) (sym last) (here.noted b (subst (λ z. keys z b) last key))
      ];
      only = λ b a there. elim (here.only b a there) [
        | inl earlier ↦ let old_one = before.only b a earlier in (old_one.0, Contains-append_left (take i rules) (x ∷ []) old_one.0 old_one.1, old_one.2, old_one.3)
        | inr last ↦ (x, Contains-append_right (take i rules) (x ∷ []) x (Contains-here x x [] refl), last.0, last.1)
      ];
    })

-- The members of a label that pass a test, one atom more.
use Rattle.std.proofs.Common.{◌≡◌, ◌↔◌, ℕ, ◌+◌, Bool, true, false, List, [], ◌∷◌, take, slice_get, Some, Contains, sym, ap, subst, ◌∙◌, inl, inr}
use Rattle.std.proofs.lemmas.Bool.{both_ways}
use Rattle.std.proofs.lemmas.List.Elements.{Contains-append_left, Contains-append_right}
use Rattle.tp_base.specs.Classes.{with_class}
use Rattle.tp_base.proofs.ClassLemmas.{Contains-with_class}
use Rattle.tp_base.proofs.Rising.{Contains-here, Contains-none}
use Rattle.tp_base.proofs.Lists.{take_next}
use Rattle.saturation.proofs.NoteLemmas.{last_cases}

pub members_none : (f : ℕ → Bool) (label : List ℕ) → label ≡ [] → (a : ℕ) → Contains label a ↔ (Contains [] a × (f a ≡ true))
members_none f label none a = (
  λ there. absurd (Contains-none a (subst (λ (xs : List ℕ). Contains xs a) none there)),
  λ both. absurd (Contains-none a both.0),
)

module _ (f : ℕ → Bool) (atoms label : List ℕ) (i atom : ℕ) (at : slice_get atoms i ≡ Some atom) where
  earlier : (a : ℕ) → Contains (take i atoms) a → Contains (take (i + 1) atoms) a
  earlier a there = subst (λ (xs : List ℕ). Contains xs a) (sym (take_next atoms i atom at)) (Contains-append_left (take i atoms) (atom ∷ []) a there)

  here : (a : ℕ) → a ≡ atom → Contains (take (i + 1) atoms) a
  here a same = subst (λ (xs : List ℕ). Contains xs a) (sym (take_next atoms i atom at)) (Contains-append_right (take i atoms) (atom ∷ []) a (Contains-here a atom [] same))

  pub members_kept : f atom ≡ false → ((a : ℕ) → Contains label a ↔ (Contains (take i atoms) a × (f a ≡ true))) → (a : ℕ) → Contains label a ↔ (Contains (take (i + 1) atoms) a × (f a ≡ true))
  members_kept fails before a = (
    λ there. let both = (before a).0 there in (earlier a both.0, both.1),
    λ both. elim (last_cases (take i atoms) atom a (subst (λ (xs : List ℕ). Contains xs a) (take_next atoms i atom at) both.0)) [
      | inl first ↦ (before a).1 (first, both.1)
      | inr last ↦ absurd (both_ways (f a) (ap f last ∙ fails) both.1)
    ],
  )

-- the same, with the atom added
pub members_added : (f : ℕ → Bool) (atoms label more : List ℕ) (i atom : ℕ) → slice_get atoms i ≡ Some atom → f atom ≡ true → more ≡ with_class atom label
    → ((a : ℕ) → Contains label a ↔ (Contains (take i atoms) a × (f a ≡ true))) → (a : ℕ) → Contains more a ↔ (Contains (take (i + 1) atoms) a × (f a ≡ true))
members_added f atoms label more i atom at holds is before a = subst (λ (xs : List ℕ). Contains xs a ↔ (Contains (take (i + 1) atoms) a × (f a ≡ true))) (sym is) (
  λ there. elim ((Contains-with_class atom label a).0 there) [
    | inl new ↦ (here f atoms label i atom at a new, ap f new ∙ holds)
    | inr old ↦ let both = (before a).0 old in (earlier f atoms label i atom at a both.0, both.1)
  ],
  λ both. elim (last_cases (take i atoms) atom a (subst (λ (xs : List ℕ). Contains xs a) (take_next atoms i atom at) both.0)) [
    | inl first ↦ (Contains-with_class atom label a).1 (inr ((before a).1 (first, both.1)))
    | inr last ↦ (Contains-with_class atom label a).1 (inl last)
  ],
)

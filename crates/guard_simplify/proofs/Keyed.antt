-- The numbers of formulas: each has its own, and keeps it where more formulas come.
use Rattle.std.proofs.Common.{◌≡◌, ◌⊎◌, ℕ, ◌+◌, ◌<◌, List, ◌∷◌, ◌++◌, map, Contains, refl, sym, ap, ◌∙◌, inl, inr, arith}
use Rattle.std.proofs.lemmas.List.Elements.{Contains-append_left}
use Rattle.guard_sem.specs.Guards.{Guard, always, atom, all, any, parent, ancestor, child, descendant, somewhere, Guards, no_guards, guard, parts, same_guard}
use Rattle.guard_sem.proofs.SameGuards.{same_guard-sound, same_guard-itself}
use Rattle.guard_simplify.specs.Firsts.{place_of}
use Rattle.guard_simplify.specs.Keys.{atom_in, HasNumber, HaveNumbers, PartsHaveNumbers}
use Rattle.guard_simplify.proofs.NumberLemmas.{one_place}
use Rattle.guard_simplify.proofs.Numbering.{place_front}

module _ (n : ℕ) (fs : List Guard) where
  -- a guard with a number is an atom of the table, or a formula with a place
  either : (g : Guard) → HasNumber n fs g → ((a : ℕ) × (a < n) × (g ≡ atom a)) ⊎ (Contains fs g × (atom_in n fs g ≡ n + place_of same_guard g fs))
  either always h = inr (h, refl)
  either (atom a) h = inl (a, h, refl)
  either (all gs) h = inr (h, refl)
  either (any gs) h = inr (h, refl)
  either (parent g) h = inr (h, refl)
  either (ancestor g) h = inr (h, refl)
  either (child g) h = inr (h, refl)
  either (descendant g) h = inr (h, refl)
  either (somewhere g) h = inr (h, refl)

  pub one_number : (g h : Guard) → HasNumber n fs g → HasNumber n fs h → atom_in n fs g ≡ atom_in n fs h → g ≡ h
  one_number g h k k' same = elim (either g k) [
    | inl (a, less, is) ↦ elim (either h k') [
      | inl (b, less', is') ↦ let one : a ≡ b = sym (ap (atom_in n fs) is) ∙ same ∙ ap (atom_in n fs) is' in is ∙ ap atom one ∙ sym is'
      | inr (there, place) ↦ let one : a ≡ n + place_of same_guard h fs = sym (ap (atom_in n fs) is) ∙ same ∙ place in absurd (omega (arith, one, less))
    ]
    | inr (there, place) ↦ elim (either h k') [
      | inl (b, less', is') ↦ let one : n + place_of same_guard g fs ≡ b = sym place ∙ same ∙ ap (atom_in n fs) is' in absurd (omega (arith, one, less'))
      | inr (there', place') ↦
          let one : n + place_of same_guard g fs ≡ n + place_of same_guard h fs = sym place ∙ same ∙ place' in
          one_place same_guard same_guard-sound same_guard-itself fs g h there (omega (arith, one))
    ]
  ]

  pub one_list : (gs hs : Guards) → HaveNumbers n fs gs → HaveNumbers n fs hs → map (atom_in n fs) (parts gs) ≡ map (atom_in n fs) (parts hs) → gs ≡ hs
  one_list no_guards no_guards k k' same = refl
  one_list no_guards (guard h hs) k k' same = cc
  one_list (guard g gs) no_guards k k' same = cc
  one_list (guard g gs) (guard h hs) k k' same =
      let first : atom_in n fs g ≡ atom_in n fs h = cc in
      let rest : map (atom_in n fs) (parts gs) ≡ map (atom_in n fs) (parts hs) = cc in
      let one = one_number g h k.0 k'.0 first in
      let others = one_list gs hs k.1 k'.1 rest in
      λ i. guard (one i) (others i)

-- more formulas leave the numbers that are given
module _ (n : ℕ) (fs more : List Guard) where
  pub still : (g : Guard) → HasNumber n fs g → HasNumber n (fs ++ more) g
  still always h = Contains-append_left fs more always h
  still (atom a) h = h
  still (all gs) h = Contains-append_left fs more (all gs) h
  still (any gs) h = Contains-append_left fs more (any gs) h
  still (parent g) h = Contains-append_left fs more (parent g) h
  still (ancestor g) h = Contains-append_left fs more (ancestor g) h
  still (child g) h = Contains-append_left fs more (child g) h
  still (descendant g) h = Contains-append_left fs more (descendant g) h
  still (somewhere g) h = Contains-append_left fs more (somewhere g) h

  pub still_all : (gs : Guards) → HaveNumbers n fs gs → HaveNumbers n (fs ++ more) gs
  still_all no_guards h = tt
  still_all (guard g gs) h = (still g h.0, still_all gs h.1)

  pub parts_still : (g : Guard) → PartsHaveNumbers n fs g → PartsHaveNumbers n (fs ++ more) g
  parts_still always h = tt
  parts_still (atom a) h = tt
  parts_still (all gs) h = still_all gs h
  parts_still (any gs) h = still_all gs h
  parts_still (parent g) h = still g h
  parts_still (ancestor g) h = still g h
  parts_still (child g) h = still g h
  parts_still (descendant g) h = still g h
  parts_still (somewhere g) h = still g h

  at_place : (g : Guard) → Contains fs g → n + place_of same_guard g (fs ++ more) ≡ n + place_of same_guard g fs
  at_place g is = ap (λ k. n + k) (place_front same_guard same_guard-sound same_guard-itself fs more g is)

  pub number_still : (g : Guard) → HasNumber n fs g → atom_in n (fs ++ more) g ≡ atom_in n fs g
  number_still always h = at_place always h
  number_still (atom a) h = refl
  number_still (all gs) h = at_place (all gs) h
  number_still (any gs) h = at_place (any gs) h
  number_still (parent g) h = at_place (parent g) h
  number_still (ancestor g) h = at_place (ancestor g) h
  number_still (child g) h = at_place (child g) h
  number_still (descendant g) h = at_place (descendant g) h
  number_still (somewhere g) h = at_place (somewhere g) h

  pub numbers_still : (gs : Guards) → HaveNumbers n fs gs → map (atom_in n (fs ++ more)) (parts gs) ≡ map (atom_in n fs) (parts gs)
  numbers_still no_guards h = refl
  numbers_still (guard g gs) h = let first = number_still g h.0 in let rest = numbers_still gs h.1 in λ i. first i ∷ rest i

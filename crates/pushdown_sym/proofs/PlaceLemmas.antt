-- Places among which are all those of the rules of which something comes.
--     enough_places     what comes of the rules at such places is what comes of all rules
--     makers_more       the places of the rules by kind, with one rule more
--     listed_more       the places of some kinds, with one kind more
--     once_has          the same places in order
use Rattle.std.proofs.Common.{◌≡◌, eqb, nat_cmp, ℕ, suc, ◌+◌, ◌<◌, ◌≤◌, Bool, true, false, nat_eq, List, [], ◌∷◌, ◌++◌, filter, take, length, get_or, slice_get, Some, None, Option, option_map, unwrap_or, Contains, refl, sym, ap, subst, ◌∙◌, arith, inl, inr}
use Rattle.std.specs.List.{flat_map}
use Rattle.std.specs.List.Sorted.{IsStrictlyIncreasing}
use Rattle.std.specs.List.Retain.{IsFiltered, DiffersFromLast}
use Rattle.std.specs.List.Sorted.{IsSorted, IsPermutation}
use Rattle.std.proofs.lemmas.Bool.{cases_Bool, cases_lt}
use Rattle.std.proofs.lemmas.List.{take_more, take_all}
use Rattle.std.proofs.lemmas.List.Elements.{Contains-append_left, Contains-append_right, Contains-append_cases}
use Rattle.std.proofs.lemmas.List.Filters.{dedup_is}
use Rattle.std.proofs.lemmas.List.Sorted.{Contains-permutation}
use Rattle.std.proofs.lemmas.Map.Keys.{IsStrictlyIncreasing-dedup}
use Rattle.std.proofs.lemmas.Option.{slice_get-get_or}
use Rattle.std.proofs.lemmas.List.Kept.{IsStrictlyIncreasing-filter, Contains-dedup_nat}
use Rattle.row_index.specs.Rows.{row_of, IsNoted}
use Rattle.row_index.proofs.RowLemmas.{noted_kept}
use Rattle.tp_base.proofs.Rising.{Contains-here, Contains-cons, Contains-none, All-from_Contains, rises_cons, same_members}
use Rattle.simple_core.specs.declared.rules.Spawn.{Spawn}
use Rattle.simple_core.specs.Givers.{places_from}
use Rattle.simple_core.proofs.Members.{filter-Contains, Contains-filter}
use Rattle.simple_core.proofs.PlaceLemmas.{places_from-Contains, places_from-is}
use Rattle.pushdown_sym.specs.Givers.{of_place}
use Rattle.pushdown_sym.proofs.GiverLemmas.{all_places}

-- ### the places of what passes

module _ {X : Type 0} (passes : X → Bool) where
  rising_places : (k : ℕ) (xs : List X) → IsStrictlyIncreasing (places_from passes k xs)
  rising_places k [] = λ i less. absurd (omega arith)
  rising_places k (y ∷ xs) = elim (cases_Bool (passes y)) [
    | inl here ↦ rw here (rises_cons k (places_from passes (suc k) xs)
        (All-from_Contains (λ n. k < n) (places_from passes (suc k) xs) (λ n there. let r = places_from-is passes (suc k) xs n there in omega (arith, r.1)))
        (rising_places (suc k) xs))
    | inr other ↦ rw other (rising_places (suc k) xs)
  ]

-- ### more places than those

module _ {X Y : Type 0} (f : X → List Y) (passes : X → Bool) (none : (x : X) → passes x ≡ false → f x ≡ []) (xs : List X) where
  abbrev passes_at : ℕ → Bool
  passes_at i = unwrap_or (option_map passes (slice_get xs i)) false

  none_at : (i : ℕ) → passes_at i ≡ false → of_place f xs i ≡ []
  none_at i fails = elim (slice_get xs i) as (λ (o : Option X). unwrap_or (option_map passes o) false ≡ false → unwrap_or (option_map f o) [] ≡ []) [
    | None ↦ λ e. refl
    | Some x ↦ λ e. none x e
  ] fails

  passing : (places : List ℕ) → flat_map (of_place f xs) places ≡ flat_map (of_place f xs) (filter passes_at places)
  passing [] = refl
  passing (i ∷ places) = elim (cases_Bool (passes_at i)) [
    | inl pass ↦ rw pass (ap (λ ys. of_place f xs i ++ ys) (passing places))
    | inr fail ↦ rw fail (ap (λ ys. ys ++ flat_map (of_place f xs) places) (none_at i fail) ∙ passing places)
  ]

  passing_place : (i : ℕ) → passes_at i ≡ true → Contains (places_from passes 0 xs) i
  passing_place i pass = elim (slice_get xs i) as (λ (o : Option X). slice_get xs i ≡ o → unwrap_or (option_map passes o) false ≡ true → Contains (places_from passes 0 xs) i) [
    | None ↦ λ at e. cc
    | Some x ↦ λ at e. let place : 0 + i ≡ i = omega arith in subst (λ n. Contains (places_from passes 0 xs) n) place (places_from-Contains passes 0 xs i x at e)
  ] refl pass

  pub enough_places : (places : List ℕ) → IsStrictlyIncreasing places → ((i : ℕ) (x : X) → slice_get xs i ≡ Some x → passes x ≡ true → Contains places i)
      → flat_map (of_place f xs) places ≡ flat_map f xs
  enough_places places rises whole =
      let all = places_from passes 0 xs in
      let same : filter passes_at places ≡ all = same_members (filter passes_at places) all (IsStrictlyIncreasing-filter passes_at places rises) (rising_places passes 0 xs)
      (All-from_Contains (Contains all) (filter passes_at places) (λ i there. passing_place i (filter-Contains passes_at places i there).1))
      (All-from_Contains (Contains (filter passes_at places)) all (λ i there.
      let r = places_from-is passes 0 xs i there in
      let is : i ≡ r.0 = omega (arith, r.1) in
      let at : slice_get xs i ≡ Some r.2 = ap (λ n. slice_get xs n) is ∙ r.3 in
      Contains-filter passes_at places i (whole i r.2 at r.4) (ap (λ (o : Option X). unwrap_or (option_map passes o) false) at ∙ r.4))) in
      passing places ∙ ap (flat_map (of_place f xs)) same ∙ all_places f passes none xs

-- ### the rules that make a kind

module _ (spawns : List Spawn) (i : ℕ) (spawn : Spawn) (less : i < length spawns) (item : spawn ≡ get_or spawns i spawn) (old new : List (List ℕ)) (noted : IsNoted old new spawn.kind i) where
  had_now : Contains (row_of new spawn.kind) i
  had_now = subst (λ (row : List ℕ). Contains row i) (sym noted.here) (Contains-append_right (row_of old spawn.kind) (i ∷ []) i (Contains-here i i [] refl))

  pub makers_more : ((n : ℕ) (c : Spawn) → n < i → slice_get spawns n ≡ Some c → Contains (row_of old c.kind) n) → (n : ℕ) (c : Spawn) → n < i + 1 → slice_get spawns n ≡ Some c → Contains (row_of new c.kind) n
  makers_more before n c within at = elim (cases_lt n i) [
    | inl earlier ↦ noted_kept old new spawn.kind i noted c.kind n (before n c earlier at)
    | inr later ↦
        let same : n ≡ i = omega (arith, within, later) in
        let here : Some spawn ≡ Some c = sym (slice_get-get_or spawns i spawn less ∙ ap (λ (x : Spawn). Some x) (sym item)) ∙ ap (λ m. slice_get spawns m) (sym same) ∙ at in
        let is : spawn ≡ c = cc in
        subst (λ m. Contains (row_of new c.kind) m) (sym same) (subst (λ (d : Spawn). Contains (row_of new d.kind) i) is had_now)
  ]

module _ (f : ℕ → List ℕ) (kinds : List ℕ) where
  pub listed_more : (i kind : ℕ) → i < length kinds → kind ≡ get_or kinds i kind → (more now new : List ℕ) → more ≡ f kind → new ≡ now ++ more
      → ((j : ℕ) → Contains (take i kinds) j → (n : ℕ) → Contains (f j) n → Contains now n) → (j : ℕ) → Contains (take (i + 1) kinds) j → (n : ℕ) → Contains (f j) n → Contains new n
  listed_more i kind less item more now new are put before j there n at =
      let longer : take (i + 1) kinds ≡ take i kinds ++ kind ∷ [] = take_more kinds i kind less ∙ (λ m. take i kinds ++ sym item m ∷ []) in
      subst (λ (ns : List ℕ). Contains ns n) (sym put) (elim (Contains-append_cases (take i kinds) (kind ∷ []) j (subst (λ (ks : List ℕ). Contains ks j) longer there)) [
        | inl earlier ↦ Contains-append_left now more n (before j earlier n at)
        | inr last ↦ elim ((Contains-cons j kind []).0 last) [
          | inl here ↦ Contains-append_right now more n (subst (λ (ns : List ℕ). Contains ns n) (ap f here ∙ sym are) at)
          | inr none ↦ absurd (Contains-none j none)
        ]
      ])

  pub listed_all : (i : ℕ) (now : List ℕ) → length kinds ≤ i → ((j : ℕ) → Contains (take i kinds) j → (n : ℕ) → Contains (f j) n → Contains now n)
      → (j : ℕ) → Contains kinds j → (n : ℕ) → Contains (f j) n → Contains now n
  listed_all i now past all = subst (λ (ks : List ℕ). (j : ℕ) → Contains ks j → (n : ℕ) → Contains (f j) n → Contains now n) (take_all i kinds past) all

-- ### a list of places in order, each once

module _ (places sorted once : List ℕ) (permuted : IsPermutation places sorted) (filtered : IsFiltered (DiffersFromLast nat_eq) [] sorted once) where
  pub once_rises : IsSorted nat_cmp sorted → IsStrictlyIncreasing once
  once_rises in_order = subst IsStrictlyIncreasing (sym (dedup_is eqb sorted once filtered)) (IsStrictlyIncreasing-dedup sorted in_order)

  pub once_has : (n : ℕ) → Contains places n → Contains once n
  once_has n there = subst (λ (ns : List ℕ). Contains ns n) (sym (dedup_is eqb sorted once filtered)) (Contains-dedup_nat sorted n (Contains-permutation places sorted n permuted there))

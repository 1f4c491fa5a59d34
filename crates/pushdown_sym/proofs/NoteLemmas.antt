-- Places that are noted for kinds.
use Rattle.std.proofs.Common.{◌≡◌, ◌≢◌, ℕ, ◌+◌, ◌<◌, ◌≤◌, true, false, ◌==◌, eqb, if◌then◌else◌, List, [], ◌∷◌, ◌++◌, length, take, get_or, slice_get, Some, Contains, refl, sym, ap, subst, ◌∙◌, arith, inl, inr}
use Rattle.std.specs.List.{list_any}
use Rattle.std.specs.List.Sorted.{IsStrictlyIncreasing}
use Rattle.std.proofs.lemmas.Bool.{cases_Bool, cases_lt, eqb-true, eq-eqb, both_ways}
use Rattle.std.proofs.lemmas.List.{take_more, length_push}
use Rattle.std.proofs.lemmas.List.Elements.{All-contains, Contains-append_left, Contains-append_right, Contains-append_cases}
use Rattle.std.proofs.lemmas.Option.{slice_get_read, slice_get_within, same_Some}
use Rattle.tp_base.proofs.Rising.{Contains-here, Contains-behind, Contains-cons, Contains-none, All-from_Contains, rises_tail, rises_head, rises_cons}
use Rattle.tp_base.proofs.Lists.{any_Contains}
use Rattle.class_diagrams.specs.References.{leaf_reference}
use Rattle.simple_core.specs.declared.rules.Spawn.{Spawn}
use Rattle.row_index.specs.Rows as index
use Rattle.row_index.specs.Rows.{row_of}
use Rattle.pushdown_sym.specs.CellMap.{Entries, place_in, may_have}
use Rattle.pushdown_sym.specs.Givers.{a_few, HaveDoors, IsRow, Grows, IsNoted}
use Rattle.pushdown_sym.proofs.ChildLemmas.{stands_no}

-- ### a row with one place more

none_is : (place : ℕ) (row : List ℕ) → list_any (λ n. n == place) row ≡ false → (n : ℕ) → Contains row n → n ≢ place
none_is place [] none n there = absurd (Contains-none n there)
none_is place (m ∷ row) none n there = elim (cases_Bool (eqb m place)) [
  | inl here ↦ let wrong : true ≡ false = rw here at none in cc
  | inr other ↦ elim ((Contains-cons n m row).0 there) [
    | inl first ↦ λ same. both_ways (eqb m place) other (eq-eqb m place (sym first ∙ same))
    | inr behind ↦ none_is place row (rw other at none) n behind
  ]
]

rises_push : (row : List ℕ) (place : ℕ) → IsStrictlyIncreasing row → ((n : ℕ) → Contains row n → n < place) → IsStrictlyIncreasing (row ++ place ∷ [])
rises_push [] place up below = λ i less. absurd (omega arith)
rises_push (m ∷ row) place up below =
    rises_cons m (row ++ place ∷ [])
    (All-from_Contains (λ n. m < n) (row ++ place ∷ []) (λ n there. elim (Contains-append_cases row (place ∷ []) n there) [
      | inl before ↦ All-contains (λ k. m < k) row n (rises_head m row up) before
      | inr last ↦ elim ((Contains-cons n place []).0 last) [
        | inl here ↦ subst (λ k. m < k) (sym here) (below m (Contains-here m m row refl))
        | inr none ↦ absurd (Contains-none n none)
      ]
    ]))
    (rises_push row place (rises_tail m row up) (λ n there. below n (Contains-behind n m row there)))

same_grows : (place : ℕ) (row : List ℕ) → Grows place row row
same_grows place row = record { row = λ is. is; kept = λ n there. there; longer = omega arith }

push_grows : (place : ℕ) (row : List ℕ) → list_any (λ n. n == place) row ≡ false → Grows place row (row ++ place ∷ [])
push_grows place row none = record {
  row = λ is. record {
    rising = rises_push row place is.rising (λ n there. omega (arith, is.within n there, none_is place row none n there));
    within = λ n there. elim (Contains-append_cases row (place ∷ []) n there) [
      | inl before ↦ is.within n before
      | inr last ↦ elim ((Contains-cons n place []).0 last) [ inl here ↦ omega (arith, here) | inr none ↦ absurd (Contains-none n none) ]
    ];
  };
  kept = λ n there. Contains-append_left row (place ∷ []) n there;
  longer = omega (arith, length_push row place);
}

-- ### a kind more

-- a place that was noted at a key
pub noted_put : (old new : List (List ℕ)) (key place : ℕ) → index.IsNoted old new key place → (j : ℕ) → row_of new j ≡ (if key == j then row_of old key ++ place ∷ [] else row_of old j)
noted_put old new key place noted j = elim (cases_Bool (eqb key j)) [
  | inl here ↦
      let same : key ≡ j = eqb-true key j here in
      rw here (ap (row_of new) (sym same) ∙ noted.here)
  | inr other ↦ rw other (noted.others j (λ same. both_ways (eqb key j) other (eq-eqb key j (sym same))))
]

module _ (kind place : ℕ) (old new : ℕ → List ℕ) where
  pub noted_new : list_any (λ n. n == place) (old kind) ≡ false → ((j : ℕ) → new j ≡ (if kind == j then old kind ++ place ∷ [] else old j)) → IsNoted (kind ∷ []) place old new
  noted_new none put = record {
    each = λ j. elim (cases_Bool (eqb kind j)) [
      | inl here ↦
          let same : kind ≡ j = eqb-true kind j here in
          let more : new j ≡ old kind ++ place ∷ [] = rw here at (put j) in
          subst (λ row. Grows place (old j) row) (sym more) (subst (λ k. Grows place (old k) (old kind ++ place ∷ [])) same (push_grows place (old kind) none))
      | inr other ↦ let kept : new j ≡ old j = rw other at (put j) in subst (λ row. Grows place (old j) row) (sym kept) (same_grows place (old j))
    ];
    noted = λ j there few. elim ((Contains-cons j kind []).0 there) [
      | inl here ↦
          let more : new j ≡ old kind ++ place ∷ [] = rw (eq-eqb kind j (sym here)) at (put j) in
          subst (λ row. Contains row place) (sym more) (Contains-append_right (old kind) (place ∷ []) place (Contains-here place place [] refl))
      | inr none ↦ absurd (Contains-none j none)
    ];
  }

pub noted_old : (kind place : ℕ) (rows : ℕ → List ℕ) → (length (rows kind) ≤ a_few → list_any (λ n. n == place) (rows kind) ≡ true) → IsNoted (kind ∷ []) place rows rows
noted_old kind place rows there = record {
  each = λ j. same_grows place (rows j);
  noted = λ j one few. elim ((Contains-cons j kind []).0 one) [
    | inl here ↦
        let found = any_Contains (λ n. n == place) (rows kind) (there (subst (λ k. length (rows k) ≤ a_few) here few)) in
        subst (λ k. Contains (rows k) place) (sym here) (subst (λ n. Contains (rows kind) n) (eqb-true found.0 place found.2) found.1)
    | inr none ↦ absurd (Contains-none j none)
  ];
}

pub noted_none : (place : ℕ) (rows : ℕ → List ℕ) → IsNoted [] place rows rows
noted_none place rows = record { each = λ j. same_grows place (rows j); noted = λ j there. absurd (Contains-none j there) }

grows_on : (place : ℕ) (old mid new : List ℕ) → Grows place old mid → Grows place mid new → Grows place old new
grows_on place old mid new first second = record {
  row = λ is. second.row (first.row is);
  kept = λ n there. second.kept n (first.kept n there);
  longer = omega (arith, first.longer, second.longer);
}

noted_on : (kinds : List ℕ) (kind place : ℕ) (old mid new : ℕ → List ℕ) → IsNoted kinds place old mid → IsNoted (kind ∷ []) place mid new → IsNoted (kinds ++ kind ∷ []) place old new
noted_on kinds kind place old mid new first second = record {
  each = λ j. grows_on place (old j) (mid j) (new j) (first.each j) (second.each j);
  noted = λ j there few. elim (Contains-append_cases kinds (kind ∷ []) j there) [
    | inl before ↦ (second.each j).kept place (first.noted j before (omega (arith, (second.each j).longer, few)))
    | inr last ↦ second.noted j last few
  ];
}

pub noted_more : (kinds : List ℕ) (i kind place : ℕ) (old mid new : ℕ → List ℕ) → i < length kinds → kind ≡ get_or kinds i kind
    → IsNoted (take i kinds) place old mid → IsNoted (kind ∷ []) place mid new → IsNoted (take (i + 1) kinds) place old new
noted_more kinds i kind place old mid new less item first second =
    let longer : take (i + 1) kinds ≡ take i kinds ++ kind ∷ [] = take_more kinds i kind less ∙ (λ m. take i kinds ++ sym item m ∷ []) in
    subst (λ ks. IsNoted ks place old new) (sym longer) (noted_on (take i kinds) kind place old mid new first second)

-- ### a rule more

-- the rows have the places of the first i rules
pub record AreDoorsTo (spawns : List Spawn) (cells : Entries) (i : ℕ) (rows : ℕ → List ℕ) : Type 0 where
  pub rising : (j : ℕ) → IsStrictlyIncreasing (rows j)
  pub within : (j n : ℕ) → Contains (rows j) n → n < i
  pub whole : (j n : ℕ) (c : Spawn) → n < i → slice_get spawns n ≡ Some c → may_have cells j c.needs ≡ true → length (rows j) ≤ a_few → Contains (rows j) n

module _ (spawns : List Spawn) (cells : Entries) where
  pub doors_start : AreDoorsTo spawns cells 0 (row_of [])
  doors_start = record {
    rising = λ j i less. absurd (omega arith);
    within = λ j n there. absurd (Contains-none n there);
    whole = λ j n c less at may few. absurd (omega arith);
  }

  pub doors_more : (i : ℕ) (spawn : Spawn) (kinds : List ℕ) (old new : ℕ → List ℕ) → i < length spawns → spawn ≡ get_or spawns i spawn
      → ((j : ℕ) → place_in cells j spawn.needs ≢ leaf_reference false → Contains kinds j) → AreDoorsTo spawns cells i old → IsNoted kinds i old new
      → AreDoorsTo spawns cells (i + 1) new
  doors_more i spawn kinds old new less item all before noted =
      let row : (j : ℕ) → IsRow i (new j) =
      λ j. (noted.each j).row (record { rising = before.rising j; within = λ n there. omega (arith, before.within j n there) }) in
      record {
        rising = λ j. (row j).rising;
        within = λ j n there. omega (arith, (row j).within n there);
        whole = λ j n c to at may few. elim (cases_lt n i) [
          | inl earlier ↦ (noted.each j).kept n (before.whole j n c earlier at may (omega (arith, (noted.each j).longer, few)))
          | inr later ↦
              let here : i ≡ n = omega arith in
              let is : Some spawn ≡ Some c = sym (slice_get_read spawns (length spawns) i spawn refl less item) ∙ ap (λ m. slice_get spawns m) here ∙ at in
              let same : spawn ≡ c = same_Some spawn c is in
              let listed : Contains kinds j = all j (λ none. stands_no (place_in cells j spawn.needs) none (subst (λ (x : Spawn). may_have cells j x.needs ≡ true) (sym same) may)) in
              subst (λ m. Contains (new j) m) here (noted.noted j listed few)
        ];
      }

  pub doors_all : (i : ℕ) (rows : List (List ℕ)) → length spawns ≤ i → AreDoorsTo spawns cells i (row_of rows) → HaveDoors spawns cells rows
  doors_all i rows past are = λ j few. record {
    rising = are.rising j;
    whole = λ n c at may. are.whole j n c (omega (arith, slice_get_within spawns n c at, past)) at may few;
  }

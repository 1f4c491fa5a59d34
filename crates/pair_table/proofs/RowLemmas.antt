-- Rows that are found by the hashes of their pairs.
--     row_of_pair              the row that IsRowOf speaks of
use Rattle.std.proofs.Common.{◌≡◌, ◌↔◌, ℕ, ◌+◌, ◌<◌, ◌≤◌, ◌==◌, Bool, false, if◌then◌else◌, List, [], ◌∷◌, ◌++◌, map, take, length, slice_get, Option, Some, None, IsTrue, IsNone, IfSome, unwrap_or, Contains, refl, sym, ap, ◌∙◌, inl, inr, arith, subst}
use Rattle.std.proofs.lemmas.Bool.{cases_Bool, eqb-true, eq-eqb}
use Rattle.std.proofs.lemmas.List.{take_all, length-take, length-map, map-append}
use Rattle.std.proofs.lemmas.List.Elements.{Contains-append_cases, Contains-append_left, Contains-push}
use Rattle.std.proofs.lemmas.Option.{slice_get_within}
use Rattle.tp_base.proofs.Rising.{Contains-none}
use Rattle.tp_base.proofs.Lists.{Contains-at, at_Contains, Contains-only, take_next, map_at, at_map, push_cases, slice_get-take, some_and}
use Rattle.pair_table.specs.Hashes.{hash_of}
use Rattle.pair_table.specs.Rows.{pair_of, IsRowOf, NoneAt, places_in, AreFound}
use Rattle.pair_table.specs.declared.table.Row.{Row}

abbrev Pair : Type 0
Pair = ℕ × List ℕ

-- ---- one row

pub other_kind : {V : Type 0} (r : Row V) (kind : ℕ) (label : List ℕ) → (r.kind ≡ kind → ⊥) → IsTrue false ↔ (pair_of r ≡ (kind, label))
other_kind r kind label other = (λ never. cc, λ same. absurd (other (ap (λ (p : Pair). p.0) same)))

pub same_kind : {V : Type 0} (r : Row V) (kind : ℕ) (label : List ℕ) (b : Bool) → r.kind ≡ kind → IsTrue b ↔ (r.label ≡ label) → IsTrue b ↔ (pair_of r ≡ (kind, label))
same_kind r kind label b kind_is test = (λ is. (λ n. (kind_is n, test.0 is n)), λ same. test.1 (ap (λ (p : Pair). p.1) same))

pub row_there : {V : Type 0} (rows : List (Row V)) (i : ℕ) (r : Row V) (p : Pair) (b : Bool) → slice_get rows i ≡ Some r → IsTrue b ↔ (pair_of r ≡ p) → IsTrue b ↔ (slice_get (map pair_of rows) i ≡ Some p)
row_there rows i r p b at test = (λ is. map_at pair_of rows i r at ∙ ap Some (test.0 is), λ there. test.1 (ap (λ o. unwrap_or o p) (sym (map_at pair_of rows i r at) ∙ there)))

pub no_row : {V : Type 0} (rows : List (Row V)) (i : ℕ) (p : Pair) → slice_get rows i ≡ None → IsTrue false ↔ (slice_get (map pair_of rows) i ≡ Some p)
no_row rows i p none = (
  λ never. cc,
  λ there.
      let r = at_map pair_of rows i p there in
      let never : None ≡ Some r.0 = sym none ∙ r.1 in
      cc,
)

-- ---- some places

pub none_first : (pairs : List Pair) (p : Pair) → NoneAt pairs p []
none_first pairs p = λ i there. absurd (Contains-none i there)

pub none_next : (pairs : List Pair) (p : Pair) (places : List ℕ) (k n : ℕ) → slice_get places k ≡ Some n → (slice_get pairs n ≡ Some p → ⊥) → NoneAt pairs p (take k places) → NoneAt pairs p (take (k + 1) places)
none_next pairs p places k n at other before = λ i there is. elim (Contains-append_cases (take k places) (n ∷ []) i (subst (λ (z : List ℕ). Contains z i) (take_next places k n at) there)) [
  | inl old ↦ before i old is
  | inr last ↦ other (subst (λ z. slice_get pairs z ≡ Some p) (sym (Contains-only n i last)) is)
]

pub none_all : (pairs : List Pair) (p : Pair) (places : List ℕ) (k : ℕ) → length places ≤ k → NoneAt pairs p (take k places) → NoneAt pairs p places
none_all pairs p places k le before = subst (λ (z : List ℕ). NoneAt pairs p z) (take_all k places le) before

-- ---- what is found

pub found_row : {V : Type 0} (rows : List (Row V)) (kind : ℕ) (label : List ℕ) (o : Option ℕ) → IfSome o (λ i. slice_get (map pair_of rows) i ≡ Some (kind, label)) → IfSome o (IsRowOf rows kind label)
found_row rows kind label None there = tt
found_row rows kind label (Some i) there =
    let row = at_map pair_of rows i (kind, label) there in
    rw row.1 row.2

pub found_within : {V : Type 0} (rows : List (Row V)) (p : Pair) (o : Option ℕ) → IfSome o (λ i. slice_get (map pair_of rows) i ≡ Some p) → IfSome o (λ i. i < length rows)
found_within rows p None there = tt
found_within rows p (Some i) there = let row = at_map pair_of rows i p there in slice_get_within rows i row.0 row.1

pub found_none : (pairs : List Pair) (kind : ℕ) (label : List ℕ) (entries : List (ℕ × List ℕ)) (h : ℕ) (places : List ℕ) (o : Option ℕ) → AreFound entries pairs → h ≡ hash_of kind label → places ≡ places_in entries h
    → IfSome o (λ i. slice_get pairs i ≡ Some (kind, label)) → (IsNone o → NoneAt pairs (kind, label) places) → IsNone o ↔ (Contains pairs (kind, label) → ⊥)
found_none pairs kind label entries h places None found hash are there none = (
  λ is in_it.
      let at = at_Contains pairs (kind, label) in_it in
      none refl at.0 (subst (λ (z : List ℕ). Contains z at.0) (sym (are ∙ ap (places_in entries) hash)) (found at.0 (kind, label) at.1)) at.1,
  λ out. refl,
)
found_none pairs kind label entries h places (Some i) found hash are there none = (λ never. cc, λ out. absurd (out (Contains-at pairs i (kind, label) there)))

-- the row that is found
pub row_of_pair : {V : Type 0} (rows : List (Row V)) (kind : ℕ) (label : List ℕ) (i : ℕ) → IsRowOf rows kind label i → (r : Row V) × (slice_get rows i ≡ Some r) × (r.kind ≡ kind) × (r.label ≡ label)
row_of_pair rows kind label i is =
    let row = some_and (slice_get rows i) (λ r. pair_of r ≡ (kind, label)) is in
    (row.0, row.1, ap (λ (p : Pair). p.0) row.2, ap (λ (p : Pair). p.1) row.2)

-- ---- what comes and goes, of a list that has pairs

-- the places of each hash are the same
pub found_same : (old new : List (ℕ × List ℕ)) (pairs : List Pair) → ((k : ℕ) → places_in new k ≡ places_in old k) → AreFound old pairs → AreFound new pairs
found_same old new pairs same found = λ i p at. subst (λ (z : List ℕ). Contains z i) (sym (same (hash_of p.0 p.1))) (found i p at)

module _ (old new : List (ℕ × List ℕ)) (h n : ℕ) (put : (k : ℕ) → places_in new k ≡ (if h == k then places_in old h ++ n ∷ [] else places_in old k)) where
  still_there : (k i : ℕ) → Contains (places_in old k) i → Contains (places_in new k) i
  still_there k i there = elim (cases_Bool (h == k)) [
    | inl here ↦
        let same : h ≡ k = eqb-true h k here in
        let more : places_in new k ≡ places_in old h ++ n ∷ [] = rw here at (put k) in
        subst (λ (z : List ℕ). Contains z i) (sym more) (Contains-append_left (places_in old h) (n ∷ []) i (subst (λ z. Contains (places_in old z) i) (sym same) there))
    | inr other ↦ let kept : places_in new k ≡ places_in old k = rw other at (put k) in subst (λ (z : List ℕ). Contains z i) (sym kept) there
  ]

  there_now : Contains (places_in new h) n
  there_now =
      let more : places_in new h ≡ places_in old h ++ n ∷ [] = rw (eq-eqb h h refl) at (put h) in
      subst (λ (z : List ℕ). Contains z n) (sym more) (Contains-push (places_in old h) n)

  -- a place more
  pub found_more : (pairs : List Pair) → AreFound old pairs → AreFound new pairs
  found_more pairs found = λ i p at. still_there (hash_of p.0 p.1) i (found i p at)

  -- and what stands there
  pub found_push : {A : Type 0} (f : A → Pair) (xs ys : List A) (x : A) → ys ≡ xs ++ x ∷ [] → n ≡ length xs → h ≡ hash_of (f x).0 (f x).1 → AreFound old (map f xs) → AreFound new (map f ys)
  found_push f xs ys x is place hash found = λ i p at.
      let pairs = map f xs in
      let longer : map f ys ≡ pairs ++ f x ∷ [] = ap (map f) is ∙ map-append f xs (x ∷ []) in
      elim (push_cases pairs (f x) i p (subst (λ (z : List Pair). slice_get z i ≡ Some p) longer at)) [
        | inl earlier ↦ found_more pairs found i p earlier
        | inr last ↦
            let here : i ≡ n = last.0 ∙ length-map xs f ∙ sym place in
            let hashed : h ≡ hash_of p.0 p.1 = hash ∙ ap (λ (q : Pair). hash_of q.0 q.1) last.1 in
            subst (λ z. Contains (places_in new z) i) hashed (subst (λ z. Contains (places_in new h) z) (sym here) there_now)
      ]

-- some less
pub found_take : {A : Type 0} (f : A → Pair) (xs : List A) (n : ℕ) (entries : List (ℕ × List ℕ)) → AreFound entries (map f xs) → AreFound entries (map f (take n xs))
found_take f xs n entries found = λ i p at.
    let x = at_map f (take n xs) i p at in
    let here = slice_get_within (take n xs) i x.0 x.1 in
    found i p (map_at f xs i x.0 (sym (slice_get-take xs n i (omega (arith, here, length-take n xs))) ∙ x.1) ∙ ap Some x.2)

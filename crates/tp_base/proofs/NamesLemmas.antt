-- What `with_name` answers, for callers of `intern`.
use Rattle.std.proofs.Common.{◌≡◌, ℕ, ◌<◌, ◌≤◌, true, List, [], ◌∷◌, ◌++◌, length, get_or, slice_get, Contains, Some, None, ◌⊎◌, ◌↔◌, refl, sym, ap, ◌∙◌, subst, inl, inr, arith, rules, length-append, append-nil}
use Rattle.std.specs.Cmp.Derive.{both_true}
use Rattle.std.specs.Str.{bytes_eq}
use Rattle.std.proofs.lemmas.Bool.{and_parts, both_ways, cases_lt, cases_order, le-ltb, lt-ltb}
use Rattle.std.proofs.lemmas.Slice.Eq.{bytes_eq-Decides}
use Rattle.std.proofs.lemmas.Option.{slice_get-get_or, slice_get_within, some_pair_parts}
use Rattle.std.proofs.lemmas.List.Quantifiers.{position-Some}
use Rattle.std.proofs.lemmas.List.Sums.{fails_before_first}
use Rattle.std.specs.List.{position_or_len}
use Rattle.tp_base.specs.declared.atoms.TheConstants.{MOST_ATOMS}
use Rattle.tp_base.specs.contracts.atoms.AtomKind.{the_type}
use Rattle.tp_base.specs.Names.{Named, is_name, place_in, placed, with_name, IsDistinct, IsTable}
use Rattle.tp_base.proofs.Lists.{Contains-at, slice_get-append_left, slice_get-push}
use denote.Enum.Bare.{sameb, same_true, true_same}

-- `is_name` tells whether two names are one
pub is_name-same : (m n : Named) → is_name m n ≡ true → m ≡ n
is_name-same m n h =
    let parts = and_parts (sameb the_type m.0 n.0) (bytes_eq m.1 n.1) h in
    let kind = same_true the_type (search rules) m.0 n.0 parts.0 in
    let text = (bytes_eq-Decides m.1 n.1).0 parts.1 in
    λ i. (kind i, text i)

pub same-is_name : (m n : Named) → m ≡ n → is_name m n ≡ true
same-is_name m n e =
    both_true (true_same the_type m.0 n.0 (ap (λ (x : Named). x.0) e)) ((bytes_eq-Decides m.1 n.1).1 (ap (λ (x : Named). x.1) e))

-- in a list without repeats a name has one place
pub same_place : (ns : List Named) (i j : ℕ) (n : Named) → IsDistinct ns → slice_get ns i ≡ Some n → slice_get ns j ≡ Some n → i ≡ j
same_place ns i j n distinct at_i at_j =
    elim (cases_order i j) [
      | inl same ↦ same
      | inr other ↦ elim other [
        | inl less ↦ absurd (distinct i j less (slice_get_within ns j n at_j) (at_i ∙ sym at_j))
        | inr more ↦ absurd (distinct j i more (slice_get_within ns i n at_i) (at_j ∙ sym at_i))
      ]
    ]

-- and a place has one name
pub same_name : (ns : List Named) (i j : ℕ) (m n : Named) → i ≡ j → slice_get ns i ≡ Some m → slice_get ns j ≡ Some n → m ≡ n
same_name ns i j m n same at_i at_j =
    let both : Some m ≡ Some n = sym at_i ∙ ap (λ k. slice_get ns k) same ∙ at_j in
    cc

module _ (ns : List Named) (n : Named) where
  -- the place of a name has the name
  pub place_in-Some : (i : ℕ) → place_in ns n ≡ Some i → slice_get ns i ≡ Some n
  unfolding place_in
  place_in-Some i e =
      let found = position-Some (is_name n) ns i n e in
      slice_get-get_or ns i n found.0 ∙ ap Some (sym (is_name-same n (get_or ns i n) found.1))

  -- a name with no place is not there
  pub place_in-None : place_in ns n ≡ None → Contains ns n → ⊥
  unfolding place_in
  place_in-None e there =
      let past : length ns ≤ position_or_len (is_name n) ns =
      elim (cases_lt (position_or_len (is_name n) ns) (length ns)) [
        | inl lt ↦ absurd (let some = rw (lt-ltb (position_or_len (is_name n) ns) (length ns) lt) at e in cc)
        | inr ge ↦ ge
      ] in
      both_ways (is_name n (get_or ns there.0 n)) (fails_before_first (is_name n) ns there.0 n (omega (arith, there.1))) (same-is_name n (get_or ns there.0 n) (sym there.2))

  -- what `with_name` answers: the place of a name that is there, or else the end, where there is room
  pub with_name-Some : (a : ℕ) (ms : List Named) → with_name ns n ≡ Some (a, ms)
      → ((slice_get ns a ≡ Some n) × (ms ≡ ns)) ⊎ ((Contains ns n → ⊥) × (length ns < MOST_ATOMS) × (a ≡ length ns) × (ms ≡ ns ++ n ∷ []))
  unfolding with_name
  with_name-Some a ms e =
      elim (place_in ns n) as (λ o. place_in ns n ≡ o → placed o ns n ≡ Some (a, ms) → ((slice_get ns a ≡ Some n) × (ms ≡ ns)) ⊎ ((Contains ns n → ⊥) × (length ns < MOST_ATOMS) × (a ≡ length ns) × (ms ≡ ns ++ n ∷ []))) [
        | Some i ↦ λ found is.
            let same = some_pair_parts i a ns ms is in
            inl (subst (λ k. slice_get ns k ≡ Some n) same.0 (place_in-Some i found), sym same.1)
        | None ↦ λ none is.
            elim (cases_lt (length ns) MOST_ATOMS) [
              | inl room ↦
                  let same = some_pair_parts (length ns) a (ns ++ n ∷ []) ms (rw (lt-ltb (length ns) MOST_ATOMS room) at is) in
                  inr (place_in-None none, room, sym same.0, sym same.1)
              | inr full ↦ absurd (let none_some = rw (le-ltb (length ns) MOST_ATOMS full) at is in cc)
            ]
      ] refl e

  -- it refuses exactly a new name where there is no room
  pub with_name-None : with_name ns n ≡ None ↔ ((Contains ns n → ⊥) × (MOST_ATOMS ≤ length ns))
  unfolding with_name
  with_name-None =
      elim (place_in ns n) as (λ o. place_in ns n ≡ o → placed o ns n ≡ None ↔ ((Contains ns n → ⊥) × (MOST_ATOMS ≤ length ns))) [
        | Some i ↦ λ found. (λ is. absurd cc, λ new. absurd (new.0 (Contains-at ns i n (place_in-Some i found))))
        | None ↦ λ none. (
          λ is. elim (cases_lt (length ns) MOST_ATOMS) [
            | inl room ↦ absurd (let some_none = rw (lt-ltb (length ns) MOST_ATOMS room) at is in cc)
            | inr full ↦ (place_in-None none, full)
          ],
          λ new. rw (le-ltb (length ns) MOST_ATOMS new.1) refl,
        )
      ] refl

  -- a name that is there has its place, and the list stays
  pub with_name-there : (a : ℕ) → IsDistinct ns → slice_get ns a ≡ Some n → with_name ns n ≡ Some (a, ns)
  unfolding with_name
  with_name-there a distinct at =
      elim (place_in ns n) as (λ o. place_in ns n ≡ o → placed o ns n ≡ Some (a, ns)) [
        | Some i ↦ λ found. ap (λ k. Some (k, ns)) (same_place ns i a n distinct (place_in-Some i found) at)
        | None ↦ λ none. absurd (place_in-None none (Contains-at ns a n at))
      ] refl

  -- a new name goes last, where there is room
  pub with_name-new : (Contains ns n → ⊥) → length ns < MOST_ATOMS → with_name ns n ≡ Some (length ns, ns ++ n ∷ [])
  unfolding with_name
  with_name-new new room =
      elim (place_in ns n) as (λ o. place_in ns n ≡ o → placed o ns n ≡ Some (length ns, ns ++ n ∷ [])) [
        | Some i ↦ λ found. absurd (new (Contains-at ns i n (place_in-Some i found)))
        | None ↦ λ none. rw (lt-ltb (length ns) MOST_ATOMS room) refl
      ] refl

-- a list stays without repeats as a new name goes last
pub IsDistinct-push : (ns : List Named) (n : Named) → IsDistinct ns → (Contains ns n → ⊥) → IsDistinct (ns ++ n ∷ [])
IsDistinct-push ns n distinct new i j below within same =
    let len = length-append ns (n ∷ []) in
    let at : slice_get (ns ++ n ∷ []) i ≡ slice_get ns i = slice_get-append_left ns (n ∷ []) i (omega arith) in
    elim (cases_lt j (length ns)) [
      | inl lt ↦ distinct i j below lt (sym at ∙ same ∙ slice_get-append_left ns (n ∷ []) j lt)
      | inr ge ↦ new (Contains-at ns i n (sym at ∙ same ∙ subst (λ q. slice_get (ns ++ n ∷ []) q ≡ Some n) {x = length ns} (omega arith) (slice_get-push ns n)))
    ]

-- what follows from an answer of `with_name`
module _ (ns : List Named) (n : Named) (a : ℕ) (ms : List Named) (is : with_name ns n ≡ Some (a, ms)) where
  -- the old list is the front of the new one
  pub with_name-front : (more : List Named) × (ms ≡ ns ++ more)
  with_name-front = elim (with_name-Some ns n a ms is) [
    | inl there ↦ ([], there.1 ∙ sym (append-nil ns))
    | inr new ↦ (n ∷ [], new.3)
  ]

  -- each name keeps its place
  pub with_name-keeps : (i : ℕ) (m : Named) → slice_get ns i ≡ Some m → slice_get ms i ≡ Some m
  with_name-keeps i m at =
      let front = with_name-front in
      rw (front.1, slice_get-append_left ns front.0 i (slice_get_within ns i m at)) at

  -- the name is at its place
  pub with_name-at : slice_get ms a ≡ Some n
  with_name-at = elim (with_name-Some ns n a ms is) [
    | inl there ↦ rw (there.1) (there.0)
    | inr new ↦ rw (new.2, new.3) (slice_get-push ns n)
  ]

  pub with_name-below : a < length ms
  with_name-below = slice_get_within ms a n with_name-at

  pub with_name-longer : length ns ≤ length ms
  with_name-longer = let front = with_name-front in rw (front.1) (omega (arith, length-append ns front.0))

  pub with_name-distinct : IsDistinct ns → IsDistinct ms
  with_name-distinct distinct = elim (with_name-Some ns n a ms is) [
    | inl there ↦ rw (there.1) distinct
    | inr new ↦ rw (new.3) (IsDistinct-push ns n distinct (new.0))
  ]

  pub with_name-in_limit : length ns ≤ MOST_ATOMS → length ms ≤ MOST_ATOMS
  with_name-in_limit few = elim (with_name-Some ns n a ms is) [
    | inl there ↦ rw (there.1) few
    | inr new ↦ rw (new.3) (omega (arith, length-append ns (n ∷ []), new.1))
  ]

  pub with_name-below_limit : length ns ≤ MOST_ATOMS → a < MOST_ATOMS
  with_name-below_limit few = let within = with_name-below in let limit = with_name-in_limit few in omega arith

  pub with_name-IsTable : IsTable ns → IsTable ms
  with_name-IsTable table = record {
    distinct = with_name-distinct table.distinct;
    in_limit = with_name-in_limit table.in_limit;
  }

  -- and is answered again, also where more names have come
  pub with_name-again : (more : List Named) → IsDistinct (ms ++ more) → with_name (ms ++ more) n ≡ Some (a, ms ++ more)
  with_name-again more distinct =
      with_name-there (ms ++ more) n a distinct (slice_get-append_left ms more a with_name-below ∙ with_name-at)

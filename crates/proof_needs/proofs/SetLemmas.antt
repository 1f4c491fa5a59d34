-- Lists without repeats that grow at their ends.
--     with_itself, with_pushed    a list with what it has, and with one element more
--     with_then                   two steps are one
--     insert_with                 a key that is inserted, as what is seen of the keys
--     some_of, some_then          a list with some of what another one would have
use Rattle.std.proofs.Common.{◌≡◌, ◌⊎◌, ℕ, zero, suc, ◌+◌, ◌<◌, ◌≤◌, Bool, true, false, if◌then◌else◌, List, [], ◌∷◌, ◌++◌, length, map, take, drop, Contains, Some, slice_get, get_or, inl, inr, refl, sym, ap, ◌∙◌, subst, arith}
use Rattle.std.specs.List.{list_any}
use Rattle.std.proofs.lemmas.Bool.{or_parts}
use Rattle.std.proofs.lemmas.List.{map-append, take_more, take_all, take-append-drop}
use Rattle.std.proofs.lemmas.List.Elements.{Contains-append_cases, Contains-append_left, Contains-append_right}
use Rattle.std.proofs.lemmas.Option.{slice_get_within, get_or_from_slice_get}
use Rattle.indexmap.specs.IndexSet.{insert_key}
use Rattle.tree_sem.proofs.NodeLemmas.{Contains-map, map-Contains}
use Rattle.tp_base.proofs.Rising.{Contains-none}
use Rattle.tp_base.proofs.Lists.{Contains-at, at_Contains, any_Contains, Contains-only}
use Rattle.proof_needs.specs.Sets.{AreDistinct, IsMore, IsWith, IsWithSome}

pub more_then : {X : Type 0} (a b c : List X) → IsMore a b → IsMore b c → IsMore a c
more_then a b c first second i x at = second i x (first i x at)

pub more_pushed : {X : Type 0} (xs : List X) (x : X) → IsMore xs (xs ++ x ∷ [])
more_pushed [] x i y at = cc
more_pushed (z ∷ xs) x zero y at = at
more_pushed (z ∷ xs) x (suc i) y at = more_pushed xs x i y at

-- where the longer list has an element: in the old part, or at the end
pushed_at : {X : Type 0} (xs : List X) (x : X) (i : ℕ) (y : X) → slice_get (xs ++ x ∷ []) i ≡ Some y → (slice_get xs i ≡ Some y) ⊎ ((i ≡ length xs) × (y ≡ x))
pushed_at [] x zero y at = inr (refl, let same : x ≡ y = cc in sym same)
pushed_at [] x (suc i) y at = cc
pushed_at (z ∷ xs) x zero y at = inl at
pushed_at (z ∷ xs) x (suc i) y at = elim (pushed_at xs x i y at) [
  | inl old ↦ inl old
  | inr (place, same) ↦ inr (ap suc place, same)
]

pub distinct_pushed : {X : Type 0} (xs : List X) (x : X) → (Contains xs x → ⊥) → AreDistinct xs → AreDistinct (xs ++ x ∷ [])
distinct_pushed xs x new distinct i j y at at' = elim (pushed_at xs x i y at) [
  | inl first ↦ elim (pushed_at xs x j y at') [
    | inl second ↦ distinct i j y first second
    | inr (place, same) ↦ absurd (new (subst (Contains xs) same (Contains-at xs i y first)))
  ]
  | inr (place, same) ↦ elim (pushed_at xs x j y at') [
    | inl second ↦ absurd (new (subst (Contains xs) same (Contains-at xs j y second)))
    | inr (place', same') ↦ place ∙ sym place'
  ]
]

pub with_nothing : {X : Type 0} (xs : List X) (P : X → Type 0) → ((x : X) → P x → ⊥) → IsWith xs P xs
with_nothing xs P none = record { more = λ i x at. at; within = λ x is. inl is; all = λ x p. absurd (none x p); distinct = λ d. d }

pub with_itself : {X : Type 0} (xs : List X) (x : X) → Contains xs x → IsWith xs (λ y. y ≡ x) xs
with_itself xs x there = record { more = λ i y at. at; within = λ y is. inl is; all = λ y same. subst (Contains xs) (sym same) there; distinct = λ d. d }

pub with_pushed : {X : Type 0} (xs : List X) (x : X) → (Contains xs x → ⊥) → IsWith xs (λ y. y ≡ x) (xs ++ x ∷ [])
with_pushed xs x new = record {
  more = more_pushed xs x;
  within = λ y is. elim (Contains-append_cases xs (x ∷ []) y is) [
    | inl old ↦ inl old
    | inr last ↦ inr (sym (Contains-only x y last))
  ];
  all = λ y same. subst (Contains (xs ++ x ∷ [])) (sym same) (Contains-append_right xs (x ∷ []) x (0, omega arith, refl));
  distinct = distinct_pushed xs x new;
}

pub more_Contains : {X : Type 0} (xs ys : List X) → IsMore xs ys → (x : X) → Contains xs x → Contains ys x
more_Contains xs ys more x is = let at = at_Contains xs x is in Contains-at ys at.0 x (more at.0 x at.1)

pub with_then : {X : Type 0} (P Q : X → Type 0) (a b c : List X) → IsWith a P b → IsWith b Q c → IsWith a (λ x. P x ⊎ Q x) c
with_then P Q a b c first second = record {
  more = more_then a b c first.more second.more;
  within = λ x is. elim (second.within x is) [
    | inl old ↦ elim (first.within x old) [
      | inl there ↦ inl there
      | inr p ↦ inr (inl p)
    ]
    | inr q ↦ inr (inr q)
  ];
  all = λ x either. elim either [
    | inl p ↦ more_Contains b c second.more x (first.all x p)
    | inr q ↦ second.all x q
  ];
  distinct = λ d. second.distinct (first.distinct d);
}

pub with_same : {X : Type 0} (P Q : X → Type 0) (a b : List X) → ((x : X) → P x → Q x) → ((x : X) → Q x → P x) → IsWith a P b → IsWith a Q b
with_same P Q a b to from is = record {
  more = is.more;
  within = λ x there. elim (is.within x there) [
    | inl old ↦ inl old
    | inr p ↦ inr (to x p)
  ];
  all = λ x q. is.all x (from x q);
  distinct = is.distinct;
}

-- what has all of it has some of it
pub some_of : {X : Type 0} (P : X → Type 0) (a b : List X) → IsWith a P b → IsWithSome a P b
some_of P a b is = record { more = is.more; within = is.within; distinct = is.distinct }

pub some_none : {X : Type 0} (P : X → Type 0) (a b : List X) → b ≡ a → IsWithSome a P b
some_none {X} P a b same = subst (IsWithSome a P) (sym same) (record { more = λ i x at. at; within = λ x is. inl is; distinct = λ d. d })

pub some_then : {X : Type 0} (P Q : X → Type 0) (a b c : List X) → IsWith a P b → IsWithSome b Q c → IsWithSome a (λ x. P x ⊎ Q x) c
some_then P Q a b c first second = record {
  more = more_then a b c first.more second.more;
  within = λ x is. elim (second.within x is) [
    | inl old ↦ elim (first.within x old) [
      | inl there ↦ inl there
      | inr p ↦ inr (inl p)
    ]
    | inr q ↦ inr (inr q)
  ];
  distinct = λ d. second.distinct (first.distinct d);
}

pub some_such : {X : Type 0} (P Q : X → Type 0) (a b : List X) → ((x : X) → P x → Q x) → IsWithSome a P b → IsWithSome a Q b
some_such P Q a b to is = record {
  more = is.more;
  within = λ x there. elim (is.within x there) [
    | inl old ↦ inl old
    | inr p ↦ inr (to x p)
  ];
  distinct = is.distinct;
}

none_there : {X : Type 0} (p : X → Bool) (xs : List X) → list_any p xs ≡ false → (x : X) → Contains xs x → p x ≡ true → ⊥
none_there p [] none x is pass = Contains-none x is
none_there p (y ∷ xs) none x (zero, within, at) pass = let both : true ≡ false = sym pass ∙ ap p (sym at) ∙ (or_parts (p y) (list_any p xs) none).0 in cc
none_there p (y ∷ xs) none x (suc k, within, at) pass = none_there p xs (or_parts (p y) (list_any p xs) none).1 x (k, omega arith, at) pass

-- keys by what is seen of them, where equal keys are those of which the same is seen
module _ {K X : Type 0} (eq : K → K → Bool) (f : K → X) (sound : (k l : K) → eq k l ≡ true → f k ≡ f l) (same : (k l : K) → f k ≡ f l → eq k l ≡ true) where
  pub insert_with : (ks : List K) (k : K) → IsWith (map f ks) (λ x. x ≡ f k) (map f (insert_key eq ks k))
  insert_with ks k = elim (list_any (eq k) ks) as (λ b. list_any (eq k) ks ≡ b → IsWith (map f ks) (λ x. x ≡ f k) (map f (if b then ks else ks ++ k ∷ []))) [
    | true ↦ λ any.
        let r = any_Contains (eq k) ks any in
        with_itself (map f ks) (f k) (subst (Contains (map f ks)) (sym (sound k r.0 r.2)) (Contains-map f ks r.0 r.1))
    | false ↦ λ none.
        let new : Contains (map f ks) (f k) → ⊥ = λ is. let m = map-Contains f ks (f k) is in none_there (eq k) ks none m.0 m.1 (same k m.0 m.2) in
        subst (IsWith (map f ks) (λ x. x ≡ f k)) (sym (map-append f ks (k ∷ []))) (with_pushed (map f ks) (f k) new)
  ] refl

map_itself : {X : Type 0} (xs : List X) → map (λ (x : X). x) xs ≡ xs
map_itself [] = refl
map_itself (x ∷ xs) = ap (λ ys. x ∷ ys) (map_itself xs)

pub inserted : {X : Type 0} (eq : X → X → Bool) → ((x y : X) → eq x y ≡ true → x ≡ y) → ((x y : X) → x ≡ y → eq x y ≡ true) → (xs : List X) (x : X) → IsWith xs (λ y. y ≡ x) (insert_key eq xs x)
inserted {X} eq sound same xs x = subst2 (λ old new. IsWith old (λ y. y ≡ x) new) (map_itself xs) (map_itself (insert_key eq xs x)) (insert_with eq (λ (y : X). y) sound same xs x)
  where
    subst2 : (P : List X → List X → Type 0) {a b c d : List X} → a ≡ b → c ≡ d → P a c → P b d
    subst2 P {a} {b} {c} {d} first second is = subst (P b) second (subst (λ z. P z c) first is)

-- what is made of the elements of a list, one after the other
module _ {X Y : Type 0} (f : Y → X) (ys : List Y) (a : List X) where
  abbrev pub IsOf : List Y → X → Type 0
  IsOf zs x = (y : Y) × Contains zs y × (x ≡ f y)

  pub each_start : IsWith a (IsOf (take 0 ys)) a
  each_start = with_nothing a (IsOf []) (λ x of. Contains-none of.0 of.1)

  pub each_more : (i : ℕ) (d : Y) (b c : List X) → i < length ys → IsWith a (IsOf (take i ys)) b → IsWith b (λ x. x ≡ f (get_or ys i d)) c → IsWith a (IsOf (take (i + 1) ys)) c
  each_more i d b c less before step =
      let y = get_or ys i d in
      let longer : take (i + 1) ys ≡ take i ys ++ y ∷ [] = take_more ys i d less in
      subst (λ zs. IsWith a (IsOf zs) c) (sym longer)
      (with_same (λ x. IsOf (take i ys) x ⊎ (x ≡ f y)) (IsOf (take i ys ++ y ∷ [])) a c
      (λ x either. elim either [
        | inl of ↦ (of.0, Contains-append_left (take i ys) (y ∷ []) of.0 of.1, of.2)
        | inr same ↦ (y, Contains-append_right (take i ys) (y ∷ []) y (0, omega arith, refl), same)
      ])
      (λ x of. elim (Contains-append_cases (take i ys) (y ∷ []) of.0 of.1) [
        | inl old ↦ inl (of.0, old, of.2)
        | inr last ↦ inr (of.2 ∙ ap f (sym (Contains-only y of.0 last)))
      ])
      (with_then (IsOf (take i ys)) (λ x. x ≡ f y) a b c before step))

  pub each_next : (i : ℕ) (y : Y) (b c : List X) → slice_get ys i ≡ Some y → IsWith a (IsOf (take i ys)) b → IsWith b (λ x. x ≡ f y) c → IsWith a (IsOf (take (i + 1) ys)) c
  each_next i y b c at before step =
      let less = slice_get_within ys i y at in
      let same : y ≡ get_or ys i y = sym (get_or_from_slice_get ys i y y at) in
      each_more i y b c less before (subst (λ z. IsWith b (λ x. x ≡ f z) c) same step)

  pub each_whole : (i : ℕ) (b : List X) → length ys ≤ i → IsWith a (IsOf (take i ys)) b → IsWith a (IsOf ys) b
  each_whole i b past is = subst (λ zs. IsWith a (IsOf zs) b) (take_all i ys past) is

  -- the next of them wasn't added
  pub each_some : (i : ℕ) (b c : List X) → IsWith a (IsOf (take i ys)) b → c ≡ b → IsWithSome a (IsOf ys) c
  each_some i b c before same =
      subst (IsWithSome a (IsOf ys)) (sym same) (some_such (IsOf (take i ys)) (IsOf ys) a b
      (λ x of. (of.0, subst (λ zs. Contains zs of.0) (take-append-drop i ys) (Contains-append_left (take i ys) (drop i ys) of.0 of.1), of.2)) (some_of (IsOf (take i ys)) a b before))

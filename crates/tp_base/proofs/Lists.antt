-- Lists: what stands at which place, and what is in a list that was taken apart, mapped or filtered.
use Rattle.std.proofs.Common.{◌≡◌, ◌≢◌, ◌⊎◌, ℕ, zero, suc, ◌+◌, ◌<◌, ◌≤◌, Bool, true, false, List, [], ◌∷◌, ◌++◌, length, map, take, drop, Contains, Option, Some, None, IsSome, IsNone, IsSomeAnd, slice_get, refl, sym, ap, ◌∙◌, subst, inl, inr, arith, length-append, reverse}
use Rattle.std.specs.List.{flat_map, list_any, range_with_len}
use Rattle.std.specs.Str.{bytes_eq}
use Rattle.std.proofs.lemmas.Bool.{or_cases, or_left, or_right}
use Rattle.std.proofs.lemmas.Slice.Eq.{bytes_eq-Decides}
use Rattle.std.proofs.lemmas.List.Elements.{Contains-append_left, Contains-append_right, Contains-append_cases}
use Rattle.std.proofs.lemmas.Option.{slice_get-get_or, slice_get_within, get_or_from_slice_get}
use Rattle.std.proofs.lemmas.List.{reverse-append}
use Rattle.tp_base.proofs.Rising.{Contains-here, Contains-behind, Contains-cons, Contains-none}

-- ---- what stands at a place

pub Contains-at : {X : Type 0} (xs : List X) (i : ℕ) (x : X) → slice_get xs i ≡ Some x → Contains xs x
Contains-at xs i x e = (i, slice_get_within xs i x e, get_or_from_slice_get xs i x x e)

pub at_Contains : {X : Type 0} (xs : List X) (x : X) → Contains xs x → (i : ℕ) × (slice_get xs i ≡ Some x)
at_Contains xs x there = (there.0, slice_get-get_or xs there.0 x there.1 ∙ ap Some there.2)

pub element_at : {X : Type 0} (xs : List X) (i : ℕ) → i < length xs → (x : X) × (slice_get xs i ≡ Some x)
element_at [] i less = absurd (omega arith)
element_at (x ∷ xs) zero less = (x, refl)
element_at (x ∷ xs) (suc i) less = element_at xs i (omega arith)

pub past_end : {X : Type 0} (xs : List X) (i : ℕ) → slice_get xs i ≡ None → length xs ≤ i
past_end [] i at = omega arith
past_end (x ∷ xs) zero at = cc
past_end (x ∷ xs) (suc i) at = omega (arith, past_end xs i at)

pub slice_get-append_left : {X : Type 0} (xs ys : List X) (i : ℕ) → i < length xs → slice_get (xs ++ ys) i ≡ slice_get xs i
slice_get-append_left [] ys i h = absurd (omega arith)
slice_get-append_left (x ∷ xs) ys zero h = refl
slice_get-append_left (x ∷ xs) ys (suc i) h = slice_get-append_left xs ys i (omega arith)

pub slice_get-take : {X : Type 0} (xs : List X) (n i : ℕ) → i < n → slice_get (take n xs) i ≡ slice_get xs i
slice_get-take xs zero i less = absurd (omega arith)
slice_get-take [] (suc n) i less = refl
slice_get-take (x ∷ xs) (suc n) zero less = refl
slice_get-take (x ∷ xs) (suc n) (suc i) less = slice_get-take xs n i (omega arith)

pub map_at : {X Y : Type 0} (f : X → Y) (xs : List X) (i : ℕ) (x : X) → slice_get xs i ≡ Some x → slice_get (map f xs) i ≡ Some (f x)
map_at f [] i x at = cc
map_at f (y ∷ xs) zero x at = let same : y ≡ x = cc in ap (λ z. Some (f z)) same
map_at f (y ∷ xs) (suc i) x at = map_at f xs i x at

pub at_map : {X Y : Type 0} (f : X → Y) (xs : List X) (i : ℕ) (y : Y) → slice_get (map f xs) i ≡ Some y → (x : X) × (slice_get xs i ≡ Some x) × (f x ≡ y)
at_map f [] i y at = cc
at_map f (x ∷ xs) zero y at = (x, refl, let same : f x ≡ y = cc in same)
at_map f (x ∷ xs) (suc i) y at = at_map f xs i y at

-- ---- a list with one element more, and a list up to a place and from it on

pub slice_get-push : {X : Type 0} (xs : List X) (x : X) → slice_get (xs ++ x ∷ []) (length xs) ≡ Some x
slice_get-push [] x = refl
slice_get-push (y ∷ xs) x = slice_get-push xs x

pub push_cases : {X : Type 0} (xs : List X) (x : X) (i : ℕ) (y : X) → slice_get (xs ++ x ∷ []) i ≡ Some y → (slice_get xs i ≡ Some y) ⊎ ((i ≡ length xs) × (x ≡ y))
push_cases [] x zero y at = inr (refl, let same : x ≡ y = cc in same)
push_cases [] x (suc i) y at = cc
push_cases (z ∷ xs) x zero y at = inl at
push_cases (z ∷ xs) x (suc i) y at = elim (push_cases xs x i y at) [ inl old ↦ inl old | inr both ↦ inr (ap suc both.0, both.1) ]

pub length-push : {X : Type 0} (xs : List X) (x : X) → length (xs ++ x ∷ []) ≡ suc (length xs)
length-push xs x = omega (arith, length-append xs (x ∷ []))

pub take_suc : {X : Type 0} (xs : List X) (i : ℕ) (x : X) → slice_get xs i ≡ Some x → take (suc i) xs ≡ take i xs ++ x ∷ []
take_suc [] i x at = cc
take_suc (y ∷ xs) zero x at = let same : y ≡ x = cc in ap (λ z. z ∷ []) same
take_suc (y ∷ xs) (suc i) x at = ap (λ zs. y ∷ zs) (take_suc xs i x at)

pub take_next : {X : Type 0} (xs : List X) (i : ℕ) (x : X) → slice_get xs i ≡ Some x → take (i + 1) xs ≡ take i xs ++ x ∷ []
take_next xs i x at = subst (λ n. take n xs ≡ take i xs ++ x ∷ []) {x = suc i} (omega arith) (take_suc xs i x at)

pub drop_at : {X : Type 0} (xs : List X) (i : ℕ) (x : X) → slice_get xs i ≡ Some x → drop i xs ≡ x ∷ drop (suc i) xs
drop_at [] i x at = cc
drop_at (y ∷ xs) zero x at = let same : y ≡ x = cc in ap (λ z. z ∷ xs) same
drop_at (y ∷ xs) (suc i) x at = drop_at xs i x at

pub drop_none : {X : Type 0} (xs : List X) → drop 0 xs ≡ xs
drop_none [] = refl
drop_none (x ∷ xs) = refl

pub take_front : {X : Type 0} (xs ys : List X) → take (length xs) (xs ++ ys) ≡ xs
take_front [] ys = refl
take_front (x ∷ xs) ys = ap (λ zs. x ∷ zs) (take_front xs ys)

pub range_more : (a n : ℕ) → range_with_len a (suc n) ≡ range_with_len a n ++ (a + n) ∷ []
range_more a zero = ap (λ k. k ∷ []) (omega arith)
range_more a (suc n) = ap (λ ks. a ∷ ks) (range_more (a + 1) n ∙ ap (λ k. range_with_len (a + 1) n ++ k ∷ []) (omega arith))

-- ---- what is in a list

pub Contains-only : {X : Type 0} (x y : X) → Contains (x ∷ []) y → x ≡ y
Contains-only x y (zero, within, at) = at
Contains-only x y (suc k, within, at) = absurd (omega (arith, within))

pub flat_map-Contains : {X Y : Type 0} (f : X → List Y) (xs : List X) (y : Y) → Contains (flat_map f xs) y → (x : X) × Contains xs x × Contains (f x) y
flat_map-Contains f [] y there = absurd (Contains-none y there)
flat_map-Contains f (x ∷ xs) y there = elim (Contains-append_cases (f x) (flat_map f xs) y there) [
  | inl here ↦ (x, Contains-here x x xs refl, here)
  | inr behind ↦ let rest = flat_map-Contains f xs y behind in (rest.0, Contains-behind rest.0 x xs rest.1, rest.2)
]

pub Contains-flat_map : {X Y : Type 0} (f : X → List Y) (xs : List X) (x : X) (y : Y) → Contains xs x → Contains (f x) y → Contains (flat_map f xs) y
Contains-flat_map f [] x y at there = absurd (Contains-none x at)
Contains-flat_map {X} {Y} f (z ∷ xs) x y at there = elim ((Contains-cons x z xs).0 at) [
  | inl here ↦ Contains-append_left (f z) (flat_map f xs) y (subst (λ w. Contains (f w) y) here there)
  | inr behind ↦ Contains-append_right (f z) (flat_map f xs) y (Contains-flat_map f xs x y behind there)
]

pub any_Contains : {X : Type 0} (f : X → Bool) (xs : List X) → list_any f xs ≡ true → (x : X) × Contains xs x × (f x ≡ true)
any_Contains f [] none = cc
any_Contains f (x ∷ xs) some = elim (or_cases (f x) (list_any f xs) some) [
  | inl here ↦ (x, Contains-here x x xs refl, here)
  | inr behind ↦ let rest = any_Contains f xs behind in (rest.0, Contains-behind rest.0 x xs rest.1, rest.2)
]

pub Contains-any : {X : Type 0} (f : X → Bool) (xs : List X) (x : X) → Contains xs x → f x ≡ true → list_any f xs ≡ true
Contains-any f [] x there passes = absurd (Contains-none x there)
Contains-any f (y ∷ ys) x there passes = elim ((Contains-cons x y ys).0 there) [
  | inl here ↦ or_left (f y) (list_any f ys) (ap f (sym here) ∙ passes)
  | inr behind ↦ or_right (f y) (list_any f ys) (Contains-any f ys x behind passes)
]

pub map_alike : {X Y : Type 0} (f g : X → Y) (xs : List X) → ((x : X) → Contains xs x → f x ≡ g x) → map f xs ≡ map g xs
map_alike f g [] same = refl
map_alike f g (x ∷ xs) same = λ i. same x (Contains-here x x xs refl) i ∷ map_alike f g xs (λ y there. same y (Contains-behind y x xs there)) i

-- ---- what there is, and lists of numbers that are the same

pub some_and : {X : Type 0} (o : Option X) (P : X → Type 0) → IsSomeAnd o P → (x : X) × (o ≡ Some x) × P x
some_and None P is = absurd is
some_and (Some x) P is = (x, refl, is)

pub some_not_none : {X : Type 0} (o : Option X) → IsSome o → IsNone o → ⊥
some_not_none None is none = cc
some_not_none (Some x) is none = cc

pub same_bytes : (xs ys : List ℕ) → bytes_eq xs ys ≡ true → xs ≡ ys
same_bytes xs ys is = (bytes_eq-Decides xs ys).0 is

pub same_or_other : (xs ys : List ℕ) → (xs ≡ ys) ⊎ (xs ≢ ys)
same_or_other xs ys = elim (bytes_eq xs ys) as (λ b. bytes_eq xs ys ≡ b → (xs ≡ ys) ⊎ (xs ≢ ys)) [
  | true ↦ λ e. inl ((bytes_eq-Decides xs ys).0 e)
  | false ↦ λ e. inr (λ same. let never = (bytes_eq-Decides xs ys).1 same in cc)
] refl

pub bytes_eq-sym : (xs ys : List ℕ) → bytes_eq xs ys ≡ bytes_eq ys xs
bytes_eq-sym xs ys = by (bytes_eq xs ys) (bytes_eq ys xs) refl refl
  where
    by : (a b : Bool) → bytes_eq xs ys ≡ a → bytes_eq ys xs ≡ b → a ≡ b
    by true true e f = refl
    by false false e f = refl
    by true false e f = sym ((bytes_eq-Decides ys xs).1 (sym ((bytes_eq-Decides xs ys).0 e))) ∙ f
    by false true e f = sym e ∙ (bytes_eq-Decides xs ys).1 (sym ((bytes_eq-Decides ys xs).0 f))

-- ---- a list, seen from its end

pub pushed_last : {X : Type 0} (xs : List X) (x : X) → reverse (xs ++ x ∷ []) ≡ x ∷ reverse xs
pushed_last xs x = reverse-append xs (x ∷ [])

pub popped_last : {X : Type 0} (all xs : List X) (x : X) → all ≡ xs ++ x ∷ [] → reverse all ≡ x ∷ reverse xs
popped_last all xs x is = rw is (pushed_last xs x)

-- ---- a list taken apart at its front

pub cons_cases : {X : Type 0} (y : X) (xs : List X) (x : X) → Contains (y ∷ xs) x → (y ≡ x) ⊎ Contains xs x
cons_cases y xs x (zero, within, at) = inl at
cons_cases y xs x (suc k, within, at) = inr (k, omega arith, at)

pub first_there : {X : Type 0} (x : X) (xs : List X) → Contains (x ∷ xs) x
first_there x xs = (0, omega arith, refl)

pub next_there : {X : Type 0} (y : X) (xs : List X) (x : X) → Contains xs x → Contains (y ∷ xs) x
next_there y xs x (k, within, at) = (suc k, omega arith, at)

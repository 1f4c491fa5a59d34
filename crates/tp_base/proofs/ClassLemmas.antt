-- What the words on class sets say of their members, for callers.
use Rattle.std.proofs.Common.{IsTrue, ◌≡◌, ℕ, suc, ◌<◌, ◌≤◌, true, eqb, List, [], ◌∷◌, length, All, Contains, ◌↔◌, refl, sym, ap, ◌∙◌, arith, inl, inr, ◌⊎◌, subst, Bool}
use Rattle.std.specs.List.Sorted.{IsStrictlyIncreasing}
use Rattle.std.proofs.lemmas.Bool.{lt-ltb, le-ltb, eq-eqb, ne_eqb, eqb-true, cases_order, cases_Bool, both_ways}
use Rattle.std.proofs.lemmas.List.Kept.{IsStrictlyIncreasing-filter}
use Rattle.std.proofs.lemmas.List.Folds.{list_any_at, Any-from_list_any}
use Rattle.std.proofs.lemmas.List.{get_or_default}
use Rattle.std.proofs.lemmas.List.Elements.{All-weaker, All-contains, All-cons, All-head, All-tail, All-nil}
use Rattle.std.proofs.lemmas.List.Sums.{AllPass-from_list_all, list_all-from_AllPass}
use Rattle.tp_base.specs.Classes.{has_class, all_among, with_class, union_of, cut_to}
use Rattle.tp_base.proofs.Rising.{Contains-here, Contains-behind, Contains-cons, Contains-none, All-from_Contains, rises_tail, rises_head, rises_cons, not_below}
pub use Rattle.tp_base.proofs.Rising.{same_members}

-- what `has_class` says
pub has_class-Contains : (x : ℕ) (xs : List ℕ) → Contains xs x → has_class x xs ≡ true
has_class-Contains x xs (i, within, at) = list_any_at (λ y. eqb y x) xs i x within (eq-eqb _ x at)

pub Contains-has_class : (x : ℕ) (xs : List ℕ) → has_class x xs ≡ true → Contains xs x
Contains-has_class x xs h =
    let any = Any-from_list_any (λ y. eqb y x) xs h in
    (any.0, any.2, get_or_default xs any.0 x any.1 any.2 ∙ any.3 ∙ eqb-true any.1 x any.4)

pub has_class_is : (x : ℕ) (xs : List ℕ) → IsTrue (has_class x xs) ↔ Contains xs x
has_class_is x xs = (Contains-has_class x xs, has_class-Contains x xs)

-- what `all_among` says
pub all_among-All : (xs ys : List ℕ) → all_among xs ys ≡ true → All (Contains ys) xs
all_among-All xs ys h = All-weaker (λ x. has_class x ys ≡ true) (Contains ys) (λ x has. Contains-has_class x ys has) xs (AllPass-from_list_all (λ x. has_class x ys) xs h)

pub All-all_among : (xs ys : List ℕ) → All (Contains ys) xs → all_among xs ys ≡ true
All-all_among xs ys h = list_all-from_AllPass (λ x. has_class x ys) xs (All-weaker (Contains ys) (λ x. has_class x ys ≡ true) (λ x has. has_class-Contains x ys has) xs h)

pub all_among_is : (xs ys : List ℕ) → IsTrue (all_among xs ys) ↔ All (Contains ys) xs
all_among_is xs ys = (all_among-All xs ys, All-all_among xs ys)

-- `with_class` by the order of the new number and the first
pub with_class-below : (a y : ℕ) (ys : List ℕ) → a < y → with_class a (y ∷ ys) ≡ a ∷ y ∷ ys
with_class-below a y ys less = rw (lt-ltb a y less) refl

pub with_class-same : (a y : ℕ) (ys : List ℕ) → a ≡ y → with_class a (y ∷ ys) ≡ y ∷ ys
with_class-same a y ys same = rw (le-ltb a y (omega arith), eq-eqb a y same) refl

pub with_class-above : (a y : ℕ) (ys : List ℕ) → y < a → with_class a (y ∷ ys) ≡ y ∷ with_class a ys
with_class-above a y ys more = rw (le-ltb a y (omega arith), ne_eqb a y (omega arith)) refl

-- its members: the new number and those that were there
pub with_class-there : (a : ℕ) (xs : List ℕ) → Contains (with_class a xs) a
with_class-there a [] = Contains-here a a [] refl
with_class-there a (y ∷ ys) = elim (cases_order a y) [
  | inl same ↦ rw (with_class-same a y ys same) (Contains-here a y ys same)
  | inr other ↦ elim other [
    | inl less ↦ rw (with_class-below a y ys less) (Contains-here a a (y ∷ ys) refl)
    | inr more ↦ rw (with_class-above a y ys more) (Contains-behind a y (with_class a ys) (with_class-there a ys))
  ]
]

pub with_class-keeps : (a : ℕ) (xs : List ℕ) (x : ℕ) → Contains xs x → Contains (with_class a xs) x
with_class-keeps a [] x there = absurd (Contains-none x there)
with_class-keeps a (y ∷ ys) x there = elim (cases_order a y) [
  | inl same ↦ rw (with_class-same a y ys same) there
  | inr other ↦ elim other [
    | inl less ↦ rw (with_class-below a y ys less) (Contains-behind x a (y ∷ ys) there)
    | inr more ↦ rw (with_class-above a y ys more) (elim ((Contains-cons x y ys).0 there) [
      | inl here ↦ Contains-here x y (with_class a ys) here
      | inr behind ↦ Contains-behind x y (with_class a ys) (with_class-keeps a ys x behind)
    ])
  ]
]

with_class-cases : (a : ℕ) (xs : List ℕ) (x : ℕ) → Contains (with_class a xs) x → (x ≡ a) ⊎ Contains xs x
with_class-cases a [] x there = (Contains-cons x a []).0 there
with_class-cases a (y ∷ ys) x there = elim (cases_order a y) [
  | inl same ↦ inr (rw (with_class-same a y ys same) at there)
  | inr other ↦ elim other [
    | inl less ↦ (Contains-cons x a (y ∷ ys)).0 (rw (with_class-below a y ys less) at there)
    | inr more ↦ elim ((Contains-cons x y (with_class a ys)).0 (rw (with_class-above a y ys more) at there)) [
      | inl here ↦ inr (Contains-here x y ys here)
      | inr behind ↦ elim (with_class-cases a ys x behind) [
        | inl new ↦ inl new
        | inr old ↦ inr (Contains-behind x y ys old)
      ]
    ]
  ]
]

pub Contains-with_class : (a : ℕ) (xs : List ℕ) (x : ℕ) → Contains (with_class a xs) x ↔ ((x ≡ a) ⊎ Contains xs x)
Contains-with_class a xs x = (
  with_class-cases a xs x,
  λ either. elim either [
    | inl new ↦ subst (λ z. Contains (with_class a xs) z) (sym new) (with_class-there a xs)
    | inr old ↦ with_class-keeps a xs x old
  ],
)

-- it still rises
pub IsStrictlyIncreasing-with_class : (a : ℕ) (xs : List ℕ) → IsStrictlyIncreasing xs → IsStrictlyIncreasing (with_class a xs)
IsStrictlyIncreasing-with_class a [] up = λ k within. absurd (omega arith)
IsStrictlyIncreasing-with_class a (y ∷ ys) up = elim (cases_order a y) [
  | inl same ↦ rw (with_class-same a y ys same) up
  | inr other ↦ elim other [
    | inl less ↦ rw (with_class-below a y ys less) (rises_cons a (y ∷ ys) (All-cons (λ z. a < z) y ys less (All-weaker (λ z. y < z) (λ z. a < z) (λ z more. omega arith) ys (rises_head y ys up))) up)
    | inr more ↦ rw (with_class-above a y ys more) (rises_cons y (with_class a ys)
        (All-from_Contains (λ z. y < z) (with_class a ys) (λ z there. elim (with_class-cases a ys z there) [
          | inl new ↦ omega arith
          | inr old ↦ All-contains (λ w. y < w) ys z (rises_head y ys up) old
        ]))
        (IsStrictlyIncreasing-with_class a ys (rises_tail y ys up)))
  ]
]

-- the members of a union are those of both lists
pub union_of-keeps_left : (xs ys : List ℕ) (x : ℕ) → Contains xs x → Contains (union_of xs ys) x
union_of-keeps_left xs [] x there = there
union_of-keeps_left xs (y ∷ ys) x there = union_of-keeps_left (with_class y xs) ys x (with_class-keeps y xs x there)

pub union_of-keeps_right : (xs ys : List ℕ) (x : ℕ) → Contains ys x → Contains (union_of xs ys) x
union_of-keeps_right xs [] x there = absurd (Contains-none x there)
union_of-keeps_right xs (y ∷ ys) x there = elim ((Contains-cons x y ys).0 there) [
  | inl here ↦ union_of-keeps_left (with_class y xs) ys x ((Contains-with_class y xs x).1 (inl here))
  | inr behind ↦ union_of-keeps_right (with_class y xs) ys x behind
]

union_of-cases : (xs ys : List ℕ) (x : ℕ) → Contains (union_of xs ys) x → Contains xs x ⊎ Contains ys x
union_of-cases xs [] x there = inl there
union_of-cases xs (y ∷ ys) x there = elim (union_of-cases (with_class y xs) ys x there) [
  | inl left ↦ elim (with_class-cases y xs x left) [
    | inl here ↦ inr (Contains-here x y ys here)
    | inr old ↦ inl old
  ]
  | inr right ↦ inr (Contains-behind x y ys right)
]

pub Contains-union_of : (xs ys : List ℕ) (x : ℕ) → Contains (union_of xs ys) x ↔ (Contains xs x ⊎ Contains ys x)
Contains-union_of xs ys x = (
  union_of-cases xs ys x,
  λ either. elim either [ inl left ↦ union_of-keeps_left xs ys x left | inr right ↦ union_of-keeps_right xs ys x right ],
)

-- and it rises where the first does
pub IsStrictlyIncreasing-union_of : (xs ys : List ℕ) → IsStrictlyIncreasing xs → IsStrictlyIncreasing (union_of xs ys)
IsStrictlyIncreasing-union_of xs [] up = up
IsStrictlyIncreasing-union_of xs (y ∷ ys) up = IsStrictlyIncreasing-union_of (with_class y xs) ys (IsStrictlyIncreasing-with_class y xs up)

-- what is there already adds nothing
pub with_class-member : (a : ℕ) (xs : List ℕ) → IsStrictlyIncreasing xs → Contains xs a → with_class a xs ≡ xs
with_class-member a [] up there = absurd (Contains-none a there)
with_class-member a (y ∷ ys) up there = elim (cases_order a y) [
  | inl same ↦ with_class-same a y ys same
  | inr other ↦ elim other [
    | inl less ↦ absurd (not_below a y ys up less there)
    | inr more ↦ with_class-above a y ys more ∙ ap (λ zs. y ∷ zs) (with_class-member a ys (rises_tail y ys up) (elim ((Contains-cons a y ys).0 there) [
      | inl here ↦ absurd (omega arith)
      | inr behind ↦ behind
    ]))
  ]
]

pub union_of-within : (xs ys : List ℕ) → IsStrictlyIncreasing xs → All (Contains xs) ys → union_of xs ys ≡ xs
union_of-within xs [] up within = refl
union_of-within xs (y ∷ ys) up within =
    rw (with_class-member y xs up (All-head (Contains xs) y ys within)) (union_of-within xs ys up (All-tail (Contains xs) y ys within))

-- what is new makes the list longer
pub length-with_class : (a : ℕ) (xs : List ℕ) → (Contains xs a → ⊥) → length (with_class a xs) ≡ suc (length xs)
length-with_class a [] new = refl
length-with_class a (y ∷ ys) new = elim (cases_order a y) [
  | inl same ↦ absurd (new (Contains-here a y ys same))
  | inr other ↦ elim other [
    | inl less ↦ rw (with_class-below a y ys less) refl
    | inr more ↦ rw (with_class-above a y ys more) (ap (λ n. suc n) (length-with_class a ys (λ there. new (Contains-behind a y ys there))))
  ]
]

pub with_class-longer : (a : ℕ) (xs : List ℕ) → length xs ≤ length (with_class a xs)
with_class-longer a [] = omega arith
with_class-longer a (y ∷ ys) = elim (cases_order a y) [
  | inl same ↦ rw (with_class-same a y ys same) (omega arith)
  | inr other ↦ elim other [
    | inl less ↦ rw (with_class-below a y ys less) (omega arith)
    | inr more ↦ rw (with_class-above a y ys more) (let longer = with_class-longer a ys in omega arith)
  ]
]

pub union_of-longer : (xs ys : List ℕ) → length xs ≤ length (union_of xs ys)
union_of-longer xs [] = omega arith
union_of-longer xs (y ∷ ys) = let one = with_class-longer y xs in let others = union_of-longer (with_class y xs) ys in omega arith

pub length-union_of : (xs ys : List ℕ) → IsStrictlyIncreasing xs → (All (Contains xs) ys → ⊥) → length xs < length (union_of xs ys)
length-union_of xs [] up new = absurd (new (All-nil (Contains xs)))
length-union_of xs (y ∷ ys) up new = elim (cases_Bool (has_class y xs)) [
  | inl there ↦
      let member = Contains-has_class y xs there in
      rw (with_class-member y xs up member) (length-union_of xs ys up (λ all. new (All-cons (Contains xs) y ys member all)))
  | inr none ↦
      let one = length-with_class y xs (λ there. both_ways (has_class y xs) none (has_class-Contains y xs there)) in
      let others = union_of-longer (with_class y xs) ys in
      omega arith
]

-- what is cut to is in both
cut_to-cases : (xs ys : List ℕ) (x : ℕ) → Contains (cut_to xs ys) x → Contains xs x × Contains ys x
cut_to-cases xs [] x there = absurd (Contains-none x there)
cut_to-cases xs (y ∷ ys) x there = elim (cases_Bool (has_class y xs)) [
  | inl kept ↦ elim ((Contains-cons x y (cut_to xs ys)).0 (rw kept at there)) [
    | inl here ↦ (subst (λ z. Contains xs z) (sym here) (Contains-has_class y xs kept), Contains-here x y ys here)
    | inr behind ↦ let both = cut_to-cases xs ys x behind in (both.0, Contains-behind x y ys both.1)
  ]
  | inr gone ↦ let both = cut_to-cases xs ys x (rw gone at there) in (both.0, Contains-behind x y ys both.1)
]

cut_to-keeps : (xs ys : List ℕ) (x : ℕ) → Contains xs x → Contains ys x → Contains (cut_to xs ys) x
cut_to-keeps xs [] x in_xs in_ys = absurd (Contains-none x in_ys)
cut_to-keeps xs (y ∷ ys) x in_xs in_ys = elim ((Contains-cons x y ys).0 in_ys) [
  | inl here ↦ rw (subst (λ z. has_class z xs ≡ true) here (has_class-Contains x xs in_xs)) (Contains-here x y (cut_to xs ys) here)
  | inr behind ↦ elim (cases_Bool (has_class y xs)) [
    | inl kept ↦ rw kept (Contains-behind x y (cut_to xs ys) (cut_to-keeps xs ys x in_xs behind))
    | inr gone ↦ rw gone (cut_to-keeps xs ys x in_xs behind)
  ]
]

pub Contains-cut_to : (xs ys : List ℕ) (x : ℕ) → Contains (cut_to xs ys) x ↔ (Contains xs x × Contains ys x)
Contains-cut_to xs ys x = (cut_to-cases xs ys x, λ both. cut_to-keeps xs ys x both.0 both.1)

-- and rises where the list does
pub IsStrictlyIncreasing-cut_to : (xs ys : List ℕ) → IsStrictlyIncreasing ys → IsStrictlyIncreasing (cut_to xs ys)
IsStrictlyIncreasing-cut_to xs ys up = IsStrictlyIncreasing-filter (λ y. has_class y xs) ys up

-- a test of the second against the first says whether two sets are one, where the first is within the second
pub one_set : (xs ys : List ℕ) (r : Bool) → IsStrictlyIncreasing xs → IsStrictlyIncreasing ys → All (Contains ys) xs → IsTrue r ↔ All (Contains xs) ys → IsTrue r → xs ≡ ys
one_set xs ys r up_x up_y within back same = same_members xs ys up_x up_y within (back.0 same)

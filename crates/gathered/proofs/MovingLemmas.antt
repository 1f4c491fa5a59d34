-- Atoms that move into a set, and those of them that it didn't have.
use Rattle.std.proofs.Common.{◌≡◌, ◌↔◌, ◌⊎◌, ℕ, ◌+◌, ◌≤◌, Bool, true, false, not, List, [], ◌∷◌, ◌++◌, Contains, length, take, Some, slice_get, refl, sym, ap, ◌∙◌, subst, inl, inr, arith, eqb, append-nil, Result, Ok, Err, OnErr}
use Rattle.std.specs.List.{filter, dedup}
use Rattle.std.specs.List.Sorted.{IsStrictlyIncreasing, IsPermutation}
use Rattle.std.proofs.lemmas.Bool.{cases_Bool, both_ways}
use Rattle.std.proofs.lemmas.List.{append_assoc}
use Rattle.std.proofs.lemmas.List.Elements.{Contains-push, Contains-append_left, Contains-push_cases, filter-append}
use Rattle.std.proofs.lemmas.List.Sorted.{Contains-permutation, IsPermutation-sym}
use Rattle.std.proofs.lemmas.List.Kept.{Contains-dedup_nat, Contains-from_dedup, IsStrictlyIncreasing-filter}
use Rattle.tp_base.specs.Classes.{has_class, with_class, union_of}
use Rattle.tp_base.proofs.ClassLemmas.{has_class-Contains, Contains-has_class, Contains-with_class, Contains-union_of}
use Rattle.tp_base.proofs.Rising.{Contains-none, Contains-here, Contains-behind, Contains-cons, All-from_Contains, same_members}
use Rattle.tp_base.proofs.Lists.{take_next}
use Rattle.gathered.specs.Between.{IsBetween}
use Rattle.gathered.proofs.GatheredLemmas.{set_rises, in_set, of_set}

-- a list of at most one number rises
pub short_rises : (xs : List ℕ) → length xs ≤ 1 → IsStrictlyIncreasing xs
short_rises xs short k within = absurd (omega (arith, short, within))

pub sorted_same : (xs sorted ys : List ℕ) → IsPermutation xs sorted → ys ≡ dedup eqb sorted → (a : ℕ) → Contains ys a ↔ Contains xs a
sorted_same xs sorted ys moved is a = (
  λ there. Contains-permutation sorted xs a (IsPermutation-sym xs sorted moved) (Contains-from_dedup eqb sorted a (subst (λ (zs : List ℕ). Contains zs a) is there)),
  λ there. subst (λ (zs : List ℕ). Contains zs a) (sym is) (Contains-dedup_nat sorted a (Contains-permutation xs sorted a moved there)),
)

-- the news are those of the set that it didn't have
pub record AreNews (own now news : List ℕ) : Type 0 where
  pub kept : (a : ℕ) → Contains own a → Contains now a
  pub are : (a : ℕ) → Contains news a ↔ (Contains now a × (Contains own a → ⊥))

module _ (own now now' : List ℕ) (x : ℕ) (is : now' ≡ with_class x now) where
  added : (a : ℕ) → Contains now' a → (a ≡ x) ⊎ Contains now a
  added a there = (Contains-with_class x now a).0 (subst (λ (zs : List ℕ). Contains zs a) is there)

  still : (a : ℕ) → Contains now a → Contains now' a
  still a there = subst (λ (zs : List ℕ). Contains zs a) (sym is) ((Contains-with_class x now a).1 (inr there))

  there_now : Contains now' x
  there_now = subst (λ (zs : List ℕ). Contains zs x) (sym is) ((Contains-with_class x now x).1 (inl refl))

  pub one_known : (grew : Bool) → grew ≡ not (has_class x now) → grew ≡ false → (news : List ℕ) → AreNews own now news → AreNews own now' news
  one_known grew test none news so_far =
      let old : Contains now x = Contains-has_class x now (elim (cases_Bool (has_class x now)) [
        | inl old ↦ old
        | inr new ↦ absurd (both_ways grew none (test ∙ ap not new))
      ]) in
      record {
        kept = λ a there. still a (so_far.kept a there);
        are = λ a. (
          λ there. let both = (so_far.are a).0 there in (still a both.0, both.1),
          λ both. (so_far.are a).1 (
            elim (added a both.0) [
              | inl same ↦ subst (Contains now) (sym same) old
              | inr before ↦ before
            ],
            both.1,
          ),
        );
      }

  pub one_new : (grew : Bool) → grew ≡ not (has_class x now) → grew ≡ true → (news news' : List ℕ) → news' ≡ news ++ x ∷ [] → AreNews own now news → AreNews own now' news'
  one_new grew test is_new news news' more so_far =
      let new : Contains now x → ⊥ = λ old. both_ways grew (test ∙ ap not (has_class-Contains x now old)) is_new in
      record {
        kept = λ a there. still a (so_far.kept a there);
        are = λ a. (
          λ there. elim (Contains-push_cases news x a (subst (λ (zs : List ℕ). Contains zs a) more there)) [
            | inl before ↦ let both = (so_far.are a).0 before in (still a both.0, both.1)
            | inr same ↦ (subst (Contains now') same there_now, λ old. new (so_far.kept x (subst (Contains own) (sym same) old)))
          ],
          λ both. subst (λ (zs : List ℕ). Contains zs a) (sym more) (elim (added a both.0) [
            | inl same ↦ subst (Contains (news ++ x ∷ [])) (sym same) (Contains-push news x)
            | inr before ↦ Contains-append_left news (x ∷ []) a ((so_far.are a).1 (before, both.1))
          ]),
        );
      }

passed : (p : ℕ → Bool) (xs : List ℕ) (x : ℕ) → Contains (filter p xs) x → Contains xs x × (p x ≡ true)
passed p [] x there = absurd (Contains-none x there)
passed p (y ∷ ys) x there = elim (cases_Bool (p y)) [
  | inl kept ↦ elim ((Contains-cons x y (filter p ys)).0 (rw kept at there)) [
    | inl here ↦ (Contains-here x y ys here, subst (λ z. p z ≡ true) (sym here) kept)
    | inr behind ↦ let both = passed p ys x behind in (Contains-behind x y ys both.0, both.1)
  ]
  | inr gone ↦ let both = passed p ys x (rw gone at there) in (Contains-behind x y ys both.0, both.1)
]

passes : (p : ℕ → Bool) (xs : List ℕ) (x : ℕ) → Contains xs x → p x ≡ true → Contains (filter p xs) x
passes p [] x there pass = absurd (Contains-none x there)
passes p (y ∷ ys) x there pass = elim ((Contains-cons x y ys).0 there) [
  | inl here ↦ rw (subst (λ z. p z ≡ true) here pass) (Contains-here x y (filter p ys) here)
  | inr behind ↦ elim (cases_Bool (p y)) [
    | inl kept ↦ rw kept (Contains-behind x y (filter p ys) (passes p ys x behind pass))
    | inr gone ↦ rw gone (passes p ys x behind pass)
  ]
]

-- a list that rises and has them is that of the news in order
pub in_order : (own atoms set news : List ℕ) → set ≡ union_of own atoms → IsStrictlyIncreasing news → ((a : ℕ) → Contains news a ↔ (Contains set a × (Contains own a → ⊥)))
    → news ≡ filter (λ a. not (has_class a own)) (union_of [] atoms)
in_order own atoms set news is rises members =
    let p : ℕ → Bool = λ a. not (has_class a own) in
    let all = union_of [] atoms in
    same_members news (filter p all) rises (IsStrictlyIncreasing-filter p all (set_rises atoms))
    (All-from_Contains (Contains (filter p all)) news (λ a there.
    let both = (members a).0 there in
    elim ((Contains-union_of own atoms a).0 (subst (λ (zs : List ℕ). Contains zs a) is both.0)) [
      | inl old ↦ absurd (both.1 old)
      | inr new ↦ passes p all a (in_set atoms a new) (elim (cases_Bool (has_class a own)) [
        | inl old ↦ absurd (both.1 (Contains-has_class a own old))
        | inr none ↦ ap not none
      ])
    ]))
    (All-from_Contains (Contains news) (filter p all) (λ a there.
    let both = passed p all a there in
    (members a).1 (
      subst (λ (zs : List ℕ). Contains zs a) (sym is) ((Contains-union_of own atoms a).1 (inr (of_set atoms a both.0))),
      λ old. both_ways (p a) (ap not (has_class-Contains a own old)) both.1,
    )))

-- one atom more of a set
pub next_new : (own given start news news' : List ℕ) (i a : ℕ) → slice_get given i ≡ Some a → has_class a own ≡ false
    → news ≡ start ++ filter (λ a. not (has_class a own)) (take i given) → news' ≡ news ++ a ∷ [] → news' ≡ start ++ filter (λ a. not (has_class a own)) (take (i + 1) given)
next_new own given start news news' i a at none so_far more =
    let p : ℕ → Bool = λ a. not (has_class a own) in
    let one : filter p (a ∷ []) ≡ a ∷ [] = rw none refl in
    more ∙ ap (λ z. z ++ a ∷ []) so_far ∙ append_assoc start (filter p (take i given)) (a ∷ [])
    ∙ ap (λ z. start ++ z) (ap (λ z. filter p (take i given) ++ z) (sym one) ∙ sym (filter-append p (take i given) (a ∷ [])) ∙ ap (filter p) (sym (take_next given i a at)))

pub next_old : (own given start news news' : List ℕ) (i a : ℕ) → slice_get given i ≡ Some a → has_class a own ≡ true
    → news ≡ start ++ filter (λ a. not (has_class a own)) (take i given) → news' ≡ news → news' ≡ start ++ filter (λ a. not (has_class a own)) (take (i + 1) given)
next_old own given start news news' i a at old so_far same =
    let p : ℕ → Bool = λ a. not (has_class a own) in
    let one : filter p (a ∷ []) ≡ [] = rw old refl in
    same ∙ so_far
    ∙ ap (λ z. start ++ z) (sym (append-nil (filter p (take i given))) ∙ ap (λ z. filter p (take i given) ++ z) (sym one) ∙ sym (filter-append p (take i given) (a ∷ [])) ∙ ap (filter p) (sym (take_next given i a at)))

pub in_order_of : {A B C : Type 0} → A ↔ B → B ↔ C → A ↔ C
in_order_of one other = (λ a. other.0 (one.0 a), λ c. one.1 (other.1 c))

pub next_union : (set set' rest others : List ℕ) (x : ℕ) → rest ≡ x ∷ others → set' ≡ with_class x set → union_of set' others ≡ union_of set rest
next_union set set' rest others x first is = ap (λ s. union_of s others) is ∙ sym (ap (union_of set) first)

-- ---- after a refusal

pub between_same : (own atoms set : List ℕ) → set ≡ own → IsBetween own (union_of own atoms) set
between_same own atoms set same = record {
  kept = λ a there. subst (λ (zs : List ℕ). Contains zs a) (sym same) there;
  within = λ a there. (Contains-union_of own atoms a).1 (inl (subst (λ (zs : List ℕ). Contains zs a) same there));
}

-- some are in it, and the others are left
pub between_left : (own atoms set rest : List ℕ) → union_of set rest ≡ union_of own atoms → ((a : ℕ) → Contains own a → Contains set a) → IsBetween own (union_of own atoms) set
between_left own atoms set rest whole kept = record {
  kept = kept;
  within = λ a there. subst (λ (zs : List ℕ). Contains zs a) whole ((Contains-union_of set rest a).1 (inl there));
}

pub kept_more : (own set set' : List ℕ) (x : ℕ) → set' ≡ with_class x set → ((a : ℕ) → Contains own a → Contains set a) → (a : ℕ) → Contains own a → Contains set' a
kept_more own set set' x is kept a there = subst (λ (zs : List ℕ). Contains zs a) (sym is) ((Contains-with_class x set a).1 (inr (kept a there)))

pub on_err : {T E : Type 0} (P : Type 0) (r : Result T E) → P → OnErr r P
on_err P (Ok x) p = tt
on_err P (Err e) p = p

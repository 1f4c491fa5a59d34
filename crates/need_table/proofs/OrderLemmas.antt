-- Firsts in the order of their rounds, and what is found among them.
use Rattle.std.proofs.Common.{◌≡◌, ◌↔◌, ◌⊎◌, ◌&&◌, ℕ, zero, suc, ◌+◌, ◌-◌, ◌<◌, ◌≤◌, true, false, nat_le, nat_lt, List, [], ◌∷◌, ◌++◌, map, length, take, drop, get_or, Bool, Some, None, slice_get, Contains, refl, sym, ap, ◌∙◌, inl, inr, arith, subst, length-append}
use Rattle.std.specs.List.{filter}
use Rattle.std.specs.List.Sorted.{IsStrictlyIncreasing, IsPartitionedBy, IsPartitionPoint}
use Rattle.std.proofs.lemmas.Bool.{and_from, cases_lt, le-leb, leb-true, lt-ltb, ltb-true, ltb-false}
use Rattle.std.proofs.lemmas.Option.{slice_get_within, slice_get-get_or, get_or_from_slice_get}
use Rattle.tp_base.specs.Classes.{union_of}
use Rattle.tp_base.proofs.ClassLemmas.{same_members, Contains-union_of, IsStrictlyIncreasing-union_of}
use Rattle.tp_base.proofs.Lists.{Contains-at, at_Contains, past_end, push_cases, slice_get-append_left, slice_get-push, slice_get-take}
use Rattle.tree_sem.proofs.NodeLemmas.{Contains-map, map-Contains}
use Rattle.simple_core.specs.Labels.{set_of}
use Rattle.simple_core.proofs.Members.{among_all, filter-Contains, Contains-filter}
use Rattle.simple_core.proofs.RoundLemmas.{set_of-is, is-set_of, set_of-rises}
use Rattle.simple_core.specs.declared.summaries.First.{First}
use Rattle.need_table.specs.Tables.{atoms_within, AreInOrder, IsPlaceFrom}

-- ---- lists by their places

pub appended_at : {X : Type 0} (xs ys : List X) (j : ℕ) (x : X) → slice_get (xs ++ ys) j ≡ Some x → (slice_get xs j ≡ Some x) ⊎ ((length xs ≤ j) × Contains ys x)
appended_at [] ys j x at = inr (omega arith, Contains-at ys j x at)
appended_at (z ∷ xs) ys zero x at = inl at
appended_at (z ∷ xs) ys (suc j) x at = elim (appended_at xs ys j x at) [ inl old ↦ inl old | inr new ↦ let le = new.0 in inr (omega arith, new.1) ]

take_at : {X : Type 0} (xs : List X) (n i : ℕ) (x : X) → slice_get (take n xs) i ≡ Some x → (i < n) × (slice_get xs i ≡ Some x)
take_at [] zero i x at = cc
take_at [] (suc n) i x at = cc
take_at (y ∷ ys) zero i x at = cc
take_at (y ∷ ys) (suc n) zero x at = (omega arith, at)
take_at (y ∷ ys) (suc n) (suc i) x at = let rest = take_at ys n i x at in let less = rest.0 in (omega arith, rest.1)

pub drop_at : {X : Type 0} (xs : List X) (n i m : ℕ) → m ≡ n + i → slice_get (drop n xs) i ≡ slice_get xs m
drop_at [] zero i m is = refl
drop_at [] (suc n) i m is = refl
drop_at (y ∷ ys) zero i m is = let same : i ≡ m = omega arith in ap (slice_get (y ∷ ys)) same
drop_at (y ∷ ys) (suc n) i zero is = absurd (omega arith)
drop_at (y ∷ ys) (suc n) i (suc m) is = drop_at ys n i m (omega arith)

-- ---- the order

pub order_one : (firsts : List First) (r : ℕ) → ((f : First) → Contains firsts f → f.round ≡ r) → AreInOrder firsts
order_one firsts r one i j f g le at_i at_j =
    let a = one f (Contains-at firsts i f at_i) in
    let b = one g (Contains-at firsts j g at_j) in
    omega arith

-- behind those up to a round, some of a later one
pub order_more : (xs ys : List First) (k r : ℕ) → AreInOrder xs → ((f : First) → Contains xs f → f.round ≤ k) → k ≤ r → ((f : First) → Contains ys f → f.round ≡ r) → AreInOrder (xs ++ ys)
order_more xs ys k r order old later new i j f g le at_i at_j = elim (appended_at xs ys i f at_i) [
  | inl f_old ↦ elim (appended_at xs ys j g at_j) [
    | inl g_old ↦ order i j f g le f_old g_old
    | inr g_new ↦
        let a = old f (Contains-at xs i f f_old) in
        let b = new g g_new.1 in
        omega arith
  ]
  | inr f_new ↦ elim (appended_at xs ys j g at_j) [
    | inl g_old ↦
        let less = slice_get_within xs j g g_old in
        let from = f_new.0 in
        absurd (omega arith)
    | inr g_new ↦
        let a = new f f_new.1 in
        let b = new g g_new.1 in
        omega arith
  ]
]

pub order_take : (firsts : List First) (n : ℕ) → AreInOrder firsts → AreInOrder (take n firsts)
order_take firsts n order i j f g le at_i at_j = order i j f g le (take_at firsts n i f at_i).1 (take_at firsts n j g at_j).1

-- ---- a search

pub parted : (firsts : List First) (round : ℕ) → AreInOrder firsts → IsPartitionedBy (λ (f : First). nat_lt f.round round) firsts
parted firsts round order i j d le less early =
    let f = get_or firsts i d in
    let g = get_or firsts j d in
    let sooner : f.round ≤ g.round = order i j f g le (slice_get-get_or firsts i d (omega arith)) (slice_get-get_or firsts j d less) in
    let g_early : g.round < round = ltb-true g.round round early in
    lt-ltb f.round round (omega arith)

pub place_found : (firsts : List First) (round place : ℕ) → place ≤ length firsts → IsPartitionPoint (λ (f : First). nat_lt f.round round ≡ true) (λ (f : First). nat_lt f.round round ≡ false) firsts place → IsPlaceFrom firsts round place
place_found firsts round place within point = record {
  within = within;
  before = λ i f less at. ltb-true f.round round (ap (λ (z : First). nat_lt z.round round) (sym (get_or_from_slice_get firsts i f f at)) ∙ point.0 i f (omega arith) less);
  from = λ i f le at. ltb-false f.round round (ap (λ (z : First). nat_lt z.round round) (sym (get_or_from_slice_get firsts i f f at)) ∙ point.1 i f le (slice_get_within firsts i f at));
}

-- the first that is found comes soonest
pub soonest : (firsts : List First) (from place : ℕ) (first : First) → AreInOrder firsts → IsPlaceFrom firsts from place → slice_get firsts place ≡ Some first
    → (from ≤ first.round) × ((f : First) → Contains firsts f → from ≤ f.round → first.round ≤ f.round)
soonest firsts from place first order found at = (
  found.from place first (omega arith) at,
  λ f there late.
      let g = at_Contains firsts f there in
      elim (cases_lt g.0 place) [
        | inl early ↦ let less = found.before g.0 f early g.1 in absurd (omega arith)
        | inr behind ↦ order place g.0 first f behind at g.1
      ],
)

pub none_later : (firsts : List First) (from place : ℕ) → IsPlaceFrom firsts from place → slice_get firsts place ≡ None → (f : First) → Contains firsts f → from ≤ f.round → ⊥
none_later firsts from place found none f there late =
    let g = at_Contains firsts f there in
    let end = past_end firsts place none in
    let within = slice_get_within firsts g.0 f g.1 in
    let less = found.before g.0 f (omega arith) g.1 in
    omega arith

-- ---- a walk from behind

pub order_before : (firsts others : List First) (last : First) → firsts ≡ others ++ last ∷ [] → AreInOrder firsts → AreInOrder others
order_before firsts others last is order i j f g le at at' =
    order i j f g le (still i f at) (still j g at')
  where
    still : (i : ℕ) (f : First) → slice_get others i ≡ Some f → slice_get firsts i ≡ Some f
    still i f at = ap (λ (z : List First). slice_get z i) is ∙ slice_get-append_left others (last ∷ []) i (slice_get_within others i f at) ∙ at

-- the last one comes in the round or later, so that the place is among those before it
pub place_before : (firsts others : List First) (last : First) (r m : ℕ) → firsts ≡ others ++ last ∷ [] → r ≤ last.round → IsPlaceFrom others r m → IsPlaceFrom firsts r m
place_before firsts others last r m is le found =
    let within = found.within in
    let cases : (i : ℕ) (f : First) → slice_get firsts i ≡ Some f → (slice_get others i ≡ Some f) ⊎ ((i ≡ length others) × (last ≡ f)) =
    λ i f at. push_cases others last i f (ap (λ (z : List First). slice_get z i) (sym is) ∙ at) in
    record {
      within = omega (arith, within, ap length is, length-append others (last ∷ []));
      before = λ i f less at. elim (cases i f at) [
        | inl there ↦ found.before i f less there
        | inr (end, same) ↦ absurd (omega (arith, end, less, within))
      ];
      from = λ i f behind at. elim (cases i f at) [
        | inl there ↦ found.from i f behind there
        | inr (end, same) ↦ subst (λ (z : First). r ≤ z.round) same le
      ];
    }

-- the last one comes before the round, and all others do
pub place_behind : (firsts others : List First) (last : First) (r : ℕ) → firsts ≡ others ++ last ∷ [] → AreInOrder firsts → last.round < r → IsPlaceFrom firsts r (length firsts)
place_behind firsts others last r is order early =
    let count : length firsts ≡ length others + 1 = ap length is ∙ length-append others (last ∷ []) in
    record {
      within = omega arith;
      before = λ i f less at.
          let le = order i (length others) f last (omega (arith, less, count)) at (ap (λ (z : List First). slice_get z (length others)) is ∙ slice_get-push others last) in
          omega (arith, le, early);
      from = λ i f behind at. let less = slice_get_within firsts i f at in absurd (omega (arith, less, behind));
    }

pub place_none : (firsts : List First) (r : ℕ) → length firsts ≡ 0 → IsPlaceFrom firsts r 0
place_none firsts r none = record {
  within = omega arith;
  before = λ i f less at. absurd (omega arith);
  from = λ i f behind at. let less = slice_get_within firsts i f at in absurd (omega (arith, less, none));
}

-- ---- the firsts of some rounds

pub part_is : (firsts known part : List First) (from to m n : ℕ) → known ≡ take m firsts → part ≡ drop n known → IsPlaceFrom firsts (to + 1) m → IsPlaceFrom known from n
    → (f : First) → Contains part f ↔ (Contains firsts f × (from ≤ f.round) × (f.round ≤ to))
part_is firsts known part from to m n is_known is_part late early f = (
  λ there.
      let i = at_Contains part f there in
      let in_known : slice_get known (n + i.0) ≡ Some f = sym (drop_at known n i.0 (n + i.0) refl) ∙ ap (λ (z : List First). slice_get z i.0) (sym is_part) ∙ i.1 in
      let at = take_at firsts m (n + i.0) f (ap (λ (z : List First). slice_get z (n + i.0)) (sym is_known) ∙ in_known) in
      let soon = late.before (n + i.0) f at.0 at.1 in
      (Contains-at firsts (n + i.0) f at.1, early.from (n + i.0) f (omega arith) in_known, omega arith),
  λ (there, from_le, to_le).
      let i = at_Contains firsts f there in
      elim (cases_lt i.0 m) [
        | inr behind ↦ let over = late.from i.0 f behind i.1 in absurd (omega arith)
        | inl less ↦
            let in_known : slice_get known i.0 ≡ Some f = ap (λ (z : List First). slice_get z i.0) is_known ∙ slice_get-take firsts m i.0 less ∙ i.1 in
            elim (cases_lt i.0 n) [
              | inl before ↦ let under = early.before i.0 f before in_known in absurd (omega arith)
              | inr behind ↦
                  let at : slice_get part (i.0 - n) ≡ Some f = ap (λ (z : List First). slice_get z (i.0 - n)) is_part ∙ drop_at known n (i.0 - n) i.0 (omega arith) ∙ in_known in
                  Contains-at part (i.0 - n) f at
            ]
      ],
)

-- ---- the atoms of some rounds

pub atoms_within-is : (from to : ℕ) (firsts : List First) (a : ℕ) → Contains (atoms_within from to firsts) a → (f : First) × Contains firsts f × (from ≤ f.round) × (f.round ≤ to) × (f.atom ≡ a)
atoms_within-is from to firsts a there =
    let p = λ (f : First). (nat_le from f.round) && (nat_le f.round to) in
    let of = map-Contains (λ (f : First). f.atom) (filter p firsts) a there in
    let kept = filter-Contains p firsts of.0 of.1 in
    let both = both_of (nat_le from of.0.round) (nat_le of.0.round to) kept.1 in
    (of.0, kept.0, leb-true from of.0.round both.0, leb-true of.0.round to both.1, sym of.2)
  where
    both_of : (x y : Bool) → (x && y) ≡ true → (x ≡ true) × (y ≡ true)
    both_of true y h = (refl, h)
    both_of false y h = cc

pub is-atoms_within : (from to : ℕ) (firsts : List First) (f : First) → Contains firsts f → from ≤ f.round → f.round ≤ to → Contains (atoms_within from to firsts) f.atom
is-atoms_within from to firsts f there from_le to_le =
    let p = λ (f : First). (nat_le from f.round) && (nat_le f.round to) in
    Contains-map (λ (f : First). f.atom) (filter p firsts) f (Contains-filter p firsts f there (and_from (nat_le from f.round) (nat_le f.round to) (le-leb from f.round from_le) (le-leb f.round to to_le)))

pub part_atoms : (firsts part : List First) (from to : ℕ) → ((f : First) → Contains part f ↔ (Contains firsts f × (from ≤ f.round) × (f.round ≤ to)))
    → set_of (map (λ f. f.atom) part) ≡ set_of (atoms_within from to firsts)
part_atoms firsts part from to is =
    let some = map (λ (f : First). f.atom) part in
    let all = atoms_within from to firsts in
    same_members (set_of some) (set_of all) (set_of-rises some) (set_of-rises all)
    (among_all (set_of some) (set_of all) (λ a there.
    let f = map-Contains (λ (f : First). f.atom) part a (set_of-is some a there) in
    let of = (is f.0).0 f.1 in
    is-set_of all a (subst (λ z. Contains all z) (sym f.2) (is-atoms_within from to firsts f.0 of.0 of.1 of.2))))
    (among_all (set_of all) (set_of some) (λ a there.
    let f = atoms_within-is from to firsts a (set_of-is all a there) in
    is-set_of some a (subst (λ z. Contains some z) f.4 (Contains-map (λ (f : First). f.atom) part f.0 ((is f.0).1 (f.1, f.2, f.3))))))

-- ---- atoms that a label gets

pub union_set : (start atoms : List ℕ) → IsStrictlyIncreasing start → union_of start atoms ≡ union_of start (set_of atoms)
union_set start atoms up =
    let one = union_of start atoms in
    let two = union_of start (set_of atoms) in
    same_members one two (IsStrictlyIncreasing-union_of start atoms up) (IsStrictlyIncreasing-union_of start (set_of atoms) up)
    (among_all one two (λ a there. (Contains-union_of start (set_of atoms) a).1 (elim ((Contains-union_of start atoms a).0 there) [ inl old ↦ inl old | inr new ↦ inr (is-set_of atoms a new) ])))
    (among_all two one (λ a there. (Contains-union_of start atoms a).1 (elim ((Contains-union_of start (set_of atoms) a).0 there) [ inl old ↦ inl old | inr new ↦ inr (set_of-is atoms a new) ])))

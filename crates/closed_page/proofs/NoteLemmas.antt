-- The notes of a page, and the firsts for which they stand.
use Rattle.std.proofs.Common.{◌≡◌, ◌⊎◌, ℕ, ◌+◌, ◌<◌, ◌≤◌, Bool, not, cond, List, [], ◌∷◌, ◌++◌, map, length, get_or, take, Some, slice_get, Result, Ok, Err, OnOk, inl, inr, All, Contains, refl, sym, ap, ◌∙◌, arith, subst, append-nil}
use Rattle.std.specs.List.{filter}
use Rattle.std.specs.List.Sorted.{IsStrictlyIncreasing}
use Rattle.std.proofs.lemmas.Bool.{cases_lt, cases_Bool}
use Rattle.std.proofs.lemmas.Grind.{flat_map-append}
use Rattle.std.proofs.lemmas.List.{map-append, get_or_default}
use Rattle.std.proofs.lemmas.List.Elements.{filter-append, Contains-append_cases, All-contains}
use Rattle.std.proofs.lemmas.List.Kept.{IsStrictlyIncreasing-filter}
use Rattle.std.proofs.lemmas.Option.{get_or_from_slice_get}
use Rattle.tp_base.specs.Classes.{has_class, union_of}
use Rattle.tp_base.proofs.ClassLemmas.{Contains-has_class, Contains-union_of, IsStrictlyIncreasing-union_of}
use Rattle.tp_base.proofs.Lists.{take_next, flat_map-Contains, Contains-only}
use Rattle.tp_base.proofs.Rising.{rises_between, same_members, All-from_Contains, Contains-none, Contains-here, Contains-behind}
use Rattle.tree_sem.proofs.NodeLemmas.{map-Contains}
use Rattle.closed_page.specs.declared.first_rounds.Spot.{Spot}
use Rattle.closed_page.specs.declared.notes.NodeNews.{NodeNews}
use Rattle.closed_page.specs.Labelled.{Labelled}
use Rattle.closed_page.specs.Notes.{NodeFirst, node_firsts, firsts_in, expanded, IsNoted, IsSpot, AreAtSpots}
use Rattle.closed_page.specs.Firsts.{path_to, IsSpotOf, placed_one, placed, AreSpots}
use Rattle.closed_page.specs.Gains.{new_of, firsts_at}
use Rattle.closed_page.specs.Views.{PageFirst}
use Rattle.closed_page.proofs.CallLemmas.{pushed}

-- ---- a node without atoms

pub none_noted : (own label v : List ℕ) (round : ℕ) (fs : List PageFirst) → own ≡ label → length own ≡ 0 → fs ≡ fs ++ firsts_at v [] label round
none_noted [] label v round fs same none = sym (append-nil fs) ∙ ap (λ (z : List ℕ). fs ++ firsts_at v [] z round) same
none_noted (a ∷ own) label v round fs same none = absurd (omega (arith, none))

-- ---- a walk along two sets

-- one atom more that the other set doesn't have
pub missing_more : (xs ys : List ℕ) (i a : ℕ) → slice_get xs i ≡ Some a → ((x : ℕ) → Contains (take i xs) x → Contains ys x → ⊥) → (Contains ys a → ⊥) → (x : ℕ) → Contains (take (i + 1) xs) x → Contains ys x → ⊥
missing_more xs ys i a at before last x there other =
    elim (Contains-append_cases (take i xs) (a ∷ []) x (subst (λ (z : List ℕ). Contains z x) (take_next xs i a at) there)) [
      | inl early ↦ before x early other
      | inr now ↦ last (subst (Contains ys) (sym (Contains-only a x now)) other)
    ]

-- the same of atoms that are in one of two lists
pub either_more : (xs ys zs : List ℕ) (i a : ℕ) → slice_get xs i ≡ Some a → ((x : ℕ) → Contains (take i xs) x → Contains ys x ⊎ Contains zs x) → Contains ys a ⊎ Contains zs a
    → (x : ℕ) → Contains (take (i + 1) xs) x → Contains ys x ⊎ Contains zs x
either_more xs ys zs i a at before last x there =
    elim (Contains-append_cases (take i xs) (a ∷ []) x (subst (λ (z : List ℕ). Contains z x) (take_next xs i a at) there)) [
      | inl early ↦ before x early
      | inr now ↦ subst (λ z. Contains ys z ⊎ Contains zs z) (Contains-only a x now) last
    ]

-- a list that rises is the union of two that are in it, and have all of it
pub joined_set : (xs ys zs : List ℕ) → IsStrictlyIncreasing xs → IsStrictlyIncreasing ys → All (Contains xs) ys → All (Contains xs) zs → ((a : ℕ) → Contains xs a → Contains ys a ⊎ Contains zs a) → xs ≡ union_of ys zs
joined_set xs ys zs up up_ys first second either =
    same_members xs (union_of ys zs) up (IsStrictlyIncreasing-union_of ys zs up_ys) (All-from_Contains (Contains (union_of ys zs)) xs (λ a there. (Contains-union_of ys zs a).1 (either a there)))
    (All-from_Contains (Contains xs) (union_of ys zs) (λ a there. elim ((Contains-union_of ys zs a).0 there) [ inl left ↦ All-contains (Contains xs) ys a first left | inr right ↦ All-contains (Contains xs) zs a second right ]))

-- no atom of xs before the i-th is in ys, and no atom of ys before the j-th is in xs
abbrev pub AreApartTo : List ℕ → List ℕ → ℕ → ℕ → Type 0
AreApartTo xs ys i j = (k l : ℕ) → k < length xs → l < length ys → (k < i) ⊎ (l < j) → get_or xs k 0 ≡ get_or ys l 0 → ⊥

module _ (xs ys : List ℕ) (i j x y : ℕ) (x_is : slice_get xs i ≡ Some x) (y_is : slice_get ys j ≡ Some y) (so_far : AreApartTo xs ys i j) where
  x_at : get_or xs i 0 ≡ x
  x_at = get_or_from_slice_get xs i x 0 x_is

  y_at : get_or ys j 0 ≡ y
  y_at = get_or_from_slice_get ys j y 0 y_is

  pub apart_left : IsStrictlyIncreasing ys → x < y → AreApartTo xs ys (i + 1) j
  apart_left rising less k l in_xs in_ys before same = elim before [
    | inr early ↦ so_far k l in_xs in_ys (inr early) same
    | inl upto ↦ elim (cases_lt k i) [
      | inl early ↦ so_far k l in_xs in_ys (inl early) same
      | inr late ↦ elim (cases_lt l j) [
        | inl early ↦ so_far k l in_xs in_ys (inr early) same
        | inr from ↦
            let here : k ≡ i = omega (arith, upto, late) in
            let at : get_or ys l 0 ≡ x = sym same ∙ ap (λ z. get_or xs z 0) here ∙ x_at in
            let up = rises_between ys rising j l from in_ys in
            omega (arith, at, y_at, up, less)
      ]
    ]
  ]

  pub apart_right : IsStrictlyIncreasing xs → y < x → AreApartTo xs ys i (j + 1)
  apart_right rising less k l in_xs in_ys before same = elim before [
    | inl early ↦ so_far k l in_xs in_ys (inl early) same
    | inr upto ↦ elim (cases_lt l j) [
      | inl early ↦ so_far k l in_xs in_ys (inr early) same
      | inr late ↦ elim (cases_lt k i) [
        | inl early ↦ so_far k l in_xs in_ys (inl early) same
        | inr from ↦
            let here : l ≡ j = omega (arith, upto, late) in
            let at : get_or xs k 0 ≡ y = same ∙ ap (λ z. get_or ys z 0) here ∙ y_at in
            let up = rises_between xs rising i k from in_xs in
            omega (arith, at, x_at, up, less)
      ]
    ]
  ]

pub apart_end : (xs ys : List ℕ) (i j : ℕ) → AreApartTo xs ys i j → (length xs ≤ i) ⊎ (length ys ≤ j) → (a : ℕ) → Contains xs a → Contains ys a → ⊥
apart_end xs ys i j so_far over a (k, in_xs, at_x) (l, in_ys, at_y) =
    so_far k l in_xs in_ys (elim over [ inl none ↦ inl (omega (arith, none, in_xs)) | inr none ↦ inr (omega (arith, none, in_ys)) ])
    (sym (get_or_default xs k a 0 in_xs) ∙ at_x ∙ sym at_y ∙ get_or_default ys l a 0 in_ys)

-- ---- what of a label is new

pub new_more : (own set : List ℕ) (i a : ℕ) (left next : List ℕ) → slice_get set i ≡ Some a → left ≡ new_of own (take i set) → next ≡ left ++ new_of own (a ∷ []) → next ≡ new_of own (take (i + 1) set)
new_more own set i a left next is so_far more =
    let p : ℕ → Bool = λ a. not (has_class a own) in
    more ∙ ap (λ z. z ++ new_of own (a ∷ [])) so_far ∙ sym (filter-append p (take i set) (a ∷ [])) ∙ ap (filter p) (sym (take_next set i a is))

pub new_set : (own set left : List ℕ) → IsStrictlyIncreasing set → left ≡ new_of own set → union_of [] left ≡ new_of own set
new_set own set left rising is =
    let up : IsStrictlyIncreasing left = subst IsStrictlyIncreasing (sym is) (IsStrictlyIncreasing-filter (λ a. not (has_class a own)) set rising) in
    same_members (union_of [] left) left (IsStrictlyIncreasing-union_of [] left none_rises) up
    (All-from_Contains (Contains left) (union_of [] left) (λ x there. elim ((Contains-union_of [] left x).0 there) [ inl none ↦ absurd (Contains-none x none) | inr here ↦ here ]))
    (All-from_Contains (Contains (union_of [] left)) left (λ x there. (Contains-union_of [] left x).1 (inr there)))
    ∙ is
  where
    none_rises : IsStrictlyIncreasing []
    none_rises k less = absurd (omega (arith, less))

-- where a node has none of the atoms, all are new
pub all_new : (own set : List ℕ) → ((a : ℕ) → Contains set a → Contains own a → ⊥) → set ≡ new_of own set
all_new own [] apart = refl
all_new own (x ∷ set) apart =
    let rest = all_new own set (λ a there. apart a (Contains-behind a x set there)) in
    elim (cases_Bool (has_class x own)) [
      | inl old ↦ absurd (apart x (Contains-here x x set refl) (Contains-has_class x own old))
      | inr none ↦ ap (λ z. x ∷ z) rest ∙ ap (λ b. cond (not b) (x ∷ new_of own set) (new_of own set)) (sym none)
    ]

-- ---- one note more

pub expanded_more : (old new : List NodeNews) (spot : Spot) (own label : List ℕ) (round : ℕ) → IsNoted old new spot own label round → expanded new ≡ expanded old ++ node_firsts spot round (new_of own label)
expanded_more old new spot own label round is =
    let n : NodeNews = record { spot = spot; round = round; atoms = new_of own label } in
    ap expanded is ∙ flat_map-append firsts_in old (n ∷ []) ∙ ap (λ z. expanded old ++ z) (append-nil (firsts_in n))

pub spots_more : (nodes : List (List ℕ)) (old new : List NodeNews) (n : NodeNews) (v : List ℕ) → new ≡ old ++ n ∷ [] → IsSpotOf nodes v n.spot → AreAtSpots nodes old → AreAtSpots nodes new
spots_more nodes old new n v is stands before m there = elim (pushed old new n m is there) [
  | inl old_one ↦ before m old_one
  | inr new_one ↦ subst (λ (z : NodeNews). IsSpot nodes z.spot.parent z.spot.step) (sym new_one) stands.right
]

-- each first stands where its note does
pub spots_all : (nodes : List (List ℕ)) (notes : List NodeNews) → AreAtSpots nodes notes → AreSpots nodes (expanded notes)
spots_all nodes notes at f there =
    let (n, listed, in_n) = flat_map-Contains firsts_in notes f there in
    let (a, in_atoms, is) = map-Contains (λ (a : ℕ). record { parent = n.spot.parent; atom = a; step = n.spot.step; round = n.round }) n.atoms f in_n in
    subst (λ (z : NodeFirst). IsSpot nodes z.parent z.step) (sym is) (at n listed)

-- the same with the path of the node
placed_rows : (nodes : List (List ℕ)) (spot : Spot) (v : List ℕ) (round : ℕ) → path_to nodes spot.parent spot.step ≡ v → (atoms : List ℕ) → placed nodes (node_firsts spot round atoms) ≡ map (λ a. record { at = v; atom = a; round = round }) atoms
placed_rows nodes spot v round path [] = refl
placed_rows nodes spot v round path (a ∷ atoms) = λ i. record { at = path i; atom = a; round = round } ∷ placed_rows nodes spot v round path atoms i

placed_more : (nodes : List (List ℕ)) (spot : Spot) (v own label : List ℕ) (round : ℕ) (old new : List NodeNews) → IsSpotOf nodes v spot → IsNoted old new spot own label round
    → placed nodes (expanded new) ≡ placed nodes (expanded old) ++ firsts_at v own label round
placed_more nodes spot v own label round old new stands is =
    ap (placed nodes) (expanded_more old new spot own label round is) ∙ map-append (placed_one nodes) (expanded old) (node_firsts spot round (new_of own label))
    ∙ ap (λ z. placed nodes (expanded old) ++ z) (placed_rows nodes spot v round stands.path (new_of own label))

pub noted : {T E : Type 0} (l : Labelled) (nodes : List (List ℕ)) (olds newer : List NodeNews) (spot : Spot) (v own own' label label' : List ℕ) (round : ℕ) (r : Result T E) → nodes ≡ l.nodes → placed nodes (expanded olds) ≡ l.firsts → IsSpotOf l.nodes v spot
    → own ≡ own' → label ≡ label' → OnOk r (IsNoted olds newer spot own label round) → OnOk r (placed nodes (expanded newer) ≡ l.firsts ++ firsts_at v own' label' round)
noted l nodes olds newer spot v own own' label label' round (Ok x) same firsts stands own_is label_is is =
    let before : placed l.nodes (expanded olds) ≡ l.firsts = ap (λ z. placed z (expanded olds)) (sym same) ∙ firsts in
    ap (λ z. placed z (expanded newer)) same ∙ placed_more l.nodes spot v own label round olds newer stands is ∙ ap (λ z. z ++ firsts_at v own label round) before
    ∙ ap (λ z. l.firsts ++ firsts_at v z label round) own_is ∙ ap (λ z. l.firsts ++ firsts_at v own' z round) label_is
noted l nodes olds newer spot v own own' label label' round (Err e) same firsts stands own_is label_is is = tt

-- A walk from the first node, step by step.
use Rattle.std.proofs.Common.{◌≡◌, ℕ, zero, suc, ◌+◌, ◌<◌, ◌≤◌, List, [], ◌∷◌, ◌++◌, length, take, drop, Option, Some, None, option_map, option_and_then, unwrap_or, slice_get, refl, sym, ap, ◌∙◌, length-append, inl, inr, arith}
use Rattle.std.proofs.lemmas.Bool.{cases_eq, eq-eqb, ne_eqb}
use Rattle.std.proofs.lemmas.List.{take_more, take-append-drop}
use Rattle.std.proofs.lemmas.Option.{get_or_from_slice_get, slice_get_within}
use Rattle.slab.specs.Slab.{Slab}
use Rattle.tree_sem.specs.declared.slots.Slot.{Slot}
use Rattle.tree_sem.specs.Arena.{place_from, number_in, path_up, IsArena}
use Rattle.tree_sem.specs.Paths.{parent_of}
use Rattle.tree_sem.specs.Table.{kids_in, label_in, parent_in, path_in, most_levels, IsForest}
use Rattle.tree_sem.proofs.ArenaLemmas.{place_depth}
use Rattle.tree_sem.proofs.PathLemmas.{take_take, parent_of-none, child_of_parent}

module _ (kids : ℕ → List ℕ) where
  pub place_from-append : (p q : List ℕ) (i : ℕ) → place_from kids i (p ++ q) ≡ option_and_then (λ j. place_from kids j q) (place_from kids i p)
  place_from-append [] q i = refl
  place_from-append (k ∷ p) q i =
      elim (slice_get (kids i) k)
      as (λ o. option_and_then (λ c. place_from kids c (p ++ q)) o ≡ option_and_then (λ j. place_from kids j q) (option_and_then (λ c. place_from kids c p) o)) [
        | None ↦ refl
        | Some c ↦ place_from-append p q c
      ]

  -- one step more
  pub place_more : (p : List ℕ) (m k i j : ℕ) → slice_get p m ≡ Some k → place_from kids i (take m p) ≡ Some j → place_from kids i (take (m + 1) p) ≡ slice_get (kids j) k
  place_more p m k i j step at =
      rw (take_more p m 0 (slice_get_within p m k step), get_or_from_slice_get p m k 0 step, place_from-append (take m p) (k ∷ []) i, at)
      (elim (slice_get (kids j) k) as (λ o. option_and_then (λ c. place_from kids c []) o ≡ o) [ None ↦ refl | Some c ↦ refl ])

  -- a walk that stops early finds nothing further on
  pub place_none : (p : List ℕ) (m n i : ℕ) → m ≤ n → place_from kids i (take m p) ≡ None → place_from kids i (take n p) ≡ None
  place_none p m n i le none =
      let split : take n p ≡ take m p ++ drop m (take n p) = sym (take-append-drop m (take n p)) ∙ ap (λ z. z ++ drop m (take n p)) (take_take m n p le) in
      rw (split, place_from-append (take m p) (drop m (take n p)) i, none)

  -- to a child
  pub place_child : (v : List ℕ) (k i m j : ℕ) → place_from kids i v ≡ Some m → slice_get (kids m) k ≡ Some j → place_from kids i (v ++ k ∷ []) ≡ Some j
  place_child v k i m j at next = place_from-append v (k ∷ []) i ∙ ap (option_and_then (λ z. place_from kids z (k ∷ []))) at ∙ ap (option_and_then (λ c. place_from kids c [])) next

  -- and from one
  pub place_above : (v : List ℕ) (k i j : ℕ) → place_from kids i (v ++ k ∷ []) ≡ Some j → (m : ℕ) × (place_from kids i v ≡ Some m) × (slice_get (kids m) k ≡ Some j)
  place_above v k i j at =
      elim (place_from kids i v) as (λ o. place_from kids i v ≡ o → option_and_then (λ z. place_from kids z (k ∷ [])) o ≡ Some j → (m : ℕ) × (place_from kids i v ≡ Some m) × (slice_get (kids m) k ≡ Some j)) [
        | None ↦ λ e is. cc
        | Some m ↦ λ e is. (m, e, elim (slice_get (kids m) k) as (λ o. option_and_then (λ c. place_from kids c []) o ≡ Some j → o ≡ Some j) [ None ↦ λ z. z | Some c ↦ λ z. z ] is)
      ] refl (sym (place_from-append v (k ∷ []) i) ∙ at)

-- the first place of a number in a list has it
first_place : (cs : List ℕ) (i k : ℕ) → slice_get cs k ≡ Some i → slice_get cs (number_in i cs) ≡ Some i
first_place [] i k at = cc
first_place (c ∷ cs) i zero at = let same : c ≡ i = cc in rw (eq-eqb c i same) (ap Some same)
first_place (c ∷ cs) i (suc k) at = elim (cases_eq c i) [
  | inl same ↦ rw (eq-eqb c i same) (ap Some same)
  | inr other ↦ rw (ne_eqb c i other) (first_place cs i k at)
]

-- the path by the parents is the one that leads to the node
path_up_is : (kids : ℕ → List ℕ) (parent : ℕ → Option ℕ) (most : ℕ) → IsArena most kids parent → (n : ℕ) (q : List ℕ) (i : ℕ) → place_from kids 0 q ≡ Some i → length q < n → path_up kids parent n i ≡ q
path_up_is kids parent most arena zero q i at less = absurd (omega arith)
path_up_is kids parent most arena (suc n) q i at less =
    elim (parent_of q) as (λ o. parent_of q ≡ o → path_up kids parent (suc n) i ≡ q) [
      | None ↦ λ e.
          let root = parent_of-none q e in
          let first : Some 0 ≡ Some i = sym (ap (place_from kids 0) root) ∙ at in
          let first' : 0 ≡ i = cc in
          ap (λ o. unwrap_or (option_map (λ j. path_up kids parent n j ++ number_in i (kids j) ∷ []) o) []) (ap parent (sym first') ∙ arena.root) ∙ sym root
      | Some v ↦ λ e.
          let last = child_of_parent q v e in
          let k = last.0 in
          let above = place_above kids v k 0 i (sym (ap (place_from kids 0) last.1) ∙ at) in
          let m = above.0 in
          let long = ap length last.1 in
          let rest = path_up_is kids parent most arena n v m above.1 (omega (arith, less, long, length-append v (k ∷ []))) in
          let number : number_in i (kids m) ≡ k = arena.once m (number_in i (kids m)) k i (first_place (kids m) i k above.2) above.2 in
          ap (λ o. unwrap_or (option_map (λ j. path_up kids parent n j ++ number_in i (kids j) ∷ []) o) []) (arena.up m k i above.2)
          ∙ ap (λ z. z ++ number_in i (kids m) ∷ []) rest ∙ ap (λ z. v ++ z ∷ []) number ∙ sym last.1
    ] refl

pub path_of_place : (slots : Slab Slot) → IsForest slots → (q : List ℕ) (i : ℕ) → place_from (kids_in slots) 0 q ≡ Some i → path_in slots i ≡ q
path_of_place slots forest q i at =
    let deep = place_depth (label_in slots) (kids_in slots) (parent_in slots) most_levels forest.arena q 0 i at in
    path_up_is (kids_in slots) (parent_in slots) most_levels forest.arena most_levels q i at (omega (arith, deep, forest.arena.shallow i))

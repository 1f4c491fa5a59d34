-- The steps of a walk along two lists that rise.
use Rattle.std.proofs.Common.{◌≡◌, ℕ, suc, ◌+◌, ◌<◌, ◌≤◌, Bool, true, false, eqb, nat_lt, List, [], ◌∷◌, ◌++◌, length, get_or, slice_get, drop, take, Some, All, refl, sym, ap, ◌∙◌, subst, inl, inr, arith, append-nil}
use Rattle.std.specs.List.{prefix_len}
use Rattle.std.specs.List.Sorted.{IsStrictlyIncreasing}
use Rattle.std.specs.Option.{option_eq}
use Rattle.std.proofs.lemmas.Bool.{lt-ltb, le-ltb, eq-eqb, ne_eqb, cases_lt, cases_eq, false_from_ne_true}
use Rattle.std.proofs.lemmas.List.Elements.{All-weaker, All-cons, All-head, All-tail}
use Rattle.std.proofs.lemmas.List.{take_more_set, get_or-set_other}
use Rattle.std.proofs.lemmas.List.Elements.{filter_more}
use Rattle.std.proofs.Math.ListN.{set}
use Rattle.tp_base.specs.Classes.{has_class, with_class, union_of, cut_to}
use Rattle.tp_base.proofs.Rising.{Contains-behind, rises_tail, rises_head, rises_between, not_below}
use Rattle.tp_base.proofs.ClassLemmas.{Contains-has_class, with_class-below, with_class-same, with_class-above}

-- how many numbers at the front are below a
abbrev below : ℕ → List ℕ → ℕ
below a xs = prefix_len (λ x. nat_lt x a) xs

-- behind them a stands first, or not at all
pub seek_test : (a : ℕ) (xs : List ℕ) → IsStrictlyIncreasing xs → option_eq eqb (slice_get (drop (below a xs) xs) 0) (Some a) ≡ has_class a xs
seek_test a [] up = refl
seek_test a (x ∷ xs) up = elim (cases_lt x a) [
  | inl less ↦
      let more : 1 + below a xs ≡ suc (below a xs) = omega arith in
      rw (lt-ltb x a less, more, ne_eqb x a (omega arith)) (seek_test a xs (rises_tail x xs up))
  | inr above ↦ rw (le-ltb x a above) (elim (cases_eq x a) [
    | inl same ↦ rw (eq-eqb x a same) refl
    | inr other ↦ rw (ne_eqb x a other) (sym (false_from_ne_true (has_class a xs) (λ there. not_below a x xs up (omega arith) (Contains-behind a x xs (Contains-has_class a xs there)))))
  ])
]

-- and what is not below a is there as before
pub seek_same : (a : ℕ) (xs : List ℕ) (x : ℕ) → a ≤ x → has_class x (drop (below a xs) xs) ≡ has_class x xs
seek_same a [] x le = refl
seek_same a (y ∷ ys) x le = elim (cases_lt y a) [
  | inl less ↦
      let more : 1 + below a ys ≡ suc (below a ys) = omega arith in
      rw (lt-ltb y a less, more, ne_eqb y x (omega arith)) (seek_same a ys x le)
  | inr above ↦ rw (le-ltb y a above) refl
]

-- a number below all others goes first
pub union_of-first : (x : ℕ) (xs ys : List ℕ) → All (λ y. x < y) ys → union_of (x ∷ xs) ys ≡ x ∷ union_of xs ys
union_of-first x xs [] above = refl
union_of-first x xs (y ∷ ys) above =
    rw (with_class-above y x xs (All-head (λ z. x < z) y ys above)) (union_of-first x (with_class y xs) ys (All-tail (λ z. x < z) y ys above))

all_above : (x y : ℕ) (ys : List ℕ) → x < y → IsStrictlyIncreasing (y ∷ ys) → All (λ z. x < z) (y ∷ ys)
all_above x y ys less up = All-cons (λ z. x < z) y ys less (All-weaker (λ z. y < z) (λ z. x < z) (λ z more. omega arith) ys (rises_head y ys up))

-- the steps, each with the two lists as they were split
pub union_of-left : (ls rs : List ℕ) → length ls ≡ 0 → IsStrictlyIncreasing rs → union_of ls rs ≡ ls ++ rs
union_of-left [] [] none up = refl
union_of-left [] (y ∷ ys) none up = union_of-first y [] ys (rises_head y ys up) ∙ ap (λ zs. y ∷ zs) (union_of-left [] ys refl (rises_tail y ys up))
union_of-left (a ∷ ls) rs none up = absurd (omega arith)

pub union_of-right : (ls rs : List ℕ) → length rs ≡ 0 → union_of ls rs ≡ ls ++ rs
union_of-right ls [] none = sym (append-nil ls)
union_of-right ls (b ∷ rs) none = absurd (omega arith)

module _ (ls : List ℕ) (x : ℕ) (xs rs : List ℕ) (y : ℕ) (ys : List ℕ) (l_is : ls ≡ x ∷ xs) (r_is : rs ≡ y ∷ ys) (up : IsStrictlyIncreasing rs) where
  rising : IsStrictlyIncreasing (y ∷ ys)
  rising = subst IsStrictlyIncreasing r_is up

  pub union_of-less : x < y → union_of ls rs ≡ x ∷ union_of xs rs
  union_of-less less = rw (l_is, r_is) (union_of-first x xs (y ∷ ys) (all_above x y ys less rising))

  pub union_of-same : x ≡ y → union_of ls rs ≡ x ∷ union_of xs ys
  union_of-same same =
      rw (l_is, r_is, with_class-same y x xs (sym same)) (union_of-first x xs ys (All-weaker (λ z. y < z) (λ z. x < z) (λ z more. omega arith) ys (rises_head y ys rising)))

  pub union_of-more : y < x → union_of ls rs ≡ y ∷ union_of ls ys
  union_of-more more = rw (l_is, r_is, with_class-below y x xs more) (union_of-first y (x ∷ xs) ys (rises_head y ys rising))

pub rises_behind : (ls : List ℕ) (x : ℕ) (xs : List ℕ) → ls ≡ x ∷ xs → IsStrictlyIncreasing ls → IsStrictlyIncreasing xs
rises_behind ls x xs is up = rises_tail x xs (subst IsStrictlyIncreasing is up)

-- of each atom from a place on, what is left of the others tells what they tell
pub record StillTells (atoms left others : List ℕ) (place : ℕ) : Type 0 where
  pub rising : IsStrictlyIncreasing left
  pub same : (k : ℕ) → place ≤ k → k < length atoms → has_class (get_or atoms k 0) left ≡ has_class (get_or atoms k 0) others

-- a search for the atom at the place tells of it, and leaves what tells of the later ones
module _ (atoms left others rest : List ℕ) (place a : ℕ) (there : Bool) (still : StillTells atoms left others place) (within : place < length atoms) (is : a ≡ get_or atoms place 0) where
  pub told : there ≡ has_class a left → there ≡ has_class (get_or atoms place 0) others
  told test = test ∙ ap (λ x. has_class x left) is ∙ still.same place (omega arith) within

  pub still_next : IsStrictlyIncreasing atoms → ((x : ℕ) → a ≤ x → has_class x rest ≡ has_class x left) → IsStrictlyIncreasing rest → StillTells atoms rest others (place + 1)
  still_next up kept rising = record {
    rising = rising;
    same = λ k from in_atoms.
        let later = rises_between atoms up place k (omega arith) in_atoms in
        kept (get_or atoms k 0) (omega arith) ∙ still.same k (omega arith) in_atoms;
  }

-- the common ones among the first atoms stand in front, and the later atoms are as they were
pub record IsGathered (old now others : List ℕ) (place kept : ℕ) : Type 0 where
  pub few : kept ≤ place
  pub later : (k : ℕ) → place ≤ k → get_or now k 0 ≡ get_or old k 0
  pub front : take kept now ≡ cut_to others (take place old)

module _ (old now others : List ℕ) (place kept : ℕ) (so_far : IsGathered old now others place kept) (within : place < length old) where
  pub gathered_more : length now ≡ length old → has_class (get_or old place 0) others ≡ true → IsGathered old (set now kept (get_or old place 0)) others (place + 1) (kept + 1)
  gathered_more len there =
      let few = so_far.few in
      let more = filter_more (λ y. has_class y others) old place 0 within in
      record {
        few = omega arith;
        later = λ k from. get_or-set_other now kept k (get_or old place 0) 0 (λ same. omega arith) ∙ so_far.later k (omega arith);
        front = take_more_set now kept (get_or old place 0) (omega arith) ∙ ap (λ zs. zs ++ get_or old place 0 ∷ []) so_far.front ∙ sym (rw there at more);
      }

  pub gathered_none : has_class (get_or old place 0) others ≡ false → IsGathered old now others (place + 1) kept
  gathered_none none =
      let few = so_far.few in
      let more = filter_more (λ y. has_class y others) old place 0 within in
      record {
        few = omega arith;
        later = λ k from. so_far.later k (omega arith);
        front = so_far.front ∙ sym (append-nil (cut_to others (take place old))) ∙ sym (rw none at more);
      }

-- What comes to an added node, each with its first round.
--     sorted_arrivals                    in the order of their rounds
--     begun_next, begun_cut              those that are there by a round are the first of them
--     arrived_by                         and they are the visible part of the label
use Rattle.std.proofs.Common.{◌≡◌, ◌↔◌, ℕ, suc, ◌+◌, ◌<◌, ◌≤◌, List, [], ◌∷◌, ◌++◌, length, take, drop, get_or, Result, Ok, Err, IfOk, Contains, inl, inr, refl, sym, ◌∙◌, subst, arith}
use Rattle.std.specs.List.Sorted.{IsStrictlyIncreasing, IsPermutation}
use Rattle.std.proofs.lemmas.Bool.{cases_lt}
use Rattle.std.proofs.lemmas.List.{take_more, take_all, take-append-drop, length-take-le, get_or-take, get_or_read}
use Rattle.std.proofs.lemmas.List.Sorted.{Contains-permutation, IsPermutation-sym}
use Rattle.std.proofs.lemmas.List.Elements.{Contains-append_cases, Contains-append_left, Contains-append_right}
use Rattle.tp_base.specs.Classes.{union_of, cut_to}
use Rattle.tp_base.proofs.Rising.{All-from_Contains, Contains-here, Contains-cons, Contains-none}
use Rattle.tp_base.proofs.ClassLemmas.{Contains-union_of, IsStrictlyIncreasing-union_of, Contains-cut_to, IsStrictlyIncreasing-cut_to, same_members}
use Rattle.simple_core.specs.declared.summaries.First.{First}
use Rattle.simple_core.specs.Firsts.{AreFirsts}
use Rattle.simple_core.proofs.Members.{Among}
use Rattle.simple_core.proofs.RestLemmas.{first_is}
use Rattle.proof_maker.specs.Arrivals.{AreArrivals, AreByRounds, CameBy}

pub last_of : {X : Type 0} (x y : X) → Contains (x ∷ []) y → y ≡ x
last_of x y is = elim ((Contains-cons y x []).0 is) [ inl here ↦ here | inr none ↦ absurd (Contains-none y none) ]

-- these atoms are there by the round
abbrev pub AreBegun : List First → ℕ → List ℕ → Type 0
AreBegun items k atoms = (a : ℕ) → Contains atoms a ↔ CameBy items k a

pub begun_start : (items : List First) (k : ℕ) (atoms : List ℕ) → atoms ≡ [] → AreBegun (take 0 items) k atoms
begun_start items k atoms none = λ a. (λ there. absurd (Contains-none a (subst (λ (z : List ℕ). Contains z a) none there)), λ is. absurd (Contains-none is.0 is.1))

module _ (xs : List First) (c : First) (k : ℕ) (atoms : List ℕ) (low : c.round ≤ k) (before : AreBegun xs k atoms) where
  begun_one : AreBegun (xs ++ c ∷ []) k (atoms ++ c.atom ∷ [])
  begun_one = λ a. (
    λ there. elim (Contains-append_cases atoms (c.atom ∷ []) a there) [
      | inl old ↦ let is = (before a).0 old in (is.0, Contains-append_left xs (c ∷ []) is.0 is.1, is.2, is.3)
      | inr new ↦ (c, Contains-append_right xs (c ∷ []) c (Contains-here c c [] refl), sym (last_of c.atom a new), low)
    ],
    λ is. elim (Contains-append_cases xs (c ∷ []) is.0 is.1) [
      | inl old ↦ Contains-append_left atoms (c.atom ∷ []) a ((before a).1 (is.0, old, is.2, is.3))
      | inr new ↦
          let one : is.0 ≡ c = last_of c is.0 new in
          let same : c.atom ≡ a = subst (λ (z : First). z.atom ≡ a) one is.2 in
          Contains-append_right atoms (c.atom ∷ []) a (Contains-here a c.atom [] (sym same))
    ],
  )

module _ (items : List First) (i k : ℕ) (c : First) (atoms : List ℕ) (less : i < length items) (here : c ≡ get_or items i c) (before : AreBegun (take i items) k atoms) where
  pub begun_next : (atoms' : List ℕ) → c.round ≤ k → atoms' ≡ atoms ++ c.atom ∷ [] → AreBegun (take (i + 1) items) k atoms'
  begun_next atoms' low is =
      let longer : take (i + 1) items ≡ take i items ++ c ∷ [] = take_more items i c less ∙ (λ n. take i items ++ sym here n ∷ []) in
      subst (λ (z : List ℕ). AreBegun (take (i + 1) items) k z) (sym is) (subst (λ (z : List First). AreBegun z k (atoms ++ c.atom ∷ [])) (sym longer) (begun_one (take i items) c k atoms low before))

  -- the next of a list by rounds is later, and so are all behind it
  pub begun_cut : AreByRounds items → k < c.round → AreBegun items k atoms
  begun_cut order high = λ a. (
    λ there. let is = (before a).0 there in (is.0, subst (λ (z : List First). Contains z is.0) (take-append-drop i items) (Contains-append_left (take i items) (drop i items) is.0 is.1), is.2, is.3),
    λ is. elim (cases_lt is.1.0 i) [
      | inl lt ↦ (before a).1 (is.0, (is.1.0, subst (λ n. is.1.0 < n) (sym (length-take-le i items (omega (arith, less)))) lt, get_or-take i items is.1.0 is.0 lt ∙ is.1.2), is.2, is.3)
      | inr ge ↦
          let first : c ≡ get_or items i is.0 = get_or_read items i c less here is.0 in
          let le : (get_or items i is.0).round ≤ (get_or items is.1.0 is.0).round = order i is.1.0 is.0 ge is.1.1 in
          let le' : c.round ≤ is.0.round = subst (λ (z : First). z.round ≤ is.0.round) (sym first) (subst (λ (z : First). (get_or items i is.0).round ≤ z.round) is.1.2 le) in
          absurd (omega (arith, le', is.3, high))
    ],
  )

pub begun_all : (items : List First) (i k : ℕ) (atoms : List ℕ) → length items ≤ i → AreBegun (take i items) k atoms → AreBegun items k atoms
begun_all items i k atoms past is = subst (λ (z : List First). AreBegun z k atoms) (take_all i items past) is

-- the same of the set that they make
pub begun_set : {E : Type 0} (items : List First) (k : ℕ) (atoms : List ℕ) (r : Result (List ℕ) E) → AreBegun items k atoms → IfOk r (λ l. (a : ℕ) → Contains l a ↔ Contains atoms a) → IfOk r (λ l. AreBegun items k l)
begun_set items k atoms (Ok l) begun same = λ a. (λ there. (begun a).0 ((same a).0 there), λ is. (same a).1 ((begun a).1 is))
begun_set items k atoms (Err e) begun same = tt

pub union_rises : {E : Type 0} (atoms : List ℕ) (r : Result (List ℕ) E) → IfOk r (λ l. l ≡ union_of [] atoms) → IfOk r IsStrictlyIncreasing
union_rises atoms (Ok l) is = subst (λ (z : List ℕ). IsStrictlyIncreasing z) (sym is) (IsStrictlyIncreasing-union_of [] atoms (λ i less. absurd (omega (arith, less))))
union_rises atoms (Err e) is = tt

pub union_atoms : {E : Type 0} (atoms : List ℕ) (r : Result (List ℕ) E) → IfOk r (λ l. l ≡ union_of [] atoms) → IfOk r (λ l. (a : ℕ) → Contains l a ↔ Contains atoms a)
union_atoms atoms (Ok l) is = λ a. (
  λ there. elim ((Contains-union_of [] atoms a).0 (subst (λ (z : List ℕ). Contains z a) is there)) [ inl none ↦ absurd (Contains-none a none) | inr new ↦ new ],
  λ there. subst (λ (z : List ℕ). Contains z a) (sym is) ((Contains-union_of [] atoms a).1 (inr there)),
)
union_atoms atoms (Err e) is = tt

-- in another order
pub sorted_arrivals : {E : Type 0} (visible : List ℕ) (labels : ℕ → List ℕ) (items : List First) (r : Result (List First) E) → AreFirsts visible labels items → IfOk r (IsPermutation items) → IfOk r AreByRounds → IfOk r (AreArrivals visible labels)
sorted_arrivals visible labels items (Ok sorted) firsts same order = record {
  firsts = record {
    right = λ c there. firsts.right c (Contains-permutation sorted items c (IsPermutation-sym items sorted same) there);
    whole = λ a k there came. let x = firsts.whole a k there came in (x.0, Contains-permutation items sorted x.0 same x.1, x.2);
  };
  order = order;
}
sorted_arrivals visible labels items (Err e) firsts same order = tt

-- the label of those that came is the visible part
module _ (visible : List ℕ) (labels : ℕ → List ℕ) (one : (k : ℕ) → Among (labels k) (labels (suc k))) (items : List First) (arrivals : AreFirsts visible labels items) (k : ℕ) (rises : IsStrictlyIncreasing (labels k)) where
  arrived_label : (label : List ℕ) → IsStrictlyIncreasing label → ((a : ℕ) → Contains label a ↔ CameBy items k a) → label ≡ cut_to visible (labels k)
  arrived_label label up each =
      same_members label (cut_to visible (labels k)) up (IsStrictlyIncreasing-cut_to visible (labels k) rises)
      (All-from_Contains (Contains (cut_to visible (labels k))) label (λ a there.
      let came = (each a).0 there in
      let r = arrivals.right came.0 came.1 in
      let is : Contains visible a × Contains (labels k) a = subst (λ z. Contains visible z × Contains (labels k) z) came.2 (r.0, (first_is labels one came.0.atom came.0.round r.1 k).1 came.3) in
      (Contains-cut_to visible (labels k) a).1 (is.0, is.1)))
      (All-from_Contains (Contains label) (cut_to visible (labels k)) (λ a there.
      let both = (Contains-cut_to visible (labels k) a).0 there in
      let came = arrivals.whole a k both.0 both.1 in
      let first = (arrivals.right came.0 came.1).1 in
      (each a).1 (came.0, came.1, came.2, (first_is labels one came.0.atom came.0.round first k).0 (subst (Contains (labels k)) (sym came.2) both.1))))

  pub arrived_by : {E : Type 0} (r : Result (List ℕ) E) → IfOk r IsStrictlyIncreasing → IfOk r (λ l. (a : ℕ) → Contains l a ↔ CameBy items k a) → IfOk r (λ l. l ≡ cut_to visible (labels k))
  arrived_by (Ok l) up each = arrived_label l up each
  arrived_by (Err e) up each = tt

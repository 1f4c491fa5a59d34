-- Atoms that come one after the other.
use Rattle.std.proofs.Common.{◌≡◌, ℕ, ◌+◌, List, [], ◌∷◌, ◌++◌, Contains, length, take, slice_get, Some, sym, ap, ◌∙◌, arith, inl, inr}
use Rattle.std.specs.List.Sorted.{IsStrictlyIncreasing}
use Rattle.std.proofs.lemmas.List.Sums.{fold-append}
use Rattle.tp_base.specs.Classes.{with_class, union_of}
use Rattle.tp_base.proofs.ClassLemmas.{Contains-union_of, IsStrictlyIncreasing-union_of, same_members}
use Rattle.std.proofs.lemmas.List.{append_assoc}
use Rattle.tp_base.proofs.Lists.{take_next}
use Rattle.tp_base.proofs.Rising.{Contains-none, All-from_Contains}

pub one_more : (atoms : List ℕ) (atom : ℕ) → union_of [] (atoms ++ atom ∷ []) ≡ with_class atom (union_of [] atoms)
one_more atoms atom = fold-append (λ s y. with_class y s) [] atoms (atom ∷ [])

-- one atom of a set more
pub set_more : (old now new set : List ℕ) (i a : ℕ) → slice_get set i ≡ Some a → now ≡ union_of old (take i set) → new ≡ with_class a now → new ≡ union_of old (take (i + 1) set)
set_more old now new set i a at before more =
    more ∙ ap (with_class a) before
    ∙ sym (ap (union_of old) (take_next set i a at) ∙ fold-append (λ s y. with_class y s) old (take i set) (a ∷ []))

-- one atom of a set more behind a list
pub next_pushed : (start now new set : List ℕ) (i a : ℕ) → slice_get set i ≡ Some a → now ≡ start ++ take i set → new ≡ now ++ a ∷ [] → new ≡ start ++ take (i + 1) set
next_pushed start now new set i a at before more =
    more ∙ ap (λ z. z ++ a ∷ []) before ∙ append_assoc start (take i set) (a ∷ []) ∙ ap (λ z. start ++ z) (sym (take_next set i a at))

-- ---- the set of atoms

pub set_rises : (atoms : List ℕ) → IsStrictlyIncreasing (union_of [] atoms)
set_rises atoms = IsStrictlyIncreasing-union_of [] atoms (λ k within. absurd (omega arith))

pub in_set : (atoms : List ℕ) (a : ℕ) → Contains atoms a → Contains (union_of [] atoms) a
in_set atoms a there = (Contains-union_of [] atoms a).1 (inr there)

pub of_set : (atoms : List ℕ) (a : ℕ) → Contains (union_of [] atoms) a → Contains atoms a
of_set atoms a there = elim ((Contains-union_of [] atoms a).0 there) [
  | inl none ↦ absurd (Contains-none a none)
  | inr listed ↦ listed
]

-- a list that rises is the set of its numbers
pub set_itself : (atoms : List ℕ) → IsStrictlyIncreasing atoms → union_of [] atoms ≡ atoms
set_itself atoms up =
    same_members (union_of [] atoms) atoms (set_rises atoms) up (All-from_Contains (Contains atoms) (union_of [] atoms) (of_set atoms)) (All-from_Contains (Contains (union_of [] atoms)) atoms (in_set atoms))

-- a set with the numbers of a list, or of its set
pub with_set : (start atoms : List ℕ) → IsStrictlyIncreasing start → union_of start atoms ≡ union_of start (union_of [] atoms)
with_set start atoms up =
    same_members (union_of start atoms) (union_of start (union_of [] atoms)) (IsStrictlyIncreasing-union_of start atoms up) (IsStrictlyIncreasing-union_of start (union_of [] atoms) up)
    (All-from_Contains (Contains (union_of start (union_of [] atoms))) (union_of start atoms) (λ a there. elim ((Contains-union_of start atoms a).0 there) [
      | inl old ↦ (Contains-union_of start (union_of [] atoms) a).1 (inl old)
      | inr new ↦ (Contains-union_of start (union_of [] atoms) a).1 (inr (in_set atoms a new))
    ]))
    (All-from_Contains (Contains (union_of start atoms)) (union_of start (union_of [] atoms)) (λ a there. elim ((Contains-union_of start (union_of [] atoms) a).0 there) [
      | inl old ↦ (Contains-union_of start atoms a).1 (inl old)
      | inr new ↦ (Contains-union_of start atoms a).1 (inr (of_set atoms a new))
    ]))

pub joined : (atoms more : List ℕ) → union_of [] (atoms ++ more) ≡ union_of (union_of [] atoms) (union_of [] more)
joined atoms more = fold-append (λ s y. with_class y s) [] atoms more ∙ with_set (union_of [] atoms) more (set_rises atoms)

-- a list with those of a set behind it
pub more_of_set : (atoms more new : List ℕ) → new ≡ atoms ++ more → union_of [] new ≡ union_of (union_of [] atoms) more
more_of_set atoms more new is = ap (union_of []) is ∙ fold-append (λ s y. with_class y s) [] atoms more

pub same_again : (atoms more new : List ℕ) → take (length atoms) more ≡ atoms → new ≡ take (length atoms) more → union_of [] new ≡ union_of [] atoms
same_again atoms more new front is = ap (union_of []) (is ∙ front)

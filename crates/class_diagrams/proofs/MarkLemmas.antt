-- Sets of numbers as marks.
use Rattle.std.proofs.Common.{◌≡◌, ℕ, zero, suc, ◌+◌, ◌-◌, ◌*◌, ◌/◌, ◌<◌, ◌≤◌, leb, Bool, true, false, eqb, ◌||◌, List, [], ◌∷◌, length, take, set, get_or, replicate, Some, slice_get, Contains, All, refl, sym, ap, subst, ◌∙◌, inl, inr, arith}
use Rattle.std.specs.List.Sorted.{IsStrictlyIncreasing}
use Rattle.std.proofs.lemmas.Bool.{eq-eqb, ne_eqb, cases_eq, cases_lt, leb-true, le-leb}
use Rattle.std.proofs.lemmas.List.{get_or_default, get_or_past, get_or-replicate, get_or-set_same, get_or-set_other, length-replicate}
use Rattle.std.proofs.lemmas.List.Folds.{list_any-append}
use Rattle.std.proofs.lemmas.Option.{slice_get_within, get_or_from_slice_get}
use Rattle.std.proofs.lemmas.List.Elements.{All-cons, All-weaker, All-nil}
use Rattle.tp_base.specs.Classes.{has_class}
use Rattle.tp_base.proofs.Truths.{or_true, or_false}
use Rattle.tp_base.proofs.Lists.{take_next}
use Rattle.tp_base.proofs.Rising.{rises_cons, rises_between, same_members, All-from_Contains}
use Rattle.tp_base.proofs.ClassLemmas.{has_class-Contains, Contains-has_class}
use Rattle.class_diagrams.specs.Marks.{marked_from, marked}

below : (a n : ℕ) (marks : List Bool) → a < n → has_class a (marked_from n marks) ≡ false
below a n [] less = refl
below a n (true ∷ marks) less = rw (ne_eqb n a (λ same. absurd (omega (arith, same, less)))) (below a (suc n) marks (omega (arith, less)))
below a n (false ∷ marks) less = below a (suc n) marks (omega (arith, less))

has_from : (n k : ℕ) (marks : List Bool) → has_class (n + k) (marked_from n marks) ≡ get_or marks k false
has_from n k [] = refl
has_from n zero (true ∷ marks) = rw (eq-eqb n (n + 0) (omega arith)) refl
has_from n zero (false ∷ marks) = below (n + 0) (suc n) marks (omega arith)
has_from n (suc k) (true ∷ marks) =
    rw (ne_eqb n (n + suc k) (λ same. absurd (omega (arith, same))))
    (subst (λ a. has_class a (marked_from (suc n) marks) ≡ get_or marks k false) {x = suc n + k} (omega arith) (has_from (suc n) k marks))
has_from n (suc k) (false ∷ marks) = subst (λ a. has_class a (marked_from (suc n) marks) ≡ get_or marks k false) {x = suc n + k} (omega arith) (has_from (suc n) k marks)

-- what is marked is in the set
pub has_marked : (marks : List Bool) (a : ℕ) → has_class a (marked marks) ≡ get_or marks a false
has_marked marks a = subst (λ b. has_class b (marked marks) ≡ get_or marks a false) {x = 0 + a} (omega arith) (has_from 0 a marks)

from_above : (n : ℕ) (marks : List Bool) → All (λ y. n ≤ y) (marked_from n marks)
from_above n [] = All-nil (λ y. n ≤ y)
from_above n (true ∷ marks) = All-cons (λ y. n ≤ y) n (marked_from (suc n) marks) (omega arith) (All-weaker (λ y. suc n ≤ y) (λ y. n ≤ y) (λ y le. omega (arith, le)) (marked_from (suc n) marks) (from_above (suc n) marks))
from_above n (false ∷ marks) = All-weaker (λ y. suc n ≤ y) (λ y. n ≤ y) (λ y le. omega (arith, le)) (marked_from (suc n) marks) (from_above (suc n) marks)

rises_from : (n : ℕ) (marks : List Bool) → IsStrictlyIncreasing (marked_from n marks)
rises_from n [] = λ k within. absurd (omega arith)
rises_from n (true ∷ marks) = rises_cons n (marked_from (suc n) marks) (All-weaker (λ y. suc n ≤ y) (λ y. n < y) (λ y le. omega (arith, le)) (marked_from (suc n) marks) (from_above (suc n) marks)) (rises_from (suc n) marks)
rises_from n (false ∷ marks) = rises_from (suc n) marks

-- the marks of a set are those numbers that it has
pub marks_are : (marks : List Bool) (set : List ℕ) → IsStrictlyIncreasing set → ((a : ℕ) → get_or marks a false ≡ has_class a set) → marked marks ≡ set
marks_are marks set rises each = same_members (marked marks) set (rises_from 0 marks) rises
    (All-from_Contains (Contains set) (marked marks) (λ a there. Contains-has_class a set (sym (each a) ∙ sym (has_marked marks a) ∙ has_class-Contains a (marked marks) there)))
    (All-from_Contains (Contains (marked marks)) set (λ a there. Contains-has_class a (marked marks) (has_marked marks a ∙ each a ∙ has_class-Contains a set there)))

-- ### the marks of a set, one atom after the other

pub all_below : (set : List ℕ) (i last : ℕ) → IsStrictlyIncreasing set → length set ≤ suc i → slice_get set i ≡ Some last → All (λ a. a < last + 1) set
all_below set i last rises past at = λ k d within.
    let less = slice_get_within set i last at in
    let le : get_or set k 0 ≤ get_or set i 0 = rises_between set rises k i (omega (arith, past, within)) less in
    subst (λ a. a < last + 1) (get_or_default set k 0 d within) (subst (λ m. get_or set k 0 < m + 1) (get_or_from_slice_get set i last 0 at) (omega (arith, le)))

pub last_below : (set : List ℕ) (i last n : ℕ) → slice_get set i ≡ Some last → All (λ a. a < n) set → last + 1 ≤ n
last_below set i last n at below_n =
    let less = slice_get_within set i last at in
    let is = get_or_from_slice_get set i last 0 at in
    let under : get_or set i 0 < n = below_n i 0 less in
    omega (arith, under, is)

-- the numbers up to the largest atom are worth so many looks
pub worth : (set : List ℕ) (looks numbers m : ℕ) → All (λ a. a < numbers) set → ((n : ℕ) → All (λ a. a < n) set → numbers ≤ n) → m ≡ numbers - 1
    → (leb (m / 64) looks ≡ true → All (λ a. a < 64 * (looks + 1)) set) × (All (λ a. a < 64 * (looks + 1)) set → leb (m / 64) looks ≡ true)
worth set looks numbers m all least is = (
  λ yes. let le = leb-true (m / 64) looks yes in All-weaker (λ a. a < numbers) (λ a. a < 64 * (looks + 1)) (λ a less. omega (arith, less, is, le)) set all,
  λ under. let le = least (64 * (looks + 1)) under in le-leb (m / 64) looks (omega (arith, le, is)),
)

pub none_marked : (n a : ℕ) → get_or (replicate n false) a false ≡ false
none_marked n a = elim (cases_lt a n) [
  | inl less ↦ get_or-replicate n a false false less
  | inr past ↦ get_or_past (replicate n false) a false (let long = length-replicate n false in omega (arith, long, past))
]

pub one_marked : (marks new : List Bool) (atoms : List ℕ) (i a : ℕ) → slice_get atoms i ≡ Some a → a < length marks → new ≡ set marks a true
    → ((x : ℕ) → get_or marks x false ≡ has_class x (take i atoms)) → (x : ℕ) → get_or new x false ≡ has_class x (take (i + 1) atoms)
one_marked marks new atoms i a at less is before x =
    let more : has_class x (take (i + 1) atoms) ≡ has_class x (take i atoms) || (eqb a x || false) =
    ap (has_class x) (take_next atoms i a at) ∙ list_any-append (λ y. eqb y x) (take i atoms) (a ∷ []) in
    ap (λ (ms : List Bool). get_or ms x false) is ∙ elim (cases_eq x a) [
      | inl same ↦ ap (λ y. get_or (set marks a true) y false) same ∙ get_or-set_same marks a true false less
          ∙ sym (more ∙ ap (λ b. has_class x (take i atoms) || (b || false)) (eq-eqb a x (sym same)) ∙ or_true (has_class x (take i atoms)))
      | inr other ↦ get_or-set_other marks a x true false other ∙ before x
          ∙ sym (more ∙ ap (λ b. has_class x (take i atoms) || (b || false)) (ne_eqb a x (λ same. other (sym same))) ∙ or_false (has_class x (take i atoms)))
    ]

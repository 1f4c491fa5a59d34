-- Places in a list that doesn't fall, by what is read there.
use Rattle.std.proofs.Common.{◌≡◌, ℕ, zero, suc, ◌<◌, ◌≤◌, Bool, true, false, not, ltb, List, length, get_or, refl, sym, arith}
use Rattle.std.specs.List.Sorted.{IsNonDecreasing}
use Rattle.std.proofs.lemmas.Bool.{lt-ltb, le-ltb, ltb-true, ltb-false}
use Rattle.std.proofs.lemmas.List.{get_or_default}
use Rattle.pushdown_sym.specs.Starts.{StartsAt}

-- what is read at a place
pub less_there : (n : ℕ) (atoms : List ℕ) (i x y : ℕ) → true ≡ ltb i (length atoms) → x ≡ get_or atoms i x → y ≡ x → ltb y n ≡ true → (i < length atoms) × (get_or atoms i 0 < n)
less_there n atoms i x y inside is same passes =
    let within = ltb-true i (length atoms) (sym inside) in
    let at = get_or_default atoms i x 0 within in
    let less = ltb-true y n passes in
    (within, omega (arith, less, same, is, at))

pub other_there : (n : ℕ) (atoms : List ℕ) (i x y : ℕ) → x ≡ get_or atoms i x → y ≡ x → ltb y n ≡ false → i < length atoms → n ≤ get_or atoms i 0
other_there n atoms i x y is same fails within =
    let at = get_or_default atoms i x 0 within in
    let le = ltb-false y n fails in
    omega (arith, le, same, is, at)

pub no_of_not : (b : Bool) → not b ≡ true → b ≡ false
no_of_not true passes = let wrong : false ≡ true = passes in cc
no_of_not false passes = refl

pub yes_of_not : (b : Bool) → not b ≡ false → b ≡ true
yes_of_not true fails = refl
yes_of_not false fails = let wrong : true ≡ false = fails in cc

-- a place that is none: the atom before it is not less, or the one at it is
pub not_behind : (n : ℕ) (atoms : List ℕ) (place : ℕ) → ((k : ℕ) × (place ≡ suc k) × (k < length atoms → n ≤ get_or atoms k 0)) → place ≤ length atoms → ¬ StartsAt n atoms place
not_behind n atoms place last within starts =
    let le = last.2 (omega (arith, within, last.1)) in
    let less = ltb-true (get_or atoms last.0 0) n (starts.0 last.0 0 (omega arith) (omega (arith, last.1))) in
    absurd (omega (arith, less, le))

pub not_parted : (n : ℕ) (atoms : List ℕ) (place : ℕ) → (place < length atoms) × (get_or atoms place 0 < n) → ¬ StartsAt n atoms place
not_parted n atoms place there starts =
    let le = ltb-false (get_or atoms place 0) n (starts.1 place 0 (omega arith) there.0) in
    absurd (omega (arith, le, there.1))

-- the atom before a place is less, and the one at it is not
parted_within : (n : ℕ) (atoms : List ℕ) (place : ℕ) → ((k : ℕ) → place ≡ suc k → (k < length atoms) × (get_or atoms k 0 < n)) → place ≤ length atoms
parted_within n atoms zero last = omega arith
parted_within n atoms (suc m) last = let is = (last m refl).0 in omega (arith, is)

parted_below : (n : ℕ) (atoms : List ℕ) (place : ℕ) → IsNonDecreasing atoms → ((k : ℕ) → place ≡ suc k → (k < length atoms) × (get_or atoms k 0 < n))
    → (k d : ℕ) → 0 ≤ k → k < place → ltb (get_or atoms k d) n ≡ true
parted_below n atoms zero order last k d from before = absurd (omega (arith, before))
parted_below n atoms (suc m) order last k d from before =
    let is = last m refl in
    let up = order k m d (omega (arith, before)) is.0 in
    let at = get_or_default atoms m d 0 is.0 in
    lt-ltb (get_or atoms k d) n (omega (arith, up, at, is.1))

pub parted : (n : ℕ) (atoms : List ℕ) (place : ℕ) → IsNonDecreasing atoms → ((k : ℕ) → place ≡ suc k → (k < length atoms) × (get_or atoms k 0 < n))
    → (place < length atoms → n ≤ get_or atoms place 0) → (place ≤ length atoms) × StartsAt n atoms place
parted n atoms place order last first = (
  parted_within n atoms place last,
  (
    parted_below n atoms place order last,
    λ k d le inside.
        let here : place < length atoms = omega (arith, le, inside) in
        let least = first here in
        let at = get_or_default atoms place d 0 here in
        let up = order place k d le inside in
        le-ltb (get_or atoms k d) n (omega (arith, least, at, up)),
  ),
)

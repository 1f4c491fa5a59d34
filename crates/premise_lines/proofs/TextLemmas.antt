-- The bytes of a finding, and how many of them tell what is shown of it.
use Rattle.std.proofs.Common.{◌≡◌, ℕ, zero, suc, ◌+◌, ◌-◌, ◌≤◌, nat_lt, Bool, true, false, if◌then◌else◌, List, [], ◌∷◌, length, take, drop, min, slice_range, refl, sym, ap, ◌∙◌, arith, length-take, inl, inr}
use Rattle.std.specs.List.{prefix_len}
use Rattle.std.proofs.lemmas.Bool.{cases_lt, lt-ltb}
use Rattle.std.proofs.lemmas.List.{drop_min, take_min, take-take, take_all, drop-take}
use Rattle.premise_finds.specs.Details.{in_line, begins_character, whole_len, shown_of}
use Rattle.premise_finds.specs.declared.details.TheConstants.{MOST_SHOWN}

-- from one offset to another, as far as there are bytes
pub range_within : (from to : ℕ) (text behind : List ℕ) → behind ≡ drop (min from (length text)) text → take (min (to - from) (length behind)) behind ≡ slice_range text from to
range_within from to text behind is = take_min (to - from) behind ∙ ap (take (to - from)) (is ∙ drop_min from text)

take_one : (n x : ℕ) (xs : List ℕ) → take (1 + n) (x ∷ xs) ≡ x ∷ take n xs
take_one n x xs = let e : 1 + n ≡ suc n = omega arith in rw e refl

-- the line of a front is a front of the line
line_front : (p : ℕ → Bool) (n : ℕ) (xs : List ℕ) → take (prefix_len p (take n xs)) (take n xs) ≡ take n (take (prefix_len p xs) xs)
line_front p zero xs = refl
line_front p (suc n) [] = refl
line_front p (suc n) (x ∷ xs) = go (line_front p n xs) (p x) refl
  where
    go : take (prefix_len p (take n xs)) (take n xs) ≡ take n (take (prefix_len p xs) xs) → (b : Bool) → p x ≡ b → take (prefix_len p (take (suc n) (x ∷ xs))) (take (suc n) (x ∷ xs)) ≡ take (suc n) (take (prefix_len p (x ∷ xs)) (x ∷ xs))
    go later true is = rw is (take_one (prefix_len p (take n xs)) x (take n xs) ∙ ap (λ l. x ∷ l) later ∙ ap (take (suc n)) (sym (take_one (prefix_len p xs) x xs)))
    go later false is = rw is refl

-- a front that has a byte more tells whether a character begins
begins_front : (k : ℕ) (ys : List ℕ) → begins_character (take (suc k) ys) ≡ begins_character ys
begins_front k [] = refl
begins_front k (y ∷ ys) = refl

begins_in_front : (n k : ℕ) (xs : List ℕ) → begins_character (drop n (take (n + suc k) xs)) ≡ begins_character (drop n xs)
begins_in_front n k xs = ap begins_character (drop-take n (suc k) xs) ∙ begins_front k (drop n xs)

whole_front : (n k : ℕ) (xs : List ℕ) → whole_len n (take (n + suc k) xs) ≡ whole_len n xs
unfolding whole_len
whole_front zero k xs = refl
whole_front (suc n) k xs =
    let moved : suc n + suc k ≡ n + suc (suc k) = omega arith in
    let later : whole_len n (take (suc n + suc k) xs) ≡ whole_len n xs = rw moved (whole_front n (suc k) xs) in
    rw (begins_in_front (suc n) k xs, later) refl

whole_most : (n : ℕ) (xs : List ℕ) → whole_len n xs ≤ n
unfolding whole_len
whole_most zero xs = omega arith
whole_most (suc n) xs = go (begins_character (drop (suc n) xs)) (whole_most n xs)
  where
    go : (b : Bool) → whole_len n xs ≤ n → (if b then suc n else whole_len n xs) ≤ suc n
    go true less = omega arith
    go false less = omega arith

abbrev shown_in : List ℕ → List ℕ
shown_in line = if nat_lt MOST_SHOWN (length line) then take (whole_len MOST_SHOWN line) line else line

line_shown : (line : List ℕ) → shown_in (take (MOST_SHOWN + 1) line) ≡ shown_in line
line_shown line = elim (cases_lt MOST_SHOWN (length line)) [
  | inl more ↦
      let most : length (take (MOST_SHOWN + 1) line) ≡ MOST_SHOWN + 1 = omega (arith, length-take (MOST_SHOWN + 1) line) in
      let here : nat_lt MOST_SHOWN (length (take (MOST_SHOWN + 1) line)) ≡ true = lt-ltb _ _ (omega arith) in
      let there : nat_lt MOST_SHOWN (length line) ≡ true = lt-ltb _ _ more in
      let same : whole_len MOST_SHOWN (take (MOST_SHOWN + 1) line) ≡ whole_len MOST_SHOWN line = whole_front MOST_SHOWN 0 line in
      let less : whole_len MOST_SHOWN line ≤ MOST_SHOWN + 1 = omega (arith, whole_most MOST_SHOWN line) in
      rw (here, there, same) (take-take (whole_len MOST_SHOWN line) (MOST_SHOWN + 1) line less)
  | inr less ↦
      let all : take (MOST_SHOWN + 1) line ≡ line = take_all (MOST_SHOWN + 1) line (omega arith) in
      rw all refl
]

-- what is shown is told by one byte more than may be shown
pub shown_of_front : (found : List ℕ) → shown_of (take (min (MOST_SHOWN + 1) (length found)) found) ≡ shown_of found
unfolding shown_of
shown_of_front found =
    rw (take_min (MOST_SHOWN + 1) found, line_front in_line (MOST_SHOWN + 1) found) (line_shown (take (prefix_len in_line found) found))

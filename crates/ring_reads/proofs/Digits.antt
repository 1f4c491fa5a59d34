-- The bytes of a number are digits, and what holds of each digit holds of each of them.
use Rattle.std.proofs.Common.{◌≡◌, ℕ, zero, suc, ◌+◌, ◌-◌, ◌%◌, ◌≤◌, ◌<◌, ◌^◌, ◌||◌, not, Bool, true, false, nat_lt, List, All, [], ◌∷◌, ◌++◌, length, drop, refl, sym, subst, arith, length-append}
use Rattle.std.specs.List.{list_all, range_with_len, prefix_len, flat_map}
use Rattle.std.specs.Fmt.{decimal}
use Rattle.std.specs.Str.{IsAscii}
use Rattle.std.proofs.lemmas.Bool.{and_parts, ltb-true}
use Rattle.std.proofs.lemmas.List.Elements.{All-nil, All-cons}
use Rattle.std.proofs.lemmas.List.Concat.{flat_map-cons}
use Rattle.std.proofs.lemmas.Str.{IsAscii-append}
use Rattle.std.proofs.lemmas.Str.Ascii.{IsAscii-nil, IsAscii-from_all}
use Rattle.std.proofs.lemmas.Fmt.{decimal_by_steps}
use Rattle.std.proofs.Math.Seq.{drop-append_seam}
use Rattle.std.proofs.Math.Nat.{mod-lt}

abbrev pub Each : (ℕ → Bool) → List ℕ → Type 0
Each q [] = Unit {0}
Each q (b ∷ bs) = (q b ≡ true) × Each q bs

pub each_append : (q : ℕ → Bool) (xs ys : List ℕ) → Each q xs → Each q ys → Each q (xs ++ ys)
each_append q [] ys first second = second
each_append q (x ∷ xs) ys first second = (first.0, each_append q xs ys first.1 second)

in_range : (q : ℕ → Bool) (a n k : ℕ) → list_all q (range_with_len a n) ≡ true → k < n → q (a + k) ≡ true
in_range q a zero k all less = absurd (omega arith)
in_range q a (suc n) zero all less = let here : a + 0 ≡ a = omega arith in rw here ((and_parts (q a) (list_all q (range_with_len (a + 1) n)) all).0)
in_range q a (suc n) (suc k) all less =
    let next : a + 1 + k ≡ a + suc k = omega arith in
    subst (λ z. q z ≡ true) next (in_range q (a + 1) n k ((and_parts (q a) (list_all q (range_with_len (a + 1) n)) all).1) (omega arith))

pub each_digit : (q : ℕ → Bool) → list_all q (range_with_len 48 10) ≡ true → (n : ℕ) → n < 2 ^ 64 → Each q (decimal n)
each_digit q all n small = decimal_by_steps (λ n ds. Each q ds)
    (λ n less. (in_range q 48 10 n all less, tt))
    (λ n ds more before. each_append q ds ((48 + n % 10) ∷ []) before (in_range q 48 10 (n % 10) all (mod-lt n (omega arith)), tt))
    n small

-- as far as a run of bytes goes
pub whole_prefix : (q : ℕ → Bool) (xs : List ℕ) (b : ℕ) (rest : List ℕ) → Each q xs → q b ≡ false → prefix_len q (xs ++ b ∷ rest) ≡ length xs
whole_prefix q [] b rest each stop = rw stop refl
whole_prefix q (x ∷ xs) b rest each stop = rw (each.0, whole_prefix q xs b rest each.1 stop) (omega arith)

-- the last part of a text
pub record IsLast (all last : List ℕ) : Type 0 where
  pub before : List ℕ
  pub is : all ≡ before ++ last

pub drop_before : (all last : List ℕ) → IsLast all last → drop (length all - length last) all ≡ last
drop_before all last part =
    let len : length (part.before ++ last) - length last ≡ length part.before = omega (arith, length-append part.before last) in
    rw (part.is, len) (drop-append_seam part.before last)

-- closed texts are ASCII
pub each_of : (q : ℕ → Bool) (bs : List ℕ) → list_all q bs ≡ true → Each q bs
each_of q [] all = tt
each_of q (b ∷ bs) all = let both = and_parts (q b) (list_all q bs) all in (both.0, each_of q bs both.1)

below : (bs : List ℕ) → Each (λ b. nat_lt b 128) bs → All (λ b. b < 128) bs
below [] each = All-nil (λ b. b < 128)
below (b ∷ bs) each = All-cons (λ b. b < 128) b bs (ltb-true b 128 each.0) (below bs each.1)

pub ascii_of : (bs : List ℕ) → list_all (λ b. nat_lt b 128) bs ≡ true → IsAscii bs
ascii_of bs all = IsAscii-from_all bs (below bs (each_of (λ b. nat_lt b 128) bs all))

-- so are lines of them
pub lines_ascii : (line : ℕ → List ℕ) → ((i : ℕ) → i < 1000 → IsAscii (line i)) → (a n : ℕ) → a + n ≤ 1000 → IsAscii (flat_map line (range_with_len a n))
lines_ascii line each a zero few = IsAscii-nil
lines_ascii line each a (suc n) few =
    subst IsAscii (sym (flat_map-cons line a (range_with_len (a + 1) n)))
    (IsAscii-append (line a) (flat_map line (range_with_len (a + 1) n)) (each a (omega arith)) (lines_ascii line each (a + 1) n (omega arith)))

pub each_prefix : (q : ℕ → Bool) (xs : List ℕ) → Each q xs → prefix_len q xs ≡ length xs
each_prefix q [] each = refl
each_prefix q (x ∷ xs) each = rw (each.0, each_prefix q xs each.1) (omega arith)

pub not_parts : (a b c : Bool) → not (a || b || c) ≡ true → (a ≡ false) × (b ≡ false) × (c ≡ false)
not_parts true b c is = absurd cc
not_parts false true c is = absurd cc
not_parts false false true is = absurd cc
not_parts false false false is = (refl, refl, refl)

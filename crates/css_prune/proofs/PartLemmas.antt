-- A text from the first place of a byte on, and what stands in a text, by that.
use Rattle.std.proofs.Common.{◌≡◌, ℕ, zero, suc, ◌+◌, ◌≤◌, ◌==◌, ◌||◌, cond, nat_lt, Bool, true, false, List, [], ◌∷◌, length, drop, codes, refl, sym, ◌∙◌, inl, inr, arith}
use Rattle.std.specs.Char.{to_ascii_lowercase}
use Rattle.std.proofs.lemmas.Bool.{cases_Bool, eqb-false, ne_eqb, ltb-false, false_from_ne_true}
use Rattle.memchr.specs.Find.{Nowhere, NoneBefore, Passes, is_byte}
use Rattle.css_read.specs.Pruned.{has_word, has_order_mark}
use Rattle.css_prune.specs.Flags.{begins_word, begins_early_rule, begins_order_mark, has_early_rule}
use Rattle.css_prune.specs.Parts.{from_byte}

pub by_test : {P : Type 0} (t : Bool) → (t ≡ true → P) → (t ≡ false → P) → P
by_test t holds fails = elim (cases_Bool t) [ inl e ↦ holds e | inr e ↦ fails e ]

-- ---- where the byte stands

pub none_there : (y : ℕ) (bs : List ℕ) → Nowhere (Passes (is_byte y) bs) 0 (length bs) → from_byte y bs ≡ drop (length bs) bs
none_there y [] none = refl
none_there y (b ∷ bs) none = rw (false_from_ne_true (b == y) (λ is. none 0 (omega arith) (omega arith) is)) (none_there y bs (λ k low high. none (suc k) (omega arith) (omega arith)))

pub first_there : (y k : ℕ) (bs : List ℕ) → NoneBefore (Passes (is_byte y) bs) 0 (length bs) k → Passes (is_byte y) bs k → from_byte y bs ≡ drop k bs
first_there y k [] before here = absurd (omega (arith, before.high))
first_there y zero (b ∷ bs) before here = rw here refl
first_there y (suc k) (b ∷ bs) before here =
    rw (false_from_ne_true (b == y) (λ is. before.before 0 (omega arith) (omega arith) is))
    (first_there y k bs (record { low = omega arith; high = omega (arith, before.high); before = λ j low less. before.before (suc j) (omega arith) (omega arith) }) here)

pub no_longer : (y : ℕ) (bs : List ℕ) → length (from_byte y bs) ≤ length bs
no_longer y [] = omega arith
no_longer y (b ∷ bs) = by_test (b == y) (λ is. rw is (omega arith)) (λ other. rw other (let less = no_longer y bs in omega arith))

-- ---- an at-rule stands where an `@` does

lower_other : (b : ℕ) → (b == 64) ≡ false → (to_ascii_lowercase b == 64) ≡ false
lower_other b other = by (nat_lt b 65) (nat_lt b 91) refl
  where
    by : (low high : Bool) → nat_lt b 65 ≡ low → (cond low b (cond high (b + 32) b) == 64) ≡ false
    by true high is = other
    by false true is = let above = ltb-false b 65 is in ne_eqb (b + 32) 64 (λ e. omega arith)
    by false false is = other

early_other : (b : ℕ) (bs : List ℕ) → (b == 64) ≡ false → has_early_rule (b ∷ bs) ≡ has_early_rule bs
unfolding has_word
early_other b bs other = rw (lower_other b other) refl

early_from : (bs : List ℕ) → has_early_rule bs ≡ has_early_rule (from_byte 64 bs)
early_from [] = refl
early_from (b ∷ bs) = by_test (b == 64) (λ is. rw is refl) (λ other. rw other (early_other b bs other ∙ early_from bs))

or_true : (a b c d : Bool) → (a || b) ≡ true → ((a || c) || (b || d)) ≡ true
or_true true b c d is = refl
or_true false true true d is = refl
or_true false true false d is = refl
or_true false false c d is = cc

or_false : (a b c d : Bool) → (a || b) ≡ false → ((a || c) || (b || d)) ≡ (c || d)
or_false false false c d is = refl
or_false false true c d is = cc
or_false true b c d is = cc

pub early_begins : (bs : List ℕ) → has_early_rule (from_byte 64 bs) ≡ has_early_rule bs
early_begins bs = sym (early_from bs)

pub no_early : (rest : List ℕ) → length rest ≡ 0 → has_early_rule rest ≡ false
unfolding has_word
no_early [] none = refl
no_early (b ∷ bs) none = absurd (omega arith)

pub early_found : (rest : List ℕ) (b : ℕ) (bs : List ℕ) → rest ≡ b ∷ bs → begins_early_rule rest ≡ true → has_early_rule rest ≡ true
unfolding has_word
early_found rest b bs first here =
    rw first (or_true (begins_word (codes "@import") (b ∷ bs)) (begins_word (codes "@namespace") (b ∷ bs)) (has_word (codes "@import") bs) (has_word (codes "@namespace") bs) (rw first at here))

pub early_later : (rest : List ℕ) (b : ℕ) (bs : List ℕ) → rest ≡ b ∷ bs → begins_early_rule rest ≡ false → has_early_rule (from_byte 64 bs) ≡ has_early_rule rest
unfolding has_word
early_later rest b bs first none =
    rw first
    (sym (or_false (begins_word (codes "@import") (b ∷ bs)) (begins_word (codes "@namespace") (b ∷ bs)) (has_word (codes "@import") bs) (has_word (codes "@namespace") bs) (rw first at none) ∙ early_from bs))

-- ---- a byte order mark where its first byte does

mark_other : (b : ℕ) (bs : List ℕ) → (b == 0xEF) ≡ false → has_order_mark (b ∷ bs) ≡ has_order_mark bs
unfolding has_order_mark
mark_other b bs other = rw (ne_eqb 0xEF b (λ e. eqb-false b 0xEF other (sym e))) refl

pub mark_begins : (bs : List ℕ) → has_order_mark (from_byte 0xEF bs) ≡ has_order_mark bs
mark_begins [] = refl
mark_begins (b ∷ bs) = by_test (b == 0xEF) (λ is. rw is refl) (λ other. rw other (mark_begins bs ∙ sym (mark_other b bs other)))

pub mark_found : (rest : List ℕ) (b : ℕ) (bs : List ℕ) → rest ≡ b ∷ bs → begins_order_mark rest ≡ true → has_order_mark rest ≡ true
unfolding has_order_mark
mark_found rest b bs first here = rw first (rw (rw first at here) refl)

pub mark_later : (rest : List ℕ) (b : ℕ) (bs : List ℕ) → rest ≡ b ∷ bs → begins_order_mark rest ≡ false → has_order_mark (from_byte 0xEF bs) ≡ has_order_mark rest
unfolding has_order_mark
mark_later rest b bs first none = rw first (rw (rw first at none) (mark_begins bs))

pub no_mark : (rest : List ℕ) → length rest ≡ 0 → has_order_mark rest ≡ false
unfolding has_order_mark
no_mark [] none = refl
no_mark (b ∷ bs) none = absurd (omega arith)

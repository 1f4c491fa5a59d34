-- Bytes that are no bracket and no quote, and begin no comment.
use Rattle.std.proofs.Common.{◌≡◌, ℕ, ◌-◌, ◌==◌, nat_eq, true, false, List, [], ◌∷◌, length, refl, ap, inl, inr, arith}
use Rattle.std.specs.List.{list_any}
use Rattle.std.proofs.lemmas.Bool.{cases_Bool, eqb-true}
use Rattle.std.proofs.lemmas.Bool.Decides.{nat_tests}
use Rattle.css_read.specs.declared.brackets.Bracket.{Bracket}
use Rattle.text_bytes.specs.Blanks.{is_blank}
use Rattle.css_read.specs.Units.{is_plain, begins_comment, begins_gap, after_byte, behind_unit, is_one, from_first_in}

-- a byte that isn't plain is another one
other : (b k : ℕ) → is_plain k ≡ false → is_plain b ≡ true → (b == k) ≡ false
other b k out yes' = elim (cases_Bool (b == k)) [
  | inl same ↦ let one : is_plain b ≡ is_plain k = ap is_plain (eqb-true b k same) in absurd (cc)
  | inr apart ↦ apart
]

pub plain_bracket : (b : ℕ) (brackets : List Bracket) → is_plain b ≡ true → after_byte b brackets ≡ brackets
unfolding after_byte
plain_bracket b brackets plain =
    rw (other b 40 refl plain, other b 91 refl plain, other b 123 refl plain, other b 41 refl plain, other b 93 refl plain, other b 125 refl plain) refl

no_comment : (b : ℕ) (bs : List ℕ) → is_plain b ≡ true → begins_comment (b ∷ bs) ≡ false
no_comment b bs plain = by bs (other b 47 refl plain)
  where
    by : (bs : List ℕ) → (b == 47) ≡ false → begins_comment (b ∷ bs) ≡ false
    by [] no' = grind (arith, nat_tests)
    by (c ∷ bs) no' = grind (arith, nat_tests)

pub plain_unit : (b : ℕ) (bs : List ℕ) → is_plain b ≡ true → behind_unit (b ∷ bs) ≡ bs
unfolding behind_unit
plain_unit b bs plain = rw (other b 34 refl plain, other b 39 refl plain, no_comment b bs plain) refl

pub plain_solid : (b : ℕ) (bs : List ℕ) → is_plain b ≡ true → is_blank b ≡ false → begins_gap (b ∷ bs) ≡ false
plain_solid b bs plain seen = rw (seen, no_comment b bs plain) refl

-- where none of some bytes is plain, a plain byte is none of them
not_one : (bytes : List ℕ) (b : ℕ) → list_any is_plain bytes ≡ false → is_plain b ≡ true → is_one bytes b ≡ false
not_one [] b out plain = refl
not_one (y ∷ ys) b out plain = elim (cases_Bool (is_plain y)) [
  | inl yes' ↦ let all : list_any is_plain (y ∷ ys) ≡ true = rw yes' refl in absurd (cc)
  | inr no' ↦
      let others : list_any is_plain ys ≡ false = rw no' at out in
      let apart : nat_eq y b ≡ false = elim (cases_Bool (nat_eq y b)) [
        | inl same ↦ let one : is_plain y ≡ is_plain b = ap is_plain (eqb-true y b same) in absurd (cc)
        | inr apart ↦ apart
      ] in
      rw (apart, not_one ys b others plain) refl
]

pub passes : (bytes : List ℕ) (b : ℕ) (behind : List ℕ) (brackets : List Bracket) → list_any is_plain bytes ≡ false → is_plain b ≡ true
    → from_first_in bytes brackets 0 (b ∷ behind) ≡ from_first_in bytes brackets 0 behind
unfolding from_first_in
passes bytes b behind brackets apart plain =
    let none : length behind - length behind ≡ 0 = omega arith in
    rw (not_one bytes b apart plain, plain_bracket b brackets plain, plain_unit b behind plain, none) refl

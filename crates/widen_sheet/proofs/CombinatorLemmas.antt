-- A combinator has a byte.
use Rattle.std.proofs.Common.{◌≡◌, ℕ, zero, suc, ◌+◌, ◌<◌, ◌≤◌, ◌==◌, ◌||◌, true, false, List, [], ◌∷◌, length, drop, refl, sym, ◌∙◌, arith, inl, inr}
use Rattle.std.proofs.lemmas.Bool.{cases_Bool}
use Rattle.std.specs.List.{prefix_len}
use Rattle.text_bytes.specs.Blanks.{is_blank}
use Rattle.widen_sheet.specs.declared.tokens.Kind.{Kind}
use Rattle.widen_sheet.specs.declared.tokens.Kind.TheVariants.{Judged, Other, Inside, Child, Next, Later}
use Rattle.widen_sheet.specs.Wide.{behind_blanks, combinator, behind_combinator, begins_combinator}

true_not_false : true ≡ false → ⊥
true_not_false e = cc

length_drop : (n : ℕ) (bs : List ℕ) → length (drop n bs) ≤ length bs
length_drop zero bs = omega arith
length_drop (suc n) [] = omega arith
length_drop (suc n) (b ∷ bs) = omega (arith, length_drop n bs)

blanks_less : (bs : List ℕ) → length (behind_blanks bs) ≤ length bs
unfolding behind_blanks
blanks_less bs = length_drop (prefix_len is_blank bs) bs

combinator_less : (k : Kind) (bs : List ℕ) → length (behind_combinator k bs) ≤ length bs
combinator_less Inside bs = omega arith
combinator_less Judged bs = omega (arith, blanks_less (drop 1 bs), length_drop 1 bs)
combinator_less Other bs = omega (arith, blanks_less (drop 1 bs), length_drop 1 bs)
combinator_less Child bs = omega (arith, blanks_less (drop 1 bs), length_drop 1 bs)
combinator_less Next bs = omega (arith, blanks_less (drop 1 bs), length_drop 1 bs)
combinator_less Later bs = omega (arith, blanks_less (drop 1 bs), length_drop 1 bs)

-- behind a blank
behind_blank : (b : ℕ) (bs : List ℕ) → is_blank b ≡ true → length (behind_blanks (b ∷ bs)) ≤ length bs
unfolding behind_blanks
behind_blank b bs blank = let one : 1 + prefix_len is_blank bs ≡ suc (prefix_len is_blank bs) = omega arith in rw (blank, one) (length_drop (prefix_len is_blank bs) bs)

no_blank : (b : ℕ) (bs : List ℕ) → is_blank b ≡ false → behind_blanks (b ∷ bs) ≡ b ∷ bs
unfolding behind_blanks
no_blank b bs other = rw other refl

at_sign : (b : ℕ) (bs : List ℕ) → (false || b == 62 || b == 43 || b == 126) ≡ true → length (behind_combinator (combinator (b ∷ bs)) (b ∷ bs)) ≤ length bs
at_sign b bs begins = elim (cases_Bool (b == 62)) [
  | inl e ↦ rw e (blanks_less bs)
  | inr e ↦ elim (cases_Bool (b == 43)) [
    | inl f ↦ rw (e, f) (blanks_less bs)
    | inr f ↦ elim (cases_Bool (b == 126)) [
      | inl g ↦ rw (e, f, g) (blanks_less bs)
      | inr g ↦ absurd (true_not_false (sym begins ∙ rw (e, f, g) refl))
    ]
  ]
]

pub is_shorter : (bs : List ℕ) → begins_combinator bs ≡ true → length (behind_combinator (combinator (behind_blanks bs)) (behind_blanks bs)) < length bs
is_shorter [] begins = absurd (true_not_false (sym begins))
is_shorter (b ∷ bs) begins = elim (cases_Bool (is_blank b)) [
  | inl blank ↦ omega (arith, combinator_less (combinator (behind_blanks (b ∷ bs))) (behind_blanks (b ∷ bs)), behind_blank b bs blank)
  | inr other ↦ rw (no_blank b bs other) (omega (arith, at_sign b bs (rw other at begins)))
]

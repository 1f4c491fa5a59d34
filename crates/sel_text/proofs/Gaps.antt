-- White space and comments, one after the other.
use Rattle.std.proofs.Common.{◌≡◌, ℕ, zero, suc, ◌-◌, Bool, true, false, nat_eq, List, [], ◌∷◌, length, drop, codes, refl, ap, ◌∙◌, arith}
use Rattle.std.specs.List.{starts_with}
use Rattle.text_bytes.specs.Marks.{behind_mark}
use Rattle.text_bytes.specs.Rests.{IsRest}
use Rattle.sel_text.specs.Bytes.{is_passed, behind_close, behind_gap}

pub gap_skip : (blanks : Bool) (n : ℕ) (bs : List ℕ) → behind_gap blanks n bs ≡ behind_gap blanks 0 (drop n bs)
unfolding behind_gap
gap_skip blanks zero bs = refl
gap_skip blanks (suc n) [] = refl
gap_skip blanks (suc n) (b ∷ bs) = gap_skip blanks n bs

pub passes : (blanks : Bool) (b : ℕ) (bs : List ℕ) → is_passed blanks b ≡ true → behind_gap blanks 0 (b ∷ bs) ≡ behind_gap blanks 0 bs
unfolding behind_gap
passes blanks b bs passed = rw passed refl

pub behind_comment : (blanks : Bool) (b : ℕ) (bs : List ℕ) → is_passed blanks b ≡ false → starts_with nat_eq (b ∷ bs) (codes "/*") ≡ true → IsRest (drop 1 bs) (behind_close (drop 1 bs))
    → behind_gap blanks 0 (b ∷ bs) ≡ behind_gap blanks 0 (behind_close (drop 1 bs))
unfolding behind_gap behind_mark
behind_comment blanks b [] other opens rest = rw (other, opens) refl
behind_comment blanks b (c ∷ bs) other opens rest =
    let r = behind_close bs in
    let step : suc (length bs) - length r ≡ suc (length bs - length r) = omega (arith, rest.shorter) in
    let last : drop (length (c ∷ bs) - length r) (c ∷ bs) ≡ r = ap (λ n. drop n (c ∷ bs)) step ∙ rest.last in
    rw (other, opens, gap_skip blanks (length (c ∷ bs) - length r) (c ∷ bs), last) refl

pub stops : (blanks : Bool) (b : ℕ) (bs : List ℕ) → is_passed blanks b ≡ false → starts_with nat_eq (b ∷ bs) (codes "/*") ≡ false → behind_gap blanks 0 (b ∷ bs) ≡ b ∷ bs
unfolding behind_gap
stops blanks b bs other no_comment = rw (other, no_comment) refl

pub ends : (blanks : Bool) (rest : List ℕ) → length rest ≡ 0 → behind_gap blanks 0 rest ≡ rest
unfolding behind_gap
ends blanks [] none = refl
ends blanks (b ∷ bs) none = absurd (omega arith)

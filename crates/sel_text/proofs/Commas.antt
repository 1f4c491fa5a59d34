-- The next comma outside attribute parts and comments.
use Rattle.std.proofs.Common.{◌≡◌, ℕ, zero, suc, ◌-◌, ◌<◌, true, false, nat_eq, eqb, List, [], ◌∷◌, length, drop, codes, refl, sym, ap, ◌∙◌, arith}
use Rattle.std.specs.List.{starts_with}
use Rattle.text_bytes.specs.Rests.{IsRest}
use Rattle.sel_text.specs.Lists.{behind_unit, from_comma}

skips : (n : ℕ) (bs : List ℕ) → from_comma n bs ≡ from_comma 0 (drop n bs)
unfolding from_comma
skips zero bs = refl
skips (suc n) [] = refl
skips (suc n) (b ∷ bs) = skips n bs

pub at_comma : (b : ℕ) (bs : List ℕ) → eqb b 44 ≡ true → from_comma 0 (b ∷ bs) ≡ b ∷ bs
unfolding from_comma
at_comma b bs comma = rw comma refl

pub goes_on : (b : ℕ) (bs : List ℕ) → eqb b 44 ≡ false → IsRest (b ∷ bs) (behind_unit (b ∷ bs)) → length (behind_unit (b ∷ bs)) < length (b ∷ bs)
    → from_comma 0 (b ∷ bs) ≡ from_comma 0 (behind_unit (b ∷ bs))
unfolding from_comma
goes_on b bs other rest less =
    let r = behind_unit (b ∷ bs) in
    let step : length (b ∷ bs) - length r ≡ suc (length bs - length r) = omega (arith, rest.shorter, less) in
    let last : drop (length bs - length r) bs ≡ r = ap (λ n. drop n (b ∷ bs)) (sym step) ∙ rest.last in
    rw (other, skips (length bs - length r) bs, last) refl

-- a byte that begins no attribute part and no comment
pub passes : (b : ℕ) (bs : List ℕ) → eqb b 44 ≡ false → eqb b 91 ≡ false → starts_with nat_eq (b ∷ bs) (codes "/*") ≡ false → from_comma 0 (b ∷ bs) ≡ from_comma 0 bs
unfolding from_comma behind_unit
passes b bs other no_bracket no_comment =
    let none : length bs - length bs ≡ 0 = omega arith in
    rw (other, no_bracket, no_comment, none) refl

pub ends : (rest : List ℕ) → length rest ≡ 0 → from_comma 0 rest ≡ rest
unfolding from_comma
ends [] none = refl
ends (b ∷ bs) none = absurd (omega arith)

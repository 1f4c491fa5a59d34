-- The length up to the gap at the end, found from left to right.
use Rattle.std.proofs.Common.{◌≡◌, ℕ, zero, suc, ◌+◌, ◌-◌, ◌<◌, ◌==◌, true, false, if◌then◌else◌, List, [], ◌∷◌, length, drop, refl, sym, ap, ◌∙◌, subst, arith}
use Rattle.std.proofs.lemmas.Bool.Decides.{nat_tests}
use Rattle.text_bytes.specs.Rests.{IsRest}
use Rattle.css_read.specs.Units.{is_plain, behind_unit, begins_gap}
use Rattle.css_read.specs.Pieces.{with_unit, solid_len}
use Rattle.css_read.proofs.Plains.{plain_unit, plain_solid}
use Rattle.css_read.proofs.UnitLemmas.{solid_skip}
use Rattle.text_bytes.specs.Blanks.{is_blank}
use Rattle.text_bytes.proofs.Rests.{behind_first}

-- so many bytes count of the n that were passed, and so many behind them
unfoldable pub joined : ℕ → ℕ → ℕ → ℕ
joined len n others = if others == 0 then len else n + others

step : (b : ℕ) (bs : List ℕ) → IsRest (b ∷ bs) (behind_unit (b ∷ bs)) → length (behind_unit (b ∷ bs)) < length (b ∷ bs)
    → solid_len 0 (b ∷ bs) ≡ with_unit (begins_gap (b ∷ bs)) (length (b ∷ bs) - length (behind_unit (b ∷ bs))) (solid_len 0 (behind_unit (b ∷ bs)))
unfolding solid_len
step b bs rest less =
    let after = behind_unit (b ∷ bs) in
    let left = length bs - length after in
    let count : length (b ∷ bs) - length after ≡ suc left = omega arith in
    let one : 1 + left ≡ length (b ∷ bs) - length after = omega arith in
    let last : drop left bs ≡ after = ap (λ n. drop n (b ∷ bs)) (sym count) ∙ rest.last in
    let behind : solid_len left bs ≡ solid_len 0 after = solid_skip left bs ∙ ap (solid_len 0) last in
    ap (λ n. with_unit (begins_gap (b ∷ bs)) n (solid_len left bs)) one ∙ ap (with_unit (begins_gap (b ∷ bs)) (length (b ∷ bs) - length after)) behind

joins_gap : (len n u others : ℕ) → joined len n (with_unit true u others) ≡ joined len (n + u) others
unfolding joined
joins_gap len n u zero = refl
joins_gap len n u (suc k) = grind (arith, nat_tests)

joins_solid : (len n u others : ℕ) → 0 < u → joined len n (with_unit false u others) ≡ joined (n + u) (n + u) others
unfolding joined
joins_solid len n u others some = grind (arith, nat_tests)

pub passes_gap : (len n : ℕ) (bs : List ℕ) → begins_gap bs ≡ true → IsRest bs (behind_unit bs) → length (behind_unit bs) < length bs
    → joined len n (solid_len 0 bs) ≡ joined len (n + (length bs - length (behind_unit bs))) (solid_len 0 (behind_unit bs))
passes_gap len n [] gap rest less = absurd (omega arith)
passes_gap len n (b ∷ bs) gap rest less = rw (step b bs rest less, gap) (joins_gap len n _ _)

pub passes_solid : (len n : ℕ) (bs : List ℕ) → begins_gap bs ≡ false → IsRest bs (behind_unit bs) → length (behind_unit bs) < length bs
    → joined len n (solid_len 0 bs) ≡ joined (n + (length bs - length (behind_unit bs))) (n + (length bs - length (behind_unit bs))) (solid_len 0 (behind_unit bs))
passes_solid len n [] gap rest less = absurd (omega arith)
passes_solid len n (b ∷ bs) gap rest less = rw (step b bs rest less, gap) (joins_solid len n _ _ (omega arith))

-- a plain byte that is not white space
pub passes_plain : (len n b : ℕ) (bs : List ℕ) → is_plain b ≡ true → is_blank b ≡ false → joined len n (solid_len 0 (b ∷ bs)) ≡ joined (n + 1) (n + 1) (solid_len 0 bs)
passes_plain len n b bs plain seen =
    let unit = plain_unit b bs plain in
    let one : length (b ∷ bs) - length (behind_unit (b ∷ bs)) ≡ 1 = ap (λ (r : List ℕ). length (b ∷ bs) - length r) unit ∙ omega arith in
    passes_solid len n (b ∷ bs) (plain_solid b bs plain seen) (rw unit (behind_first b bs)) (rw unit (omega arith)) ∙ rw (one, unit) refl

pub begins : (bs : List ℕ) → joined 0 0 (solid_len 0 bs) ≡ solid_len 0 bs
unfolding joined
begins bs = grind (arith, nat_tests)

pub ends : (len n : ℕ) (bs : List ℕ) → length bs ≡ 0 → joined len n (solid_len 0 bs) ≡ len
unfolding joined solid_len
ends len n [] none = refl
ends len n (b ∷ bs) none = absurd (omega arith)

-- one unit more of a text of which so much is left
pub goes_gap : (text old new : List ℕ) (len : ℕ) → IsRest text old → joined len (length text - length old) (solid_len 0 old) ≡ solid_len 0 text
    → new ≡ behind_unit old → IsRest old new → length new < length old → begins_gap old ≡ true
    → joined len (length text - length new) (solid_len 0 new) ≡ solid_len 0 text
goes_gap text old new len outer so_far is rest less gap =
    let less' : length (behind_unit old) < length old = rw is at less in
    let place : (length text - length old) + (length old - length (behind_unit old)) ≡ length text - length (behind_unit old) = omega (arith, outer.shorter, less') in
    let step' = passes_gap len (length text - length old) old gap (subst (λ (z : List ℕ). IsRest old z) is rest) less' in
    rw is (ap (λ n. joined len n (solid_len 0 (behind_unit old))) (sym place) ∙ sym step' ∙ so_far)

pub goes_solid : (text old new : List ℕ) (len : ℕ) → IsRest text old → joined len (length text - length old) (solid_len 0 old) ≡ solid_len 0 text
    → new ≡ behind_unit old → IsRest old new → length new < length old → begins_gap old ≡ false
    → joined (length text - length new) (length text - length new) (solid_len 0 new) ≡ solid_len 0 text
goes_solid text old new len outer so_far is rest less gap =
    let less' : length (behind_unit old) < length old = rw is at less in
    let place : (length text - length old) + (length old - length (behind_unit old)) ≡ length text - length (behind_unit old) = omega (arith, outer.shorter, less') in
    let step' = passes_solid len (length text - length old) old gap (subst (λ (z : List ℕ). IsRest old z) is rest) less' in
    rw is (ap (λ n. joined n n (solid_len 0 (behind_unit old))) (sym place) ∙ sym step' ∙ so_far)

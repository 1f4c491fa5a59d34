-- The last of the last of a list.
use Rattle.std.proofs.Common.{◌≡◌, ℕ, zero, suc, ◌+◌, ◌-◌, List, [], ◌∷◌, length, drop, sym, ap, ◌∙◌, arith}
use Rattle.std.proofs.lemmas.List.{drop-drop, drop_all}
use Rattle.text_bytes.specs.Rests.{IsRest}

module _ {X : Type 0} where
  pub of_rest : (all middle rest : List X) → IsRest all middle → IsRest middle rest → IsRest all rest
  of_rest all middle rest outer inner =
      let steps : (length all - length middle) + (length middle - length rest) ≡ length all - length rest = omega (arith, outer.shorter, inner.shorter) in
      record {
        shorter = omega (arith, outer.shorter, inner.shorter);
        last = ap (λ n. drop n all) (sym steps) ∙ sym (drop-drop (length middle - length rest) (length all - length middle) all) ∙ ap (drop (length middle - length rest)) outer.last ∙ inner.last;
      }

  pub behind_first : (b : X) (bs : List X) → IsRest (b ∷ bs) bs
  behind_first b bs = let one : suc (length bs) - length bs ≡ 1 = omega arith in record { shorter = omega arith; last = ap (λ n. drop n (b ∷ bs)) one }

  pub itself : (all : List X) → IsRest all all
  itself all = let none : length all - length all ≡ 0 = omega arith in record { shorter = omega arith; last = ap (λ n. drop n all) none }

  pub dropped : (n : ℕ) (all : List X) → IsRest all (drop n all)
  dropped zero all = itself all
  dropped (suc n) [] = itself []
  dropped (suc n) (b ∷ bs) = of_rest (b ∷ bs) bs (drop n bs) (behind_first b bs) (dropped n bs)

  pub none_left : (all : List X) → IsRest all []
  none_left all = let whole : length all - 0 ≡ length all = omega arith in record { shorter = omega arith; last = ap (λ n. drop n all) whole ∙ drop_all (length all) all (omega arith) }

-- Reading a Text piece by piece, as a loop does.
use Rattle.std.proofs.Common.{◌≡◌, ℕ, zero, suc, ◌-◌, ◌≤◌, true, false, List, [], ◌∷◌, ◌++◌, length, drop, Some, None, Ok, Err, refl, sym, ap, ◌∙◌, append_assoc, arith, eq-eqb}
use Rattle.std.proofs.lemmas.List.{append-nil}
use Rattle.std.proofs.lemmas.Bool.{ne_eqb}
use Rattle.js_scan.specs.declared.token.ScanFault.TheVariants.{BadString, Template}
use Rattle.js_scan.specs.Texts.{Read, with_letters, text_from, next_piece, begins_template}

with_letters_twice : (a b : List ℕ) (r : Read) → with_letters a (with_letters b r) ≡ with_letters (a ++ b) r
with_letters_twice a b (Err e) = refl
with_letters_twice a b (Ok t) = ap (λ (cs : List ℕ). Ok (cs, t.1)) (simp append_assoc)

-- the bytes that are left of a piece are passed over
skips : (quote at n : ℕ) (bs : List ℕ) → text_from quote at n bs ≡ text_from quote at 0 (drop n bs)
unfolding text_from
skips quote at zero bs = refl
skips quote at (suc n) [] = refl
skips quote at (suc n) (b ∷ bs) = skips quote at n bs

-- ---- what a loop knows at each turn: `front` was read, and `b ∷ behind` is left

module _ (quote at b : ℕ) (behind front : List ℕ) (total : Read) (so_far : with_letters front (text_from quote at 0 (b ∷ behind)) ≡ total) where
  pub goes_on : (letters : List ℕ) (len : ℕ) → (b ≡ quote → ⊥) → begins_template quote (b ∷ behind) ≡ false → next_piece quote (b ∷ behind) ≡ Some (letters, len) → 1 ≤ len
      → with_letters (front ++ letters) (text_from quote at 0 (drop len (b ∷ behind))) ≡ total
  unfolding text_from
  goes_on letters zero other plain found low = absurd (omega arith)
  goes_on letters (suc len) other plain found low =
      let less : suc len - 1 ≡ len = omega arith in
      let one : text_from quote at 0 (b ∷ behind) ≡ with_letters letters (text_from quote at 0 (drop len behind)) =
      rw (ne_eqb b quote other, plain, found, less) (ap (with_letters letters) (skips quote at len behind)) in
      sym (with_letters_twice front letters (text_from quote at 0 (drop len behind))) ∙ ap (with_letters front) (sym one) ∙ so_far

  pub closes : b ≡ quote → total ≡ Ok (front, behind)
  unfolding text_from
  closes same = sym so_far ∙ rw (eq-eqb b quote same) (ap (λ (cs : List ℕ). Ok (cs, behind)) (append-nil front))

  pub is_template : (b ≡ quote → ⊥) → begins_template quote (b ∷ behind) ≡ true → total ≡ Err (Template at)
  unfolding text_from
  is_template other begins = sym so_far ∙ rw (ne_eqb b quote other, begins) refl

  pub stops : (b ≡ quote → ⊥) → begins_template quote (b ∷ behind) ≡ false → next_piece quote (b ∷ behind) ≡ None → total ≡ Err (BadString at)
  unfolding text_from
  stops other plain found = sym so_far ∙ rw (ne_eqb b quote other, plain, found) refl

pub runs_out : (quote at : ℕ) (rest front : List ℕ) (total : Read) → with_letters front (text_from quote at 0 rest) ≡ total → length rest ≡ 0 → total ≡ Err (BadString at)
unfolding text_from
runs_out quote at [] front total so_far none = sym so_far
runs_out quote at (b ∷ bs) front total so_far none = absurd (omega arith)

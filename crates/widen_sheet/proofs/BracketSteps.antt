-- Passing over bytes and strings in brackets.
use Rattle.std.proofs.Common.{◌≡◌, ℕ, zero, suc, ◌-◌, ◌==◌, true, false, List, [], ◌∷◌, length, drop, Some, None, refl, sym, subst, arith}
use Rattle.text_bytes.specs.Rests.{IsRest}
use Rattle.widen_sheet.specs.Wide.{after_byte, behind_quoted, behind_brackets}

pub skips : (closers : List ℕ) (n : ℕ) (bs : List ℕ) → behind_brackets closers n bs ≡ behind_brackets closers 0 (drop n bs)
unfolding behind_brackets
skips closers zero bs = refl
skips closers (suc n) [] = refl
skips closers (suc n) (b ∷ bs) = skips closers n bs

pub found : (closers : List ℕ) (b : ℕ) (behind : List ℕ) → (length (after_byte b closers) == 0) ≡ true → behind_brackets closers 0 (b ∷ behind) ≡ Some behind
unfolding behind_brackets
found closers b behind closed = rw closed refl

one_more : (closers : List ℕ) (b : ℕ) (behind : List ℕ) → (length (after_byte b closers) == 0) ≡ false → IsRest behind (behind_quoted b behind)
    → behind_brackets closers 0 (b ∷ behind) ≡ behind_brackets (after_byte b closers) 0 (behind_quoted b behind)
unfolding behind_brackets
one_more closers b behind some rest = rw (some, skips (after_byte b closers) (length behind - length (behind_quoted b behind)) behind, rest.last) refl

pub goes_on : (closers left rest behind after : List ℕ) (b : ℕ) → rest ≡ b ∷ behind → left ≡ after_byte b closers → (length left == 0) ≡ false → after ≡ behind_quoted b behind → IsRest behind after
    → behind_brackets left 0 after ≡ behind_brackets closers 0 rest
goes_on closers left rest behind after b is tracked some gives last = rw (is, tracked, gives) (sym (one_more closers b behind (rw tracked at some) (subst (λ r. IsRest behind r) gives last)))

pub ends : (closers rest : List ℕ) → length rest ≡ 0 → behind_brackets closers 0 rest ≡ None
unfolding behind_brackets
ends closers [] none = refl
ends closers (b ∷ bs) none = absurd (omega arith)

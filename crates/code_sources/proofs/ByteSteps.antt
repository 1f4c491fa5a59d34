-- Spelling, one byte after the other.
use Rattle.std.proofs.Common.{◌≡◌, ℕ, ◌==◌, ◌≤◌, ◌<◌, nat_lt, true, false, List, [], ◌∷◌, length, drop, Some, None, refl, arith}
use Rattle.std.proofs.lemmas.List.{drop_all}
use Rattle.std.proofs.lemmas.Bool.{ne_eqb}
use Rattle.std.specs.Char.{to_ascii_lowercase}
use Rattle.code_sources.specs.Bytes.{behind_spelled}

pub spelled : (word bs : List ℕ) → length word ≡ 0 → behind_spelled word bs ≡ Some bs
unfolding behind_spelled
spelled [] bs none = refl
spelled (w ∷ ws) bs none = absurd (omega arith)

pub too_few : (w : ℕ) (ws bs : List ℕ) → length bs ≡ 0 → behind_spelled (w ∷ ws) bs ≡ None
unfolding behind_spelled
too_few w ws [] none = refl
too_few w ws (b ∷ bs) none = absurd (omega arith)

pub passes : (w b : ℕ) (ws bs : List ℕ) → b ≤ 32 → behind_spelled (w ∷ ws) (b ∷ bs) ≡ behind_spelled (w ∷ ws) bs
unfolding behind_spelled
passes w b ws bs low = let no : nat_lt 32 b ≡ false = grind (arith) in rw no refl

pub goes_on : (w b : ℕ) (ws bs : List ℕ) → 32 < b → to_ascii_lowercase b ≡ w → behind_spelled (w ∷ ws) (b ∷ bs) ≡ behind_spelled ws bs
unfolding behind_spelled
goes_on w b ws bs high same = let seen : nat_lt 32 b ≡ true = grind (arith) in let is : (to_ascii_lowercase b == w) ≡ true = grind (arith) in rw (seen, is) refl

pub differs : (w b : ℕ) (ws bs : List ℕ) → 32 < b → (to_ascii_lowercase b ≡ w → ⊥) → behind_spelled (w ∷ ws) (b ∷ bs) ≡ None
unfolding behind_spelled
differs w b ws bs high other = let seen : nat_lt 32 b ≡ true = grind (arith) in let no : (to_ascii_lowercase b == w) ≡ false = ne_eqb (to_ascii_lowercase b) w other in rw (seen, no) refl

pub none_left : (count : ℕ) (bs : List ℕ) → length bs ≤ count → drop count bs ≡ []
none_left count bs past = drop_all count bs past

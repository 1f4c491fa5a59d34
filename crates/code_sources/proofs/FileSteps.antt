-- The last part of a path, one byte after the other.
use Rattle.std.proofs.Common.{◌≡◌, ℕ, Bool, true, false, if◌then◌else◌, List, [], ◌∷◌, length, refl, sym, arith, eq-eqb}
use Rattle.std.proofs.lemmas.Bool.{ne_eqb}
use Rattle.code_sources.specs.Scripts.{has_slash, last_part}

-- the last part of the rest, where it has a slash, else what was found before
unfoldable pub last_of : List ℕ → List ℕ → List ℕ
last_of found rest = if has_slash rest then last_part rest else found

without : (bs : List ℕ) → has_slash bs ≡ false → last_part bs ≡ bs
unfolding last_part
without [] none = refl
without (b ∷ bs) none = rw none refl

by : (test : Bool) (bs : List ℕ) → has_slash bs ≡ test → (if test then last_part bs else bs) ≡ last_part bs
by true bs is = refl
by false bs is = sym (without bs is)

pub begins : (bs : List ℕ) → last_of bs bs ≡ last_part bs
unfolding last_of
begins bs = by (has_slash bs) bs refl

pub slash : (found : List ℕ) (b : ℕ) (bs : List ℕ) → b ≡ 47 → last_of found (b ∷ bs) ≡ last_of bs bs
unfolding last_of last_part
slash found b bs is = rw (eq-eqb b 47 is) (sym (by (has_slash bs) bs refl))

pub other : (found : List ℕ) (b : ℕ) (bs : List ℕ) → (b ≡ 47 → ⊥) → last_of found (b ∷ bs) ≡ last_of found bs
unfolding last_of last_part
other found b bs differs = rw (ne_eqb b 47 differs) (twice (has_slash bs))
  where
    twice : (test : Bool) → (if test then (if test then last_part bs else b ∷ bs) else found) ≡ (if test then last_part bs else found)
    twice true = refl
    twice false = refl

pub ends : (found bs : List ℕ) → length bs ≡ 0 → last_of found bs ≡ found
unfolding last_of
ends found [] none = refl
ends found (b ∷ bs) none = absurd (omega arith)

-- What an `end` leaves of a chain is the same, told from the last call back and from the first call on.
use Rattle.std.proofs.Common.{◌≡◌, ℕ, zero, suc, List, [], ◌∷◌, refl, sym, ap, ◌∙◌}
use mathlib.Core.List.{reverse_aux}
use Rattle.jq_stmts.specs.Statements.{Root, matched, back}
use Rattle.jq_stmts.specs.Sharp.{ExactCall, plain}
use Rattle.jq_exact.specs.Exact.{set_before, stands}
use Rattle.jq_exact.specs.Standing.{standing}

-- none of the calls is a `back`
abbrev StandAll : List ExactCall → Type 0
StandAll [] = Unit {0}
StandAll (c ∷ calls) = (c ≡ plain back → ⊥) × StandAll calls

all_stand : (root : Root) (calls : List ExactCall) → StandAll calls → set_before zero root calls ≡ (root, calls)
all_stand root [] all = refl
all_stand root (plain back ∷ calls) all = absurd (all.0 refl)
all_stand root (c ∷ calls) all = ap (λ (s : Root × List ExactCall). (s.0, c ∷ s.1)) (all_stand root calls all.1)

-- nothing is before the first set
nothing_before : (root : Root) (n : ℕ) → set_before n (matched []) [] ≡ set_before n root (plain back ∷ [])
nothing_before root zero = refl
nothing_before root (suc n) = refl

-- a `back` behind a call takes it back
one_back : (root : Root) (c : ExactCall) (calls : List ExactCall) → (c ≡ plain back → ⊥) → (n : ℕ) → set_before n root calls ≡ set_before n root (plain back ∷ c ∷ calls)
one_back root (plain back) calls stands n = absurd (stands refl)
one_back root c calls stands n = refl

module _ (root other : Root) where
  -- calls that make the same sets, with one call more
  one_more : (c : ExactCall) (calls others : List ExactCall) → ((n : ℕ) → set_before n root calls ≡ set_before n other others) → (n : ℕ) → set_before n root (c ∷ calls) ≡ set_before n other (c ∷ others)
  one_more (plain back) calls others same n = same (suc n)
  one_more c calls others same zero = ap (λ (s : Root × List ExactCall). (s.0, c ∷ s.1)) (same zero)
  one_more c calls others same (suc n) = same n

  -- with several
  more : (behind calls others : List ExactCall) → ((n : ℕ) → set_before n root calls ≡ set_before n other others) → (n : ℕ) → set_before n root (reverse_aux behind calls) ≡ set_before n other (reverse_aux behind others)
  more [] calls others same n = same n
  more (c ∷ behind) calls others same n = more behind (c ∷ calls) (c ∷ others) (λ m. one_more c calls others same m) n

from_first : (root : Root) (calls others : List ExactCall) → StandAll calls → standing root calls others ≡ set_before zero root (reverse_aux others calls)
from_first root calls [] all = sym (all_stand root calls all)
from_first root [] (plain back ∷ others) all = from_first (matched []) [] others tt ∙ more (matched []) root others [] (plain back ∷ []) (nothing_before root) zero
from_first root (c ∷ calls) (plain back ∷ others) all = from_first root calls others all.1 ∙ more root root others calls (plain back ∷ c ∷ calls) (one_back root c calls all.0) zero
from_first root calls (c ∷ others) all = from_first root (c ∷ calls) others (λ is. cc, all)

pub stands_from_first : (root : Root) (calls : List ExactCall) → stands root calls ≡ standing root [] calls
stands_from_first root calls = sym (from_first root [] calls tt)

-- Truths, and tests of numbers.
use Rattle.std.proofs.Common.{◌≡◌, ◌↔◌, ℕ, suc, ◌<◌, Bool, IsTrue, true, false, ◌&&◌, ◌||◌, nat_lt, ◌==◌, cond, refl, sym, arith}
use Rattle.std.proofs.lemmas.Bool.{eq-eqb, ne_eqb}
use Rattle.std.proofs.lemmas.Bool.Decides.{nat_tests}

pub and_true : (b : Bool) → (b && true) ≡ b
and_true true = refl
and_true false = refl

pub and_false : (b : Bool) → (b && false) ≡ false
and_false true = refl
and_false false = refl

pub or_true : (b : Bool) → (b || true) ≡ true
or_true true = refl
or_true false = refl

pub or_false : (b : Bool) → (b || false) ≡ b
or_false true = refl
or_false false = refl

pub or_assoc : (a b c : Bool) → ((a || b) || c) ≡ (a || (b || c))
or_assoc true b c = refl
or_assoc false b c = refl

pub or_again : (a b : Bool) → ((a || b) || b) ≡ (a || b)
or_again true b = refl
or_again false true = refl
or_again false false = refl

pub cond_itself : (b : Bool) → cond b true false ≡ b
cond_itself true = refl
cond_itself false = refl

pub not_both : (b : Bool) → b ≡ true → b ≡ false → ⊥
not_both true is not = cc
not_both false is not = cc

-- what a test that failed says
pub not_so : (P : Type 0) (b : Bool) → IsTrue b ↔ P → b ≡ false → P → ⊥
not_so P b same no_test p = let yes : b ≡ true = same.1 p in cc

-- two tests that hold of the same facts are one
pub same_test : (a b : Bool) → (a ≡ true → b ≡ true) → (b ≡ true → a ≡ true) → a ≡ b
same_test true b f g = sym (f refl)
same_test false true f g = g refl
same_test false false f g = refl

pub suc_not_zero : (n : ℕ) → (suc n == 0) ≡ false
suc_not_zero n = grind (arith, nat_tests)

pub same_number : (n : ℕ) → (n == n) ≡ true
same_number n = eq-eqb n n refl

pub other_number : (m n : ℕ) → (m ≡ n → ⊥) → (m == n) ≡ false
other_number m n other = ne_eqb m n other

pub is_less : (m n : ℕ) → m < n → nat_lt m n ≡ true
is_less m n less = grind (arith, nat_tests)

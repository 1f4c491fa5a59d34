-- Numbers, as their order says that they compare.
use Rattle.std.proofs.Common.{◌≡◌, ℕ, ◌+◌, ◌<◌, true, false, sym, ap, ◌∙◌, arith}
use Rattle.std.specs.Ordering.{nat_cmp, is_lt}
use Rattle.std.specs.declared.cmp.Ordering.{Ordering}
use Rattle.std.specs.declared.cmp.Ordering.TheVariants.{Less, Equal}

pub none_more : (n : ℕ) → n ≡ 0 + n
none_more n = omega arith

pub nat_less : (x y : ℕ) → x < y → nat_cmp x y ≡ Less
nat_less x y lt = grind (arith, lt)

pub nat_same : (x y : ℕ) → x ≡ y → nat_cmp x y ≡ Equal
nat_same x y same = ap (nat_cmp x) (sym same) ∙ itself x
  where
    itself : (x : ℕ) → nat_cmp x x ≡ Equal
    itself x = grind arith

pub never_less : (o : Ordering) → o ≡ Less → is_lt o ≡ false → ⊥
never_less o less not = let e : true ≡ false = ap is_lt (sym less) ∙ not in cc

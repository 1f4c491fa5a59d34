-- Worked examples.
use Rattle.std.proofs.Common.{◌≡◌, true, false, [], ◌∷◌, length, refl}
use Rattle.class_diagrams.specs.Trees.{leaf, branch, eval, tand, tor, variable, with_branches, subs}

-- the sets with 1 and 2, and those with 1 or 2
both : tand (variable 1) (variable 2) ≡ branch 1 (leaf false) (variable 2)
unfolding tand
both = refl

either : tor (variable 1) (variable 2) ≡ branch 1 (variable 2) (leaf true)
unfolding tor
either = refl

-- equal branches are merged
one : tand (branch 1 (variable 2) (leaf true)) (variable 2) ≡ variable 2
unfolding tand
one = refl

-- two variables and the tree of both are three branches, and the tree of either is a fourth
three : length (with_branches (with_branches (with_branches [] (variable 1)) (variable 2)) (tand (variable 1) (variable 2))) ≡ 3
unfolding tand
three = refl

four : length (with_branches (with_branches (with_branches (with_branches [] (variable 1)) (variable 2)) (tand (variable 1) (variable 2))) (tor (variable 1) (variable 2))) ≡ 4
unfolding tand tor
four = refl

-- one of the two is not enough
not_both : eval (tand (variable 1) (variable 2)) (1 ∷ []) ≡ false
unfolding tand
not_both = refl

-- the tree of both has two branches of its own
two : length (subs (tand (variable 1) (variable 2) ∷ [])) ≡ 2
unfolding tand
two = refl

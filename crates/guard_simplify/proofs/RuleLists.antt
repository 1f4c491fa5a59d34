-- Lists by rules, and by other lists, one after another.
use Rattle.std.proofs.Common.{◌≡◌, ℕ, suc, ◌+◌, Bool, List, [], ◌∷◌, ◌++◌, fold, Some, refl, sym, ap, ◌∙◌, subst, arith, append_assoc}
use Rattle.std.specs.Prelude.{slice_get}
use Rattle.std.specs.List.{flat_map}
use Rattle.std.proofs.lemmas.List.Sums.{fold-append}
use Rattle.guard_sem.specs.declared.rules.Rule.{Rule}
use Rattle.guard_simplify.specs.Firsts.{with_new}
use Rattle.guard_simplify.specs.Auxiliaries.{by_rule}

pub by_rule_next : {X : Type 0} (f : ℕ → Rule → List X) (i : ℕ) (r : Rule) (rules : List Rule) → by_rule f i (r ∷ rules) ≡ f i r ++ by_rule f (i + 1) rules
by_rule_next f i r rules = let next : suc i ≡ i + 1 = omega arith in ap (λ k. f i r ++ by_rule f k rules) next

-- elements that are pushed, rule by rule
pub pushed_next : {X : Type 0} (f : ℕ → Rule → List X) (old new : List X) (i : ℕ) (r : Rule) (rules : List Rule) → new ≡ old ++ f i r → new ++ by_rule f (i + 1) rules ≡ old ++ by_rule f i (r ∷ rules)
pushed_next f old new i r rules is = ap (λ z. z ++ by_rule f (i + 1) rules) is ∙ append_assoc old (f i r) (by_rule f (i + 1) rules) ∙ ap (λ z. old ++ z) (sym (by_rule_next f i r rules))

-- elements that are put in where they are new, list by list
pub entered_next : {X Y : Type 0} (same : X → X → Bool) (f : Y → List X) (old new : List X) (y : Y) (ys : List Y) → new ≡ fold (with_new same) old (f y)
    → fold (with_new same) new (flat_map f ys) ≡ fold (with_new same) old (flat_map f (y ∷ ys))
entered_next same f old new y ys is = ap (λ z. fold (with_new same) z (flat_map f ys)) is ∙ sym (fold-append (with_new same) old (f y) (flat_map f ys))

-- lists that agree at each rule
pub by_rule_same : {X : Type 0} (f g : ℕ → Rule → List X) (i : ℕ) (rules : List Rule) → ((j : ℕ) (r : Rule) → slice_get rules j ≡ Some r → f (i + j) r ≡ g (i + j) r) → by_rule f i rules ≡ by_rule g i rules
by_rule_same f g i [] same = refl
by_rule_same f g i (r ∷ rules) same =
    let none : i + 0 ≡ i = omega arith in
    let first : f i r ≡ g i r = subst (λ k. f k r ≡ g k r) none (same 0 r refl) in
    let rest = by_rule_same f g (suc i) rules (λ j r' at. let next : i + suc j ≡ suc i + j = omega arith in subst (λ k. f k r' ≡ g k r') next (same (suc j) r' at)) in
    ap (λ z. z ++ by_rule f (suc i) rules) first ∙ ap (λ z. g i r ++ z) rest

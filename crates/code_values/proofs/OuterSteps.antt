-- What stands outside of inner brackets, one token after the other, as loops do.
use Rattle.std.proofs.Common.{◌≡◌, ℕ, zero, suc, ◌+◌, ◌-◌, true, false, List, [], ◌∷◌, ◌++◌, length, drop, Option, refl, sym, ap, subst, ◌∙◌, append_assoc, arith}
use Rattle.code_tokens.specs.declared.code.Code.{Code}
use Rattle.code_values.specs.declared.spans.Span.{Span}
use Rattle.code_values.specs.Outer.{inner_count, outer_from, is_comma, part, parts_from}

skipped : (size n : ℕ) (os : List (Option ℕ)) → outer_from size n os ≡ outer_from size 0 (drop n os)
unfolding outer_from
skipped size zero [] = refl
skipped size zero (o ∷ os) = refl
skipped size (suc n) [] = refl
skipped size (suc n) (o ∷ os) = skipped size n os

pub one_more : (size at : ℕ) (rest os : List (Option ℕ)) (o : Option ℕ) → rest ≡ o ∷ os → at ≡ size - length rest
    → outer_from size 0 rest ≡ at ∷ outer_from size 0 (drop (inner_count at o) os)
unfolding outer_from
one_more size at rest os o is here =
    let place : size - length (o ∷ os) ≡ at = sym (here ∙ ap (λ (qs : List (Option ℕ)). size - length qs) is) in
    ap (λ (qs : List (Option ℕ)). outer_from size 0 qs) is ∙ subst (λ n. outer_from size 0 (o ∷ os) ≡ n ∷ outer_from size (inner_count n o) os) place refl
    ∙ ap (λ (ats : List ℕ). at ∷ ats) (skipped size (inner_count at o) os)

pub none_left : (size : ℕ) (rest : List (Option ℕ)) → length rest ≡ 0 → outer_from size 0 rest ≡ []
unfolding outer_from
none_left size [] none = refl
none_left size (o ∷ os) none = absurd (omega arith)

-- ---- parts between commas

pub comma : (text : List ℕ) (code : Code) (to from at : ℕ) (old ats : List ℕ) (before total : List Span) → old ≡ at ∷ ats → is_comma text code at ≡ true
    → before ++ parts_from text code to from old ≡ total → (before ++ part from at) ++ parts_from text code to (at + 1) ats ≡ total
unfolding parts_from
comma text code to from at old ats before total is holds so_far =
    append_assoc before (part from at) (parts_from text code to (at + 1) ats)
    ∙ ap (λ (ss : List Span). before ++ ss) (sym (ap (parts_from text code to from) is ∙ rw holds refl)) ∙ so_far

pub no_comma : (text : List ℕ) (code : Code) (to from at : ℕ) (old ats : List ℕ) (before total : List Span) → old ≡ at ∷ ats → is_comma text code at ≡ false
    → before ++ parts_from text code to from old ≡ total → before ++ parts_from text code to from ats ≡ total
unfolding parts_from
no_comma text code to from at old ats before total is none so_far =
    ap (λ (ss : List Span). before ++ ss) (sym (ap (parts_from text code to from) is ∙ rw none refl)) ∙ so_far

pub last_part : (text : List ℕ) (code : Code) (to from : ℕ) (old : List ℕ) (before total : List Span) → old ≡ []
    → before ++ parts_from text code to from old ≡ total → before ++ part from to ≡ total
unfolding parts_from
last_part text code to from old before total is so_far = ap (λ (ats : List ℕ). before ++ parts_from text code to from ats) (sym is) ∙ so_far

-- What makes the set of a chain with one call more.
use Rattle.std.proofs.Common.{◌≡◌, ℕ, zero, suc, List, [], ◌∷◌, ◌++◌, reverse, refl, ap, ◌∙◌}
use Rattle.std.proofs.lemmas.List.{reverse-append}
use Rattle.jq_stmts.specs.Statements.{Root, matched, Call, back, set_before, stands}

-- what makes the set before one that is made so; before the first one nothing is
abbrev pub without_last : Root → List Call → Root × List Call
without_last root [] = (matched [], [])
without_last root (c ∷ earlier) = (root, earlier)

one_before : (root : Root) (n : ℕ) (calls : List Call) → set_before (suc n) root calls ≡ (let s = set_before n root calls in without_last s.0 s.1)
one_before root zero [] = refl
one_before root (suc n) [] = refl
one_before root n (back ∷ calls) = one_before root (suc n) calls
one_before root zero (c ∷ calls) = refl
one_before root (suc n) (c ∷ calls) = one_before root n calls

-- a `back` takes the last call that stands
pub back_more : (root : Root) (calls : List Call) → stands root (calls ++ back ∷ []) ≡ (let s = stands root calls in without_last s.0 s.1)
back_more root calls = ap (set_before zero root) (reverse-append calls (back ∷ [])) ∙ one_before root zero (reverse calls)

one_stands : (root : Root) (c : Call) (earlier : List Call) → (c ≡ back → ⊥) → set_before zero root (c ∷ earlier) ≡ (let s = set_before zero root earlier in (s.0, c ∷ s.1))
one_stands root back earlier other = absurd (other refl)
one_stands root c earlier other = refl

-- and any other call stands
pub call_more : (root : Root) (calls : List Call) (c : Call) → (c ≡ back → ⊥) → stands root (calls ++ c ∷ []) ≡ (let s = stands root calls in (s.0, c ∷ s.1))
call_more root calls c other = ap (set_before zero root) (reverse-append calls (c ∷ [])) ∙ one_stands root c (reverse calls) other

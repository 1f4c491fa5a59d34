-- Building trees token by token, as a loop does.
use Rattle.std.proofs.Common.{◌≡◌, ℕ, zero, suc, ◌-◌, ◌<◌, List, [], ◌∷◌, ◌++◌, length, drop, Option, Some, None, Ok, Err, refl, sym, ap, ◌∙◌, arith}
use Rattle.std.specs.Option.{option_to_list}
use Rattle.text_bytes.specs.Rests.{IsRest}
use Rattle.html_tokens.specs.Tokens.{Token, front, tokens_from}
use Rattle.html_subset.specs.Labels.{Outcome, ◌>>=◌}
use Rattle.html_subset.specs.Machine.{Machine, any_token, run}
use Rattle.html_subset.specs.declared.faults.PageFault.{PageFault}
use Rattle.tp_base.specs.Names.{Named}

pub tokens_skip : (size n : ℕ) (bs : List ℕ) → tokens_from size n bs ≡ tokens_from size 0 (drop n bs)
unfolding tokens_from
tokens_skip size zero bs = refl
tokens_skip size (suc n) [] = refl
tokens_skip size (suc n) (b ∷ bs) = tokens_skip size n bs

one_more : (o : Option Token) (ts : List Token) (s : Machine) → run (option_to_list o ++ ts) s ≡ (any_token o s >>= run ts)
unfolding run any_token
one_more None ts s = refl
one_more (Some t) ts s = refl

step : (size at : ℕ) (rest after : List ℕ) (t : Option Token) (s : Machine) → front at rest ≡ (t, after) → at ≡ size - length rest → IsRest rest after → length after < length rest
    → run (tokens_from size 0 rest) s ≡ (any_token t s >>= run (tokens_from size 0 after))
unfolding tokens_from
step size at [] after t s read here rest less = absurd (omega arith)
step size at (b ∷ bs) after t s read here rest less =
    let more : length (b ∷ bs) - length after ≡ suc (length bs - length after) = omega arith in
    let last : drop (length bs - length after) bs ≡ after = ap (λ n. drop n (b ∷ bs)) (sym more) ∙ rest.last in
    rw (← here, read, tokens_skip size (length bs - length after) bs, last) (one_more t (tokens_from size 0 after) s)

-- ---- what a loop knows at each turn: `s` was built, and `rest` is left

pub adds : (size at : ℕ) (rest after : List ℕ) (t : Option Token) (s q : Machine) (total : Outcome Machine) → run (tokens_from size 0 rest) s ≡ total
    → front at rest ≡ (t, after) → at ≡ size - length rest → IsRest rest after → length after < length rest → any_token t s ≡ Ok q
    → run (tokens_from size 0 after) q ≡ total
adds size at rest after t s q total so_far read here last less found =
    sym (ap (λ (r : Outcome Machine). r >>= run (tokens_from size 0 after)) found) ∙ sym (step size at rest after t s read here last less) ∙ so_far

pub fails : (size at : ℕ) (rest after : List ℕ) (t : Option Token) (s : Machine) (total : Outcome Machine) (e : PageFault × List Named) → run (tokens_from size 0 rest) s ≡ total
    → front at rest ≡ (t, after) → at ≡ size - length rest → IsRest rest after → length after < length rest → any_token t s ≡ Err e
    → total ≡ Err e
fails size at rest after t s total e so_far read here last less found =
    sym so_far ∙ step size at rest after t s read here last less ∙ ap (λ (r : Outcome Machine). r >>= run (tokens_from size 0 after)) found

pub ends : (size : ℕ) (rest : List ℕ) (s : Machine) (total : Outcome Machine) → run (tokens_from size 0 rest) s ≡ total → length rest ≡ 0 → total ≡ Ok s
unfolding tokens_from run
ends size [] s total so_far none = sym so_far
ends size (b ∷ bs) s total so_far none = absurd (omega arith)

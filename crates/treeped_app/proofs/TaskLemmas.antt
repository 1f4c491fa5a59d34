-- Names of pages, each with its script.
use Rattle.std.proofs.Common.{◌≡◌, ◌≤◌, ◌+◌, ◌*◌, ◌-◌, suc, [], ◌∷◌, length, take, drop, get_or, arith, ℕ, List, refl, ap, ◌∙◌}
use Rattle.std.proofs.Math.Seq.{take-length}
use Rattle.limits.specs.declared.pages.TheConstants.{MOST_PAGES}
use Rattle.treeped_app.specs.Tasks.{paired}

pairs_few : (names : List (List ℕ)) → 2 * length (paired names) ≤ length names
pairs_few [] = omega arith
pairs_few (page ∷ []) = omega arith
pairs_few (page ∷ script ∷ names) = let few = pairs_few names in omega (arith, few)

pub site_few : (names : List (List ℕ)) → 3 ≤ length names → length names ≤ 2 * MOST_PAGES + 1 → suc (length (paired (take (length names - 3) (drop 3 names)))) ≤ MOST_PAGES
site_few [] least most = absurd (omega (arith, least))
site_few (a ∷ []) least most = absurd (omega (arith, least))
site_few (a ∷ b ∷ []) least most = absurd (omega (arith, least))
site_few (a ∷ b ∷ c ∷ names) least most =
    let same : length (a ∷ b ∷ c ∷ names) - 3 ≡ length names = omega arith in
    let few = pairs_few names in
    let all = ap (λ n. length (paired (take n names))) same ∙ ap (λ z. length (paired z)) (take-length names) in
    omega (arith, few, all, most)

-- the first two names, and the others
pub next_pair : (names : List (List ℕ)) (page script : List ℕ) → 2 ≤ length names → page ≡ get_or names 0 page → script ≡ get_or names 1 script → paired names ≡ (page, script) ∷ paired (take (length names - 2) (drop 2 names))
next_pair [] page script least first second = absurd (omega (arith, least))
next_pair (a ∷ []) page script least first second = absurd (omega (arith, least))
next_pair (a ∷ b ∷ names) page script least first second =
    let same : length (a ∷ b ∷ names) - 2 ≡ length names = omega arith in
    rw (first, second, same, take-length names) refl

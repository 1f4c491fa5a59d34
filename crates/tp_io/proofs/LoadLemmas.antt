-- No load of files that never fail is listed as one that failed.
use Rattle.std.proofs.Common.{◌≡◌, ℕ, List, [], ◌∷◌, ◌++◌, true, false, refl, subst}
use Rattle.std.specs.Prelude.{All}
use Rattle.std.proofs.lemmas.List.Elements.{All-map, All-from_get_or, All-contains, Contains-push}
use Rattle.tp_io.specs.Files.{Load}
use Rattle.tp_io.specs.MemoryFiles.{sure_loads}

pub no_load_failed : (names : List (List ℕ)) → All (λ (l : Load). l.failed ≡ false) (sure_loads names)
no_load_failed names =
    All-map (λ (l : Load). l.failed ≡ false) (λ name. record { name = name; failed = false }) names
    (All-from_get_or (λ (name : List ℕ). false ≡ false) names [] (λ i within. refl))

-- so the last one isn't
pub last_load_succeeded : (names : List (List ℕ)) (before : List Load) (name : List ℕ) → sure_loads names ≡ before ++ record { name = name; failed = true } ∷ [] → ⊥
last_load_succeeded names before name is =
    let P : Load → Type 0 = λ l. l.failed ≡ false in
    let last : Load = record { name = name; failed = true } in
    let all = subst (λ (loads : List Load). All P loads) is (no_load_failed names) in
    let never : true ≡ false = All-contains P (before ++ last ∷ []) last all (Contains-push before last) in
    cc

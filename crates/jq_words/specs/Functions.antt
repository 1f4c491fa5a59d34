-- The functions that a script declares, anywhere in it.
use Rattle.std.specs.Prelude.{ℕ, ◌&&◌, if◌then◌else◌, List, [], ◌∷◌, ◌++◌, codes}
use Rattle.jq_words.specs.Words.{Word, is_mark, is_name, is_any_name, fits}

-- the name that stands behind `function`, where the words begin so
unfoldable pub behind_function : List Word → List (List ℕ)
behind_function [] = []
behind_function (f ∷ []) = []
behind_function (f ∷ w ∷ ws) = if is_name (codes "function") f && is_any_name w then w.spelling ∷ [] else []

-- the name that stands before `=` and `function`, where the words begin so
unfoldable pub before_function : List Word → List (List ℕ)
before_function [] = []
before_function (w ∷ ws) = if is_any_name w && fits (is_mark (codes "=") ∷ is_name (codes "function") ∷ []) ws then w.spelling ∷ [] else []

unfoldable pub declared_in : List Word → List (List ℕ)
declared_in [] = []
declared_in (w ∷ ws) = behind_function (w ∷ ws) ++ before_function (w ∷ ws) ++ declared_in ws

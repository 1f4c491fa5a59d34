-- Decision trees stored as lists of marks.
use Rattle.std.specs.Prelude.{◌≡◌, ℕ, Bool, false, List, [], ◌∷◌, refl}
use Rattle.std.specs.Coded.{Coded, code_by, coded×, coded⊎, coded_list, coded_ℕ, coded_bool}
use Rattle.std.specs.Prelude.{◌⊎◌}
use Rattle.std.proofs.Common.{ap, ◌∙◌, inl, inr}
use Rattle.class_diagrams.specs.Trees.{Tree, leaf, branch}
use Rattle.class_diagrams.specs.Arena.{Arena}

-- a leaf by its value, a branch by its atom behind its two trees
abbrev pub written : Tree → List (Bool ⊎ ℕ) → List (Bool ⊎ ℕ)
written (leaf v) rest = inl v ∷ rest
written (branch a l h) rest = written l (written h (inr a ∷ rest))

abbrev pub read_back : List (Bool ⊎ ℕ) → List Tree → List Tree
read_back [] stack = stack
read_back (inl v ∷ marks) stack = read_back marks (leaf v ∷ stack)
read_back (inr a ∷ marks) [] = []
read_back (inr a ∷ marks) (h ∷ []) = []
read_back (inr a ∷ marks) (h ∷ l ∷ stack) = read_back marks (branch a l h ∷ stack)

pub read_written : (t : Tree) (rest : List (Bool ⊎ ℕ)) (stack : List Tree) → read_back (written t rest) stack ≡ read_back rest (t ∷ stack)
read_written (leaf v) rest stack = refl
read_written (branch a l h) rest stack =
    read_written l (written h (inr a ∷ rest)) stack ∙ read_written h (inr a ∷ rest) (l ∷ stack)

abbrev pub top_of : List Tree → Tree
top_of [] = leaf false
top_of (t ∷ stack) = t

abbrev pub tree_code : Coded Tree
tree_code =
    code_by (List (Bool ⊎ ℕ)) (coded_list (coded⊎ coded_bool coded_ℕ))
    (λ t. written t []) (λ marks. top_of (read_back marks [])) (λ t. ap top_of (read_written t [] []))

abbrev pub arena_code : Coded Arena
arena_code = code_by (List Tree × ℕ) (coded× (coded_list tree_code) coded_ℕ) (λ a. (a.branches, a.limit)) (λ p. record { branches = p.0; limit = p.1 }) (λ _. refl)

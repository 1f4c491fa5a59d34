-- Sets of numbers as bit vectors.
use Rattle.std.specs.Prelude.{ℕ, suc, Bool, true, false, List, [], ◌∷◌}

-- the numbers that are marked, where the first mark is that of n
abbrev pub marked_from : ℕ → List Bool → List ℕ
marked_from n [] = []
marked_from n (true ∷ marks) = n ∷ marked_from (suc n) marks
marked_from n (false ∷ marks) = marked_from (suc n) marks

abbrev pub marked : List Bool → List ℕ
marked marks = marked_from 0 marks

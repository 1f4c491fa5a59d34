-- The nodes that selectors match.
--     Above t v n outer      the outer compounds match above the node that the first n numbers of v lead to
--     Matches t v s          the selector matches the node at v
use Rattle.std.specs.Prelude.{◌≡◌, ℕ, ◌+◌, ◌<◌, List, [], ◌∷◌, length, take}
use Rattle.tree_sem.specs.Trees.{LabelTree}
use Rattle.tree_sem.specs.Nodes.{HasAtoms}
use Rattle.sel_text.specs.Selectors.{Join, child, inside, Outer, Selector}

-- the level m is that of the parent, or of some node above
abbrev pub IsAbove : Join → ℕ → ℕ → Type 0
IsAbove child m n = m + 1 ≡ n
IsAbove inside m n = m < n

abbrev pub Above : LabelTree → List ℕ → ℕ → List Outer → Type 0
Above t v n [] = Unit {0}
Above t v n (o ∷ outer) = (m : ℕ) × IsAbove o.join m n × HasAtoms t (take m v) o.atoms × Above t v m outer

abbrev pub Matches : LabelTree → List ℕ → Selector → Type 0
Matches t v s = HasAtoms t v s.subject × Above t v (length v) s.outer

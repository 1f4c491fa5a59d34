-- The nodes of a tree, by their paths, and the atoms of their labels.
--     IsNode t v      there is a node at v
--     HasAtom t v a   there is one, and its label has the atom a
--     HasAtoms t v l  .. and its label has all atoms of l
--     AllRise t       each label is a set of atoms, as a list that rises
--     IsTreeOver n t  its atoms are of a table of n
use Rattle.std.specs.Prelude.{◌≡◌, ℕ, ◌<◌, List, Some, IsSome, IsSomeAnd, All, Contains}
use Rattle.std.specs.List.Sorted.{IsStrictlyIncreasing}
use Rattle.tree_sem.specs.Trees.{LabelTree, node_at, label_at}

abbrev pub IsNode : LabelTree → List ℕ → Type 0
IsNode t v = IsSome (node_at v t)

abbrev pub HasAtom : LabelTree → List ℕ → ℕ → Type 0
HasAtom t v a = IsSomeAnd (label_at v t) (λ label. Contains label a)

abbrev pub HasAtoms : LabelTree → List ℕ → List ℕ → Type 0
HasAtoms t v wanted = IsSomeAnd (label_at v t) (λ label. All (Contains label) wanted)

abbrev pub AllRise : LabelTree → Type 0
AllRise t = (v label : List ℕ) → label_at v t ≡ Some label → IsStrictlyIncreasing label

abbrev pub IsTreeOver : ℕ → LabelTree → Type 0
IsTreeOver n t = (v : List ℕ) (a : ℕ) → HasAtom t v a → a < n

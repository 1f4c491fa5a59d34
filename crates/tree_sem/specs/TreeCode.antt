-- The code of a tree, which `impl Model` asks for: a tree is written as a list of marks, and read back with a stack.
use Rattle.std.specs.Prelude.{◌≡◌, ℕ, List, [], ◌∷◌, Option, Some, None, refl}
use Rattle.std.proofs.Common.{ap, ◌∙◌}
use Rattle.std.specs.Coded.{Coded, code_by, coded×, coded_ℕ, coded_list, coded_option}
use Rattle.tree_sem.specs.Trees.{Row, no_nodes, node, LabelTree}

-- each node's label after what is below it and after what follows it; `None` for the end of a row
abbrev pub written : Row → List (Option (List ℕ)) → List (Option (List ℕ))
written no_nodes rest = None ∷ rest
written (node l below next) rest = written below (written next (Some l ∷ rest))

abbrev pub read_back : List (Option (List ℕ)) → List Row → List Row
read_back [] stack = stack
read_back (None ∷ marks) stack = read_back marks (no_nodes ∷ stack)
read_back (Some l ∷ marks) [] = []
read_back (Some l ∷ marks) (next ∷ []) = []
read_back (Some l ∷ marks) (next ∷ below ∷ stack) = read_back marks (node l below next ∷ stack)

abbrev pub top_of : List Row → Row
top_of [] = no_nodes
top_of (f ∷ stack) = f

pub read_written : (f : Row) (rest : List (Option (List ℕ))) (stack : List Row) → read_back (written f rest) stack ≡ read_back rest (f ∷ stack)
read_written no_nodes rest stack = refl
read_written (node l below next) rest stack =
    read_written below (written next (Some l ∷ rest)) stack ∙ read_written next (Some l ∷ rest) (below ∷ stack)

abbrev pub tree_code : Coded LabelTree
tree_code =
    code_by (List ℕ × List (Option (List ℕ))) (coded× (coded_list coded_ℕ) (coded_list (coded_option (coded_list coded_ℕ))))
    (λ t. (t.label, written t.below [])) (λ p. record { label = p.0; below = top_of (read_back p.1 []) })
    (λ t. ap (λ (f : Row). let t' : LabelTree = record { label = t.label; below = f } in t') (ap top_of (read_written t.below [] [])))

-- Edits that keep each node at its path, with at least its label.
use Rattle.std.proofs.Common.{◌≡◌, ℕ, IsSomeAnd, List, [], ◌∷◌, ◌++◌, Some, None, IsSome, Contains, option_map, refl, ap, ◌∙◌, arith}
use Rattle.tp_base.proofs.ClassLemmas.{with_class-there}
use Rattle.tree_sem.specs.Trees.{node, LabelTree, leaf, length_of, node_at, edit_at, add_class, add_child}
use Rattle.tree_sem.proofs.EditLemmas.{node_at-edit_at, node_at-edit_at_below, tree_of-push_tree}
use Rattle.tree_sem.proofs.RowLemmas.{there}
use Rattle.tree_sem.specs.Nodes.{HasAtom}
use Rattle.tree_sem.specs.Growth.{Grows}

-- a node that has an atom
pub has_node : (t : LabelTree) (v : List ℕ) (a : ℕ) → HasAtom t v a → (s : LabelTree) × (node_at v t ≡ Some s) × Contains s.label a
has_node t v a has = elim (node_at v t) as (λ o. node_at v t ≡ o → IsSomeAnd (option_map (λ (n : LabelTree). n.label) o) (λ label. Contains label a) → (s : LabelTree) × (node_at v t ≡ Some s) × Contains s.label a) [
  | None ↦ λ e h. elim h [ ]
  | Some s ↦ λ e h. (s, e, h)
] refl has

pub node_has : (t s : LabelTree) (v : List ℕ) (a : ℕ) → node_at v t ≡ Some s → Contains s.label a → HasAtom t v a
node_has t s v a at has = rw at has

pub has_there : (t : LabelTree) (v : List ℕ) (a : ℕ) → HasAtom t v a → IsSome (node_at v t)
has_there t v a has = rw (has_node t v a has).1 refl

pub kept_node : (t u : LabelTree) → Grows t u → (q : List ℕ) → IsSome (node_at q t) → IsSome (node_at q u)
kept_node t u keeps q is = let s = there (node_at q t) is in rw (keeps q s.0 s.1).1 refl

-- the node that an added class was added to has it
pub has_added : (v : List ℕ) (b : ℕ) (t : LabelTree) → IsSome (node_at v t) → HasAtom (edit_at v (add_class b) t) v b
has_added v b t is =
    let s = there (node_at v t) is in
    node_has (edit_at v (add_class b) t) (add_class b s.0) v b (node_at-edit_at v (add_class b) t ∙ ap (option_map (add_class b)) s.1) (with_class-there b s.0.label)

-- a new child has its label
pub new_child : (v l : List ℕ) (t : LabelTree) → IsSome (node_at v t) → (k : ℕ) × (node_at (v ++ k ∷ []) (edit_at v (add_child l) t) ≡ Some (leaf l))
new_child v l t is =
    let s = there (node_at v t) is in
    (length_of s.0.below, node_at-edit_at_below v (length_of s.0.below ∷ []) (add_child l) t s.0 s.1 ∙ rw (tree_of-push_tree s.0.below (leaf l)))

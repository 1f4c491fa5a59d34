-- A tree that is copied node by node, in the order of the document.
use Rattle.std.proofs.Common.{◌≡◌, ℕ, suc, ◌<◌, ◌≤◌, List, [], ◌∷◌, ◌++◌, Some, None, option_map, option_and_then, refl, sym, ap, ◌∙◌, subst, inl, inr, arith}
use Rattle.std.proofs.lemmas.Bool.{cases_lt}
use Rattle.tree_sem.specs.Trees.{Row, no_nodes, node, LabelTree, leaf, tree_of, length_of, nodes_of, count_of, node_at, edit_at, add_child}
use Rattle.tree_sem.proofs.EditLemmas.{tree_of-edit_tree, tree_of-edit_tree_other, length_of-edit_tree, tree_of-push_tree, tree_of-push_tree_other, length_of-push_tree}
use Rattle.tree_sem.proofs.RowLemmas.{there, tree_of-within, tree_of-past, tree_of-number}

-- rows with the same trees are the same
pub same_row : (r s : Row) → ((k : ℕ) → tree_of r k ≡ tree_of s k) → r ≡ s
same_row no_nodes no_nodes same = refl
same_row no_nodes (node l below next) same = let never = same 0 in cc
same_row (node l below next) no_nodes same = let never = same 0 in cc
same_row (node l below next) (node l' below' next') same =
    let a : LabelTree = record { label = l; below = below } in
    let b : LabelTree = record { label = l'; below = below' } in
    let both : Some a ≡ Some b = same 0 in
    let first : a ≡ b = cc in
    let rest = same_row next next' (λ k. same (suc k)) in
    λ i. node (first i).label (first i).below (rest i)

-- the first trees of the second row
abbrev pub IsFront : ℕ → Row → Row → Type 0
IsFront n r s = (m : ℕ) → m < n → tree_of r m ≡ tree_of s m

-- t is u as far as the copy has come, which is at the path q: there it has the first children, and on the way to it the children
-- before and the one on the way
abbrev pub IsPart : List ℕ → LabelTree → LabelTree → Type 0
IsPart [] t u = (t.label ≡ u.label) × IsFront (length_of t.below) t.below u.below
IsPart (k ∷ q) t u = (t.label ≡ u.label) × (length_of t.below ≡ suc k) × IsFront k t.below u.below × ((c d : LabelTree) → tree_of t.below k ≡ Some c → tree_of u.below k ≡ Some d → IsPart q c d)

-- a node with all its children is the node
pub part_end : (t u : LabelTree) → IsPart [] t u → length_of u.below ≤ length_of t.below → t ≡ u
part_end t u part all =
    let row = same_row t.below u.below (λ k. elim (cases_lt k (length_of t.below)) [
      | inl less ↦ part.1 k less
      | inr past ↦ tree_of-past t.below k past ∙ sym (tree_of-past u.below k (omega arith))
    ]) in
    λ i. record { label = part.0 i; below = row i }

-- one child more
pub part_down : (q : List ℕ) (t u x y c : LabelTree) → IsPart q t u → node_at q t ≡ Some x → node_at q u ≡ Some y → tree_of y.below (length_of x.below) ≡ Some c
    → IsPart (q ++ length_of x.below ∷ []) (edit_at q (add_child c.label) t) u
part_down [] t u x y c part at at' next =
    let same : t ≡ x = cc in
    let same' : u ≡ y = cc in
    let number : length_of t.below ≡ length_of x.below = ap (λ (z : LabelTree). length_of z.below) same in
    subst (λ n. IsPart (n ∷ []) (add_child c.label t) u) number (
      part.0,
      length_of-push_tree t.below (leaf c.label),
      λ m less. tree_of-push_tree_other t.below (leaf c.label) m (λ e. omega arith) ∙ part.1 m less,
      λ d e last last'.
          let pushed = tree_of-push_tree t.below (leaf c.label) in
          let new : Some (leaf c.label) ≡ Some d = sym pushed ∙ last in
          let new' : leaf c.label ≡ d = cc in
          let other : Some c ≡ Some e = sym next ∙ ap (λ (z : LabelTree). tree_of z.below (length_of x.below)) (sym same') ∙ ap (tree_of u.below) (sym number) ∙ last' in
          let other' : c ≡ e = cc in
          let none : length_of d.below ≡ 0 = ap (λ (z : LabelTree). length_of z.below) (sym new') in
          (ap (λ (z : LabelTree). z.label) (sym new') ∙ ap (λ (z : LabelTree). z.label) other', λ m less. absurd (omega arith)),
    )
part_down (k ∷ q) t u x y c part at at' next = (
  part.0,
  length_of-edit_tree (edit_at q (add_child c.label)) t.below k ∙ part.1,
  λ m less. tree_of-edit_tree_other (edit_at q (add_child c.label)) t.below k m (λ e. omega arith) ∙ part.2 m less,
  λ d e last last'.
      let found = there (tree_of t.below k) (tree_of-within t.below k (omega (arith, part.1))) in
      let inner : node_at q found.0 ≡ Some x = ap (option_and_then (node_at q)) (sym found.1) ∙ at in
      let inner' : node_at q e ≡ Some y = ap (option_and_then (node_at q)) (sym last') ∙ at' in
      let new : Some (edit_at q (add_child c.label) found.0) ≡ Some d = ap (option_map (edit_at q (add_child c.label))) (sym found.1) ∙ sym (tree_of-edit_tree (edit_at q (add_child c.label)) t.below k) ∙ last in
      let same : edit_at q (add_child c.label) found.0 ≡ d = cc in
      subst (λ z. IsPart (q ++ length_of x.below ∷ []) z e) same (part_down q found.0 e x y c (part.3 found.0 e found.1 last') inner inner' next),
)

-- a child is complete
pub part_up : (q : List ℕ) (k : ℕ) (t u x y : LabelTree) → IsPart (q ++ k ∷ []) t u → node_at (q ++ k ∷ []) t ≡ Some x → node_at (q ++ k ∷ []) u ≡ Some y → length_of y.below ≤ length_of x.below → IsPart q t u
part_up [] k t u x y part at at' all =
    let found = there (tree_of t.below k) (tree_of-within t.below k (omega (arith, part.1))) in
    let inner : Some found.0 ≡ Some x = ap (option_and_then (node_at [])) (sym found.1) ∙ at in
    let here : found.0 ≡ x = cc in (
      part.0,
      λ m less. elim (cases_lt m k) [
        | inl before ↦ part.2 m before
        | inr past ↦
            let last : m ≡ k = omega (arith, part.1) in
            elim (tree_of u.below k) as (λ o. tree_of u.below k ≡ o → option_and_then (node_at []) o ≡ Some y → tree_of t.below m ≡ tree_of u.below m) [
              | None ↦ λ e is. cc
              | Some d ↦ λ e is.
                  let there' : d ≡ y = cc in
                  let whole : x ≡ y = part_end x y (subst (λ z. IsPart [] z y) here (subst (λ z. IsPart [] found.0 z) there' (part.3 found.0 d found.1 e))) all in
                  ap (tree_of t.below) last ∙ found.1 ∙ ap Some (here ∙ whole ∙ sym there') ∙ sym e ∙ ap (tree_of u.below) (sym last)
            ] refl at'
      ],
    )
part_up (j ∷ q) k t u x y part at at' all = (
  part.0,
  part.1,
  part.2,
  λ c d last last'.
      let inner : node_at (q ++ k ∷ []) c ≡ Some x = ap (option_and_then (node_at (q ++ k ∷ []))) (sym last) ∙ at in
      let inner' : node_at (q ++ k ∷ []) d ≡ Some y = ap (option_and_then (node_at (q ++ k ∷ []))) (sym last') ∙ at' in
      part_up q k c d x y (part.3 c d last last') inner inner' all,
)

-- a row whose trees are no larger than another's has no more nodes
nodes_within : (r s : Row) → ((k : ℕ) (c : LabelTree) → tree_of r k ≡ Some c → (d : LabelTree) × (tree_of s k ≡ Some d) × (count_of c ≤ count_of d)) → nodes_of r ≤ nodes_of s
nodes_within no_nodes s small = omega arith
nodes_within (node l below next) no_nodes small = let never = (small 0 (record { label = l; below = below }) refl).1 in cc
nodes_within (node l below next) (node l' below' next') small =
    let first = small 0 (record { label = l; below = below }) refl in
    let a : LabelTree = record { label = l'; below = below' } in
    let both : Some a ≡ Some first.0 = first.1 in
    let same : a ≡ first.0 = cc in
    let count = ap count_of same in
    omega (arith, first.2, count, nodes_within next next' (λ k c at. small (suc k) c at))

-- the copy has no more nodes
pub part_count : (q : List ℕ) (t u y : LabelTree) → IsPart q t u → node_at q u ≡ Some y → count_of t ≤ count_of u
part_count [] t u y part at =
    let less = nodes_within t.below u.below (λ k c here. (c, sym (part.1 k (tree_of-number t.below k c here)) ∙ here, omega arith)) in
    omega (arith, less)
part_count (k ∷ q) t u y part at =
    let less = nodes_within t.below u.below (λ m c here. elim (cases_lt m k) [
      | inl before ↦ (c, sym (part.2 m before) ∙ here, omega arith)
      | inr past ↦
          let last : m ≡ k = omega (arith, part.1, tree_of-number t.below m c here) in
          elim (tree_of u.below k) as (λ o. tree_of u.below k ≡ o → option_and_then (node_at q) o ≡ Some y → (d : LabelTree) × (tree_of u.below m ≡ Some d) × (count_of c ≤ count_of d)) [
            | None ↦ λ e is. cc
            | Some d ↦ λ e is. (d, ap (tree_of u.below) last ∙ e, part_count q c d y (part.3 c d (ap (tree_of t.below) (sym last) ∙ here) e) is)
          ] refl at
    ]) in
    omega (arith, less)

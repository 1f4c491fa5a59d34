-- The tree that has nodes at given paths.
use Rattle.std.proofs.Common.{◌≡◌, ℕ, zero, suc, List, [], ◌∷◌, ◌++◌, map, refl, ap, ◌∙◌}
use Rattle.tree_sem.specs.Trees.{LabelTree, Row, no_nodes, node}
use Rattle.tree_sem.specs.Order.{paths_from, paths_of}
use Rattle.closed_page.specs.Labelled.{AreRelated}
use Rattle.closed_page.specs.Relabelled.{label_by, relabelled_row, relabelled, row_with, with_node, with_nodes, shape_of}
use Rattle.closed_page.proofs.RelabelledLemmas.{labels_kept}

-- ---- the row without its labels

abbrev bare : Row → Row
bare no_nodes = no_nodes
bare (node l below next) = node [] (bare below) (bare next)

bare_same : (f : List ℕ → List ℕ) (k : ℕ) (row : Row) → relabelled_row f k (bare row) ≡ relabelled_row f k row
bare_same f k no_nodes = refl
bare_same f k (node l below next) =
    let under = bare_same (λ p. f (k ∷ p)) 0 below in
    let rest = bare_same f (suc k) next in
    λ i. node (f (k ∷ [])) (under i) (rest i)

-- ---- empty trees in front of a row

abbrev pads : ℕ → Row → Row
pads zero row = row
pads (suc k) row = node [] no_nodes (pads k row)

-- where there is a tree to stand behind them
abbrev padded : ℕ → Row → Row
padded k no_nodes = no_nodes
padded k (node l below next) = pads k (node l below next)

padded-zero : (row : Row) → padded 0 row ≡ row
padded-zero no_nodes = refl
padded-zero (node l below next) = refl

with_at : (f : Row → Row) (k : ℕ) (row : Row) → row_with f k (padded (suc k) row) ≡ pads k (node [] (f no_nodes) row)
with_at f zero no_nodes = refl
with_at f (suc k) no_nodes = ap (node [] no_nodes) (with_at f k no_nodes)
with_at f zero (node l below next) = refl
with_at f (suc k) (node l below next) = ap (node [] no_nodes) (with_at f k (node l below next))

-- ---- node by node

with_twice : (f g : Row → Row) (k : ℕ) (row : Row) → row_with f k (row_with g k row) ≡ row_with (λ r. f (g r)) k row
with_twice f g zero no_nodes = refl
with_twice f g zero (node l below next) = refl
with_twice f g (suc k) no_nodes = ap (node [] no_nodes) (with_twice f g k no_nodes)
with_twice f g (suc k) (node l below next) = ap (node l below) (with_twice f g k next)

with_append : (ps qs : List (List ℕ)) (row : Row) → with_nodes (ps ++ qs) row ≡ with_nodes ps (with_nodes qs row)
with_append [] qs row = refl
with_append (p ∷ ps) qs row = ap (with_node p) (with_append ps qs row)

with_below : (k : ℕ) (p : List ℕ) (ps : List (List ℕ)) (row : Row) → with_nodes (map (λ q. k ∷ q) (p ∷ ps)) row ≡ row_with (with_nodes (p ∷ ps)) k row
with_below k p [] row = refl
with_below k p (q ∷ ps) row = ap (row_with (with_node p) k) (with_below k q ps row) ∙ with_twice (with_node p) (with_nodes (q ∷ ps)) k row

-- the paths of a row's nodes give its shape
paths_give : (k : ℕ) (row : Row) → with_nodes (paths_from k row) no_nodes ≡ padded k (bare row)
paths_give k no_nodes = refl
paths_give k (node l below next) =
    with_append (map (λ p. k ∷ p) ([] ∷ paths_from 0 below)) (paths_from (suc k) next) no_nodes
    ∙ ap (with_nodes (map (λ p. k ∷ p) ([] ∷ paths_from 0 below))) (paths_give (suc k) next)
    ∙ with_below k [] (paths_from 0 below) (padded (suc k) (bare next))
    ∙ with_at (with_nodes ([] ∷ paths_from 0 below)) k (bare next)
    ∙ ap (λ r. pads k (node [] r (bare next))) (paths_give 0 below ∙ padded-zero (bare below))

-- ---- the shape of a page

shape_is : (t : LabelTree) → shape_of (paths_of t) ≡ record { label = []; below = bare t.below }
unfolding shape_of
shape_is t =
    let below = paths_give 0 t.below ∙ padded-zero (bare t.below) in
    λ i. record { label = []; below = below i }

pub relabelled-shape : (f : List ℕ → List ℕ) (t : LabelTree) → relabelled f (shape_of (paths_of t)) ≡ relabelled f t
relabelled-shape f t =
    let below = bare_same f 0 t.below in
    ap (relabelled f) (shape_is t) ∙ (λ i. record { label = f []; below = below i })

-- the labels of a page, at the shape that its paths give, are the page
pub labels_shaped : (t : LabelTree) (nodes own : List (List ℕ)) → nodes ≡ paths_of t → AreRelated t nodes own → relabelled (label_by nodes own) (shape_of nodes) ≡ t
labels_shaped t nodes own all is =
    ap (λ z. relabelled (label_by nodes own) (shape_of z)) all ∙ relabelled-shape (label_by nodes own) t ∙ labels_kept t nodes own is

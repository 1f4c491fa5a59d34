-- Trees that grow at their end, and what is seen of them as rows of labels.
use Rattle.std.proofs.Common.{◌≡◌, ℕ, zero, suc, ◌+◌, ◌≤◌, List, [], ◌∷◌, ◌++◌, length, take, Some, option_to_list, option_map, refl, sym, ap, ◌∙◌, arith}
use Rattle.std.specs.Prelude.{option_and_then}
use Rattle.tree_sem.specs.Trees.{Row, no_nodes, node, LabelTree, trees, length_of, push_tree, tree_of, edit_tree, edit_at, add_child, node_at, children_at}
use Rattle.tree_sem.proofs.EditLemmas.{edit_tree-push_tree, tree_of-push_tree}
use Rattle.html_subset.specs.Growth.{Growth, nothing, more, names_of, add, size, row_before, row_of}

-- the numbers of the last tree, of the last one below it, and so on
abbrev pub places : Growth → List ℕ
places nothing = []
places (more before name label below) = length_of (row_of before) ∷ places below

row_before-push : (ts : Growth) (next : Row) (t : LabelTree) → row_before ts (push_tree next t) ≡ push_tree (row_before ts next) t
row_before-push nothing next t = refl
row_before-push (more before name label below) next t = row_before-push before (node label (row_of below) next) t

abbrev pub labelled_row : List ℕ → Growth → LabelTree
labelled_row label ts = record { label = label; below = row_of ts }

pub row_of-more : (before : Growth) (name label : List ℕ) (below : Growth) → row_of (more before name label below) ≡ push_tree (row_of before) (labelled_row label below)
row_of-more before name label below = row_before-push before no_nodes (labelled_row label below)

trees-push : (r : Row) (t : LabelTree) → trees (push_tree r t) ≡ trees r ++ t ∷ []
trees-push no_nodes t = refl
trees-push (node l below next) t = ap (λ ts. record { label = l; below = below } ∷ ts) (trees-push next t)

pub trees-more : (before : Growth) (name label : List ℕ) (below : Growth) → trees (row_of (more before name label below)) ≡ trees (row_of before) ++ labelled_row label below ∷ []
trees-more before name label below = ap trees (row_of-more before name label below) ∙ trees-push (row_of before) (labelled_row label below)

pub names_of-add : (d : ℕ) (name label : List ℕ) (ts : Growth) → d ≤ length (names_of ts) → names_of (add d name label ts) ≡ take d (names_of ts) ++ name ∷ []
names_of-add zero name label ts le = refl
names_of-add (suc d) name label nothing le = absurd (omega arith)
names_of-add (suc d) name label (more before above at below) le = ap (λ ns. above ∷ ns) (names_of-add d name label below (omega arith))

pub size-add : (d : ℕ) (name label : List ℕ) (ts : Growth) → d ≤ length (names_of ts) → size (add d name label ts) ≡ size ts + 1
size-add zero name label ts le = omega arith
size-add (suc d) name label nothing le = absurd (omega arith)
size-add (suc d) name label (more before above at below) le = omega (arith, size-add d name label below (omega arith))

pub length-places : (ts : Growth) → length (places ts) ≡ length (names_of ts)
length-places nothing = refl
length-places (more before name label below) = ap suc (length-places below)

-- one node more is one child more of the node at the place
pub row_of-add : (d : ℕ) (name label : List ℕ) (ts : Growth) (above : List ℕ) → d ≤ length (names_of ts)
    → edit_at (take d (places ts)) (add_child label) (labelled_row above ts) ≡ labelled_row above (add d name label ts)
row_of-add zero name label ts above le = ap (λ r. let t : LabelTree = record { label = above; below = r } in t) (sym (row_of-more ts name label nothing))
row_of-add (suc d) name label nothing above le = absurd (omega arith)
row_of-add (suc d) name label (more before n l below) above le =
    let p = take d (places below) in
    let edit = edit_at p (add_child label) in
    let row = row_of before in
    ap (λ r. let t : LabelTree = record { label = above; below = r } in t)
    (ap (λ r. edit_tree edit r (length_of row)) (row_of-more before n l below)
    ∙ edit_tree-push_tree edit row (labelled_row l below)
    ∙ ap (push_tree row) (row_of-add d name label below l (omega arith))
    ∙ sym (row_of-more before n l (add d name label below)))

-- its place goes on by the number of children there
pub places-add : (d : ℕ) (name label : List ℕ) (ts : Growth) (above : List ℕ) → d ≤ length (names_of ts)
    → take d (places ts) ++ option_to_list (children_at (take d (places ts)) (labelled_row above ts)) ≡ places (add d name label ts)
places-add zero name label ts above le = refl
places-add (suc d) name label nothing above le = absurd (omega arith)
places-add (suc d) name label (more before n l below) above le =
    let p = take d (places below) in
    let k = length_of (row_of before) in
    let last : tree_of (row_of (more before n l below)) k ≡ Some (labelled_row l below) = ap (λ r. tree_of r k) (row_of-more before n l below) ∙ tree_of-push_tree (row_of before) (labelled_row l below) in
    ap (λ o. k ∷ p ++ option_to_list (option_map (λ (t : LabelTree). length_of t.below) (option_and_then (node_at p) o))) last ∙ ap (λ q. k ∷ q) (places-add d name label below l (omega arith))

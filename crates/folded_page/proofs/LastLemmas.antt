-- A node that is added below the last node of a tree, or below a node above it, comes behind all others.
use Rattle.std.proofs.Common.{◌≡◌, ℕ, zero, suc, ◌+◌, ◌<◌, List, [], ◌∷◌, ◌++◌, length, take, get_or, map, Some, option_map, option_and_then, refl, sym, ap, ◌∙◌, subst, arith, append_assoc, append-nil, length-append}
use Rattle.std.proofs.lemmas.List.{map-append, get_or_append_left}
use Rattle.std.proofs.Math.Seq.{get_or-append_seam}
use Rattle.tree_sem.specs.Trees.{Row, no_nodes, node, LabelTree, leaf, tree_of, length_of, push_tree, edit_tree, node_at, edit_at, add_child, count_of}
use Rattle.tree_sem.specs.Order.{paths_from, paths_of}
use Rattle.tree_sem.proofs.EditLemmas.{tree_of-edit_tree, length_of-edit_tree, tree_of-push_tree, length_of-push_tree, label_at-add_child_new, label_at-add_child_old}
use Rattle.tree_sem.proofs.NodeLemmas.{length-paths_of}
use Rattle.node_marks.specs.Marks.{path_at}
use Rattle.folded_page.specs.Built.{IsOnLastWay, IsAddedLast}

-- the node there
pub node_on_way : (p : List ℕ) (t : LabelTree) → IsOnLastWay p t → (s : LabelTree) × (node_at p t ≡ Some s)
node_on_way [] t on = (t, refl)
node_on_way (k ∷ p) t on = let deeper = node_on_way p on.0 on.3 in (deeper.0, ap (option_and_then (node_at p)) on.1 ∙ deeper.1)

-- what is above is on the way too
pub way_above : (m : ℕ) (p : List ℕ) (t : LabelTree) → IsOnLastWay p t → IsOnLastWay (take m p) t
way_above zero p t on = tt
way_above (suc m) [] t on = tt
way_above (suc m) (k ∷ p) t on = (on.0, on.1, on.2, way_above m p on.0 on.3)

-- one tree more in a row
paths_from-push : (f : Row) (l : List ℕ) (d c : ℕ) → c ≡ length_of f + d → paths_from d (push_tree f (leaf l)) ≡ paths_from d f ++ (c ∷ []) ∷ []
paths_from-push no_nodes l d c is = let same : d ≡ c = omega arith in ap (λ z. (z ∷ []) ∷ []) same
paths_from-push (node m below next) l d c is =
    let inner = paths_from-push next l (suc d) c (omega arith) in
    ap (λ ps. map (λ (p : List ℕ). d ∷ p) ([] ∷ paths_from 0 below) ++ ps) inner ∙ sym (append_assoc (map (λ (p : List ℕ). d ∷ p) ([] ∷ paths_from 0 below)) (paths_from (suc d) next) ((c ∷ []) ∷ []))

-- one path more in the last tree of a row
paths_from-last : (h : LabelTree → LabelTree) (f : Row) (d k c : ℕ) (s : LabelTree) (w : List ℕ) → tree_of f k ≡ Some s → length_of f ≡ suc k → c ≡ k + d → paths_of (h s) ≡ paths_of s ++ w ∷ [] → paths_from d (edit_tree h f k) ≡ paths_from d f ++ (c ∷ w) ∷ []
paths_from-last h no_nodes d k c s w at last is more = cc
paths_from-last h (node l below no_nodes) d zero c s w at last is more =
    let first : LabelTree = record { label = l; below = below } in
    let same : s ≡ first = cc in
    let number : d ≡ c = omega arith in
    let more' : paths_of (h first) ≡ paths_of first ++ w ∷ [] = subst (λ (z : LabelTree). paths_of (h z) ≡ paths_of z ++ w ∷ []) same more in
    append-nil (map (λ (p : List ℕ). d ∷ p) (paths_of (h first))) ∙ ap (map (λ (p : List ℕ). d ∷ p)) more' ∙ map-append (λ (p : List ℕ). d ∷ p) (paths_of first) (w ∷ [])
    ∙ ap (λ z. map (λ (p : List ℕ). d ∷ p) (paths_of first) ++ (z ∷ w) ∷ []) number ∙ ap (λ ps. ps ++ (c ∷ w) ∷ []) (sym (append-nil (map (λ (p : List ℕ). d ∷ p) (paths_of first))))
paths_from-last h (node l below (node l' below' next)) d zero c s w at last is more = absurd (omega arith)
paths_from-last h (node l below next) d (suc k) c s w at last is more =
    let inner = paths_from-last h next (suc d) k c s w at (omega arith) (omega arith) more in
    ap (λ ps. map (λ (p : List ℕ). d ∷ p) ([] ∷ paths_from 0 below) ++ ps) inner ∙ sym (append_assoc (map (λ (p : List ℕ). d ∷ p) ([] ∷ paths_from 0 below)) (paths_from (suc d) next) ((c ∷ w) ∷ []))

-- the new node comes last
pub paths_of-last : (p l : List ℕ) (t s : LabelTree) → IsOnLastWay p t → node_at p t ≡ Some s → paths_of (edit_at p (add_child l) t) ≡ paths_of t ++ (p ++ length_of s.below ∷ []) ∷ []
paths_of-last [] l t s on at =
    let same : t ≡ s = cc in
    subst (λ (z : LabelTree). paths_of (add_child l t) ≡ paths_of t ++ (length_of z.below ∷ []) ∷ []) same (ap (λ ps. [] ∷ ps) (paths_from-push t.below l 0 (length_of t.below) (omega arith)))
paths_of-last (k ∷ p) l t s on at =
    let at' : node_at p on.0 ≡ Some s = sym (ap (option_and_then (node_at p)) on.1) ∙ at in
    ap (λ ps. [] ∷ ps) (paths_from-last (edit_at p (add_child l)) t.below 0 k k on.0 (p ++ length_of s.below ∷ []) on.1 on.2 (omega arith) (paths_of-last p l on.0 s on.3 at'))

-- and is itself the last one
pub way_to_last : (p l : List ℕ) (t s : LabelTree) → IsOnLastWay p t → node_at p t ≡ Some s → IsOnLastWay (p ++ length_of s.below ∷ []) (edit_at p (add_child l) t)
way_to_last [] l t s on at =
    let same : t ≡ s = cc in
    subst (λ (z : LabelTree). IsOnLastWay (length_of z.below ∷ []) (add_child l t)) same (leaf l, tree_of-push_tree t.below (leaf l), length_of-push_tree t.below (leaf l), tt)
way_to_last (k ∷ p) l t s on at =
    let at' : node_at p on.0 ≡ Some s = sym (ap (option_and_then (node_at p)) on.1) ∙ at in
    (edit_at p (add_child l) on.0, tree_of-edit_tree (edit_at p (add_child l)) t.below k ∙ ap (option_map (edit_at p (add_child l))) on.1, length_of-edit_tree (edit_at p (add_child l)) t.below k ∙ on.2, way_to_last p l on.0 s on.3 at')

pub added_last : (p l : List ℕ) (t s : LabelTree) → IsOnLastWay p t → node_at p t ≡ Some s → IsAddedLast t (edit_at p (add_child l) t) p l
added_last p l t s on at = record {
  step = length_of s.below;
  paths = paths_of-last p l t s on at;
  label = label_at-add_child_new p l t s at;
  kept = λ w is. label_at-add_child_old p w l t is;
}

-- the numbers with a path more
module _ (t u : LabelTree) (w : List ℕ) (more : paths_of u ≡ paths_of t ++ w ∷ []) where
  pub count_more : count_of u ≡ suc (count_of t)
  count_more =
      let long = ap length more in
      omega (arith, long, length-paths_of t, length-paths_of u, length-append (paths_of t) (w ∷ []))

  pub path_kept : (i : ℕ) → i < count_of t → path_at u i ≡ path_at t i
  path_kept i lt = ap (λ ps. get_or ps i []) more ∙ get_or_append_left (paths_of t) (w ∷ []) [] i (omega (arith, length-paths_of t))

  pub path_more : path_at u (count_of t) ≡ w
  path_more = ap (λ ps. get_or ps (count_of t) []) more ∙ ap (λ n. get_or (paths_of t ++ w ∷ []) n []) (sym (length-paths_of t)) ∙ get_or-append_seam (paths_of t) w [] []

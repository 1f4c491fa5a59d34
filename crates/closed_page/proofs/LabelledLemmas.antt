-- The labels of a page, by the numbers of its nodes.
use Rattle.tree_sem.proofs.EditLemmas.{node_at-label_at}
use Rattle.tree_sem.specs.Nodes.{IsNode}
use Rattle.std.proofs.Common.{◌≡◌, ◌≢◌, ℕ, ◌<◌, List, [], ◌∷◌, ◌++◌, length, get_or, set, Option, Some, IsSome, option_map, unwrap_or, Contains, refl, sym, ap, ◌∙◌, inl, inr, arith, subst}
use Rattle.std.proofs.lemmas.List.{get_or_default, get_or-set_same, get_or-set_other}
use Rattle.std.proofs.lemmas.Bool.{cases_order}
use Rattle.std.proofs.Math.ListN.{length-set}
use Rattle.tp_base.specs.Classes.{union_of}
use Rattle.tree_sem.specs.Trees.{LabelTree, node_at, label_at, children_at, edit_at, count_of, length_of}
use Rattle.tree_sem.specs.Order.{paths_of}
use Rattle.tree_sem.specs.Actions.{add_classes}
use Rattle.closed_page.proofs.AddLemmas.{label_at-add_classes, label_at-add_classes_other, IsSome-add_classes}
use Rattle.tree_sem.proofs.RowLemmas.{node_at-child, tree_of-number}
use Rattle.tree_sem.proofs.NodeLemmas.{Contains-paths_of, length-paths_of}
use Rattle.closed_page.specs.Firsts.{AreRooted}
use Rattle.node_marks.specs.Numbering.{IsNumbering}
use Rattle.node_marks.proofs.NumberLemmas.{one_number as number_of_one}
use Rattle.closed_page.specs.Labelled.{AreAllLabels, AreRelated}

-- ---- all of a page

-- two numbers of one node are one
pub one_number : (t : LabelTree) (i j : ℕ) → i < count_of t → j < count_of t → get_or (paths_of t) i [] ≡ get_or (paths_of t) j [] → i ≡ j
one_number t = number_of_one t

pub related_page : (t : LabelTree) (numbers steps : List ℕ) (nodes own : List (List ℕ)) → nodes ≡ paths_of t → IsNumbering t numbers steps own → AreRelated t nodes own
related_page t numbers steps nodes own all is =
    let count : length nodes ≡ count_of t = ap length all ∙ length-paths_of t in
    let at : (k : ℕ) → get_or nodes k [] ≡ get_or (paths_of t) k [] = λ k. ap (λ z. get_or z k []) all in
    record {
      whole = λ v node. subst (λ (z : List (List ℕ)). Contains z v) (sym all) ((Contains-paths_of t v).1 node);
      once = λ i j less less' same. one_number t i j (omega (arith, count, less)) (omega (arith, count, less')) (sym (at i) ∙ same ∙ at j);
      labels = record {
        count = is.labels_count ∙ sym count;
        each = λ i less. ap (λ z. label_at z t) (at i) ∙ is.label i (omega (arith, count, less));
      };
    }

-- the same, where all is known by equations
pub related_columns : (t tree : LabelTree) (numbers steps : List ℕ) (labels nodes own : List (List ℕ)) → IsNumbering t numbers steps labels → tree ≡ t → nodes ≡ paths_of t → own ≡ labels → AreRelated tree nodes own
related_columns t tree numbers steps labels nodes own is same_tree all same_labels =
    subst (λ (z : LabelTree). AreRelated z nodes own) (sym same_tree) (related_page t numbers steps nodes own all (subst (λ (z : List (List ℕ)). IsNumbering t numbers steps z) (sym same_labels) is))

-- one label more
pub related_more : (u : LabelTree) (nodes own : List (List ℕ)) (i : ℕ) (more longer : List ℕ) → AreRelated u nodes own → i < length nodes → longer ≡ union_of (get_or own i []) more
    → AreRelated (edit_at (get_or nodes i []) (add_classes more) u) nodes (set own i longer)
related_more u nodes own i more longer is less longer_is =
    let v = get_or nodes i [] in
    let count : length own ≡ length nodes = is.labels.count in
    record {
      whole = λ w node. is.whole w ((IsSome-add_classes v w more u).0 node);
      once = is.once;
      labels = record {
        count = length-set own i longer ∙ count;
        each = λ c within. elim (cases_order c i) [
          | inl same ↦ subst (λ z. label_at (get_or nodes z []) (edit_at v (add_classes more) u) ≡ Some (get_or (set own i longer) z [])) (sym same)
              (label_at-add_classes v more u ∙ ap (option_map (λ l. union_of l more)) (is.labels.each i less) ∙ ap Some (sym longer_is) ∙ ap Some (sym (get_or-set_same own i longer [] (omega (arith, less, count)))))
          | inr (inl before) ↦ other c within (λ e. omega (arith, before, e))
          | inr (inr behind) ↦ other c within (λ e. omega (arith, behind, e))
        ];
      };
    }
  where
    other : (c : ℕ) → c < length nodes → c ≢ i → label_at (get_or nodes c []) (edit_at (get_or nodes i []) (add_classes more) u) ≡ Some (get_or (set own i longer) c [])
    other c within apart =
        label_at-add_classes_other (get_or nodes i []) (get_or nodes c []) more u (λ e. apart (is.once c i within less e)) ∙ is.labels.each c within ∙ ap Some (sym (get_or-set_other own i c longer [] apart))

-- ---- what is next to a node

-- a child in the page has a number below the count
pub child_number : (v : List ℕ) (n : ℕ) (t : LabelTree) → IsSome (node_at (v ++ n ∷ []) t) → n < unwrap_or (children_at v t) 0
child_number v n t is =
    let family = node_at-child v n t is in
    let count : children_at v t ≡ Some (length_of family.0.below) = ap (option_map (λ (s : LabelTree). length_of s.below)) family.2 in
    subst (λ o. n < unwrap_or o 0) (sym count) (tree_of-number family.0.below n family.1 family.3)

-- ---- what is a node

-- what has a label is a node
pub labelled_node : (u : LabelTree) (nodes own : List (List ℕ)) (n i : ℕ) → AreAllLabels u nodes own n → i < n → IsNode u (get_or nodes i [])
labelled_node u nodes own n i labels less = (node_at-label_at (get_or nodes i []) u).0 (subst (λ (o : Option (List ℕ)). IsSome o) (sym (labels.each i less)) refl)

-- the parent of a node is a node
pub parent_there : (u : LabelTree) (nodes own : List (List ℕ)) → AreRelated u nodes own → AreRooted nodes
parent_there u nodes own is v k there =
    let at : get_or nodes there.0 [] ≡ v ++ k ∷ [] = get_or_default nodes there.0 [] (v ++ k ∷ []) there.1 ∙ there.2 in
    let node : IsNode u (v ++ k ∷ []) = subst (IsNode u) at (labelled_node u nodes own (length nodes) there.0 is.labels there.1) in
    let family = node_at-child v k u node in
    is.whole v (subst (λ (o : Option LabelTree). IsSome o) (sym family.2) refl)

pub rooted_page : (t : LabelTree) → AreRooted (paths_of t)
rooted_page t v k there =
    let family = node_at-child v k t ((Contains-paths_of t (v ++ k ∷ [])).0 there) in
    (Contains-paths_of t v).1 (subst (λ (o : Option LabelTree). IsSome o) (sym family.2) refl)

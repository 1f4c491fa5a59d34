-- A tree with other labels.
use Rattle.std.proofs.Common.{◌≡◌, ◌≢◌, ℕ, zero, suc, ◌+◌, ◌<◌, ◌≤◌, Bool, true, false, cond, List, [], ◌∷◌, length, get_or, set, Option, Some, None, IsSome, Contains, option_map, option_and_then, refl, sym, ap, ◌∙◌, inl, inr, arith, subst}
use Rattle.std.specs.Str.{bytes_eq}
use Rattle.std.proofs.lemmas.Bool.{cases_Bool}
use Rattle.std.proofs.lemmas.List.{get_or_default, get_or-set_same, length-set}
use Rattle.std.proofs.lemmas.Slice.Eq.{bytes_eq-Decides}
use Rattle.tp_base.specs.Classes.{union_of}
use Rattle.tree_sem.specs.Trees.{LabelTree, Row, no_nodes, node, node_at, label_at, tree_of, edit_at, edit_tree}
use Rattle.tree_sem.specs.Actions.{add_classes}
use Rattle.tree_sem.proofs.EditLemmas.{node_at-label_at}
use Rattle.closed_page.specs.Labelled.{AreRelated, HaveLabels}
use Rattle.closed_page.specs.Relabelled.{label_by, relabelled_row, relabelled}
use Rattle.closed_page.proofs.LabelledLemmas.{related_more}

-- ---- labels that differ at one node

abbrev first_of : List ℕ → ℕ
first_of [] = 0
first_of (k ∷ p) = k

abbrev rest_of : List ℕ → List ℕ
rest_of [] = []
rest_of (k ∷ p) = p

abbrev is_root : List ℕ → Bool
is_root [] = true
is_root (k ∷ p) = false

not_root : (k : ℕ) (p : List ℕ) → k ∷ p ≡ [] → ⊥
not_root k p same = let never : false ≡ true = ap is_root same in cc

row_same : (f g : List ℕ → List ℕ) (k : ℕ) (row : Row) → ((m : ℕ) (q : List ℕ) → k ≤ m → f (m ∷ q) ≡ g (m ∷ q)) → relabelled_row f k row ≡ relabelled_row g k row
row_same f g k no_nodes same = refl
row_same f g k (node l below next) same =
    let rest = row_same f g (suc k) next (λ m q le. same m q (omega (arith, le))) in
    λ i. node (same k [] (omega arith) i) (relabelled_row (λ p. same k p (omega arith) i) 0 below) (rest i)

row_set : (f g : List ℕ → List ℕ) (j k : ℕ) (p more : List ℕ) → ((f g : List ℕ → List ℕ) (t : LabelTree) → g p ≡ union_of (f p) more → ((q : List ℕ) → q ≢ p → g q ≡ f q) → relabelled g t ≡ edit_at p (add_classes more) (relabelled f t))
    → (row : Row) → g ((j + k) ∷ p) ≡ union_of (f ((j + k) ∷ p)) more → ((q : List ℕ) → q ≢ (j + k) ∷ p → g q ≡ f q) → relabelled_row g j row ≡ edit_tree (edit_at p (add_classes more)) (relabelled_row f j row) k
row_set f g j k p more step no_nodes here other = refl
row_set f g j zero p more step (node l below next) here other =
    let at : j + 0 ≡ j = omega arith in
    let first : relabelled (λ q. g (j ∷ q)) (record { label = l; below = below }) ≡ edit_at p (add_classes more) (relabelled (λ q. f (j ∷ q)) (record { label = l; below = below })) =
    step (λ q. f (j ∷ q)) (λ q. g (j ∷ q)) (record { label = l; below = below }) (subst (λ n. g (n ∷ p) ≡ union_of (f (n ∷ p)) more) at here) (λ q apart. other (j ∷ q) (λ e. apart (ap rest_of e))) in
    let rest = row_same g f (suc j) next (λ m q le. other (m ∷ q) (λ e. let same : m ≡ j + 0 = ap first_of e in omega (arith, same, le))) in
    λ i. node (first i).label (first i).below (rest i)
row_set f g j (suc k) p more step (node l below next) here other =
    let at : j + suc k ≡ suc j + k = omega arith in
    let apart : (q : List ℕ) → (j ∷ q) ≢ (j + suc k) ∷ p = λ q e. let same : j ≡ j + suc k = ap first_of e in omega (arith, same) in
    let rest = row_set f g (suc j) k p more step next (subst (λ n. g (n ∷ p) ≡ union_of (f (n ∷ p)) more) at here) (λ q ne. other q (subst (λ n. q ≢ n ∷ p) (sym at) ne)) in
    λ i. node (other (j ∷ []) (apart []) i) (relabelled_row (λ q. other (j ∷ q) (apart q) i) 0 below) (rest i)

pub relabelled-set : (v more : List ℕ) (f g : List ℕ → List ℕ) (t : LabelTree) → g v ≡ union_of (f v) more → ((q : List ℕ) → q ≢ v → g q ≡ f q) → relabelled g t ≡ edit_at v (add_classes more) (relabelled f t)
relabelled-set [] more f g t here other =
    let rest = row_same g f 0 t.below (λ m q le. other (m ∷ q) (not_root m q)) in
    λ i. record { label = here i; below = rest i }
relabelled-set (k ∷ p) more f g t here other =
    let at : k ≡ 0 + k = omega arith in
    let rest = row_set f g 0 k p more (relabelled-set p more) t.below (subst (λ n. g (n ∷ p) ≡ union_of (f (n ∷ p)) more) at here) (λ q apart. other q (subst (λ n. q ≢ n ∷ p) (sym at) apart)) in
    λ i. record { label = other [] (λ e. not_root k p (sym e)) i; below = rest i }

-- ---- the labels that are there

row_kept : (f : List ℕ → List ℕ) (j : ℕ) (row : Row)
    → ((k m : ℕ) (p l : List ℕ) → k ≡ j + m → option_map (λ (n : LabelTree). n.label) (option_and_then (node_at p) (tree_of row m)) ≡ Some l → f (k ∷ p) ≡ l) → relabelled_row f j row ≡ row
row_kept f j no_nodes same = refl
row_kept f j (node l below next) same =
    let under = row_kept (λ p. f (j ∷ p)) 0 below (λ k m p l' at is. same j 0 (k ∷ p) l' (omega arith) (let one : m ≡ k = omega (arith, at) in subst (λ n. option_map (λ (t : LabelTree). t.label) (option_and_then (node_at p) (tree_of below n)) ≡ Some l') one is)) in
    let rest = row_kept f (suc j) next (λ k m p l' at is. same k (suc m) p l' (omega (arith, at)) is) in
    λ i. node (same j 0 [] l (omega arith) refl i) (under i) (rest i)

pub relabelled-kept : (f : List ℕ → List ℕ) (t : LabelTree) → ((v l : List ℕ) → label_at v t ≡ Some l → f v ≡ l) → relabelled f t ≡ t
relabelled-kept f t same =
    let rest = row_kept f 0 t.below (λ k m p l at is. same (k ∷ p) l (let one : m ≡ k = omega (arith, at) in subst (λ n. option_map (λ (u : LabelTree). u.label) (option_and_then (node_at p) (tree_of t.below n)) ≡ Some l) one is)) in
    λ i. record { label = same [] t.label refl i; below = rest i }

-- ---- labels in the order of their nodes

test_same : (v : List ℕ) → bytes_eq v v ≡ true
test_same v = (bytes_eq-Decides v v).1 refl

test_other : (v w : List ℕ) → (v ≡ w → ⊥) → bytes_eq v w ≡ false
test_other v w apart = elim (cases_Bool (bytes_eq v w)) [ inl same ↦ absurd (apart ((bytes_eq-Decides v w).0 same)) | inr other ↦ other ]

pub label_by-at : (nodes own : List (List ℕ)) (i : ℕ) → ((i j : ℕ) → i < length nodes → j < length nodes → get_or nodes i [] ≡ get_or nodes j [] → i ≡ j) → length own ≡ length nodes → i < length nodes
    → label_by nodes own (get_or nodes i []) ≡ get_or own i []
label_by-at [] own i once long less = absurd (omega (arith, less))
label_by-at (n ∷ nodes) [] i once long less = absurd (omega (arith, long))
label_by-at (n ∷ nodes) (l ∷ own) zero once long less = ap (λ b. cond b l (label_by nodes own n)) (test_same n)
label_by-at (n ∷ nodes) (l ∷ own) (suc i) once long less =
    let v = get_or nodes i [] in
    let apart : n ≡ v → ⊥ = λ same. let never = once 0 (suc i) (omega arith) less same in omega (arith, never) in
    let once' : (i j : ℕ) → i < length nodes → j < length nodes → get_or nodes i [] ≡ get_or nodes j [] → i ≡ j = λ i j lt lt' same. let e = once (suc i) (suc j) (omega (arith, lt)) (omega (arith, lt')) same in omega (arith, e) in
    ap (λ b. cond b l (label_by nodes own v)) (test_other n v apart) ∙ label_by-at nodes own i once' (omega (arith, long)) (omega (arith, less))

pub label_by-other : (nodes own : List (List ℕ)) (i : ℕ) (x v : List ℕ) → (v ≡ get_or nodes i [] → ⊥) → i < length nodes → label_by nodes (set own i x) v ≡ label_by nodes own v
label_by-other [] own i x v apart less = refl
label_by-other (n ∷ nodes) [] i x v apart less = refl
label_by-other (n ∷ nodes) (l ∷ own) zero x v apart less =
    let test = test_other n v (λ e. apart (sym e)) in
    ap (λ b. cond b x (label_by nodes own v)) test ∙ sym (ap (λ b. cond b l (label_by nodes own v)) test)
label_by-other (n ∷ nodes) (l ∷ own) (suc i) x v apart less = ap (λ z. cond (bytes_eq n v) l z) (label_by-other nodes own i x v apart (omega (arith, less)))

-- ---- the labels of a page

module _ (t : LabelTree) (nodes own : List (List ℕ)) where
  -- where the labels are those of the tree, it is the tree itself
  pub labels_kept : AreRelated t nodes own → relabelled (label_by nodes own) t ≡ t
  labels_kept is = relabelled-kept (label_by nodes own) t (λ v l at.
      let node : IsSome (node_at v t) = (node_at-label_at v t).0 (subst (λ (o : Option (List ℕ)). IsSome o) (sym at) refl) in
      let (i, less, here) = is.whole v node in
      let path : get_or nodes i [] ≡ v = get_or_default nodes i [] v less ∙ here in
      let one : Some (get_or own i []) ≡ Some l = sym (is.labels.each i less) ∙ ap (λ z. label_at z t) path ∙ at in
      let same : get_or own i [] ≡ l = cc in
      ap (label_by nodes own) (sym path) ∙ label_by-at nodes own i is.once is.labels.count less ∙ same)

  module _ (i : ℕ) (more longer : List ℕ) (is : AreRelated (relabelled (label_by nodes own) t) nodes own) (less : i < length nodes) (longer_is : longer ≡ union_of (get_or own i []) more) where
    pub labels_longer : relabelled (label_by nodes (set own i longer)) t ≡ edit_at (get_or nodes i []) (add_classes more) (relabelled (label_by nodes own) t)
    labels_longer =
        let v = get_or nodes i [] in
        let count : length own ≡ length nodes = is.labels.count in
        let here : label_by nodes (set own i longer) v ≡ union_of (label_by nodes own v) more =
        label_by-at nodes (set own i longer) i is.once (length-set own i longer ∙ count) less ∙ get_or-set_same own i longer [] (omega (arith, less, count)) ∙ longer_is
        ∙ ap (λ z. union_of z more) (sym (label_by-at nodes own i is.once count less)) in
        relabelled-set v more (label_by nodes own) (label_by nodes (set own i longer)) t here (λ q apart. label_by-other nodes own i longer q apart less)

    pub related_longer : AreRelated (relabelled (label_by nodes (set own i longer)) t) nodes (set own i longer)
    related_longer =
        subst (λ (z : LabelTree). AreRelated z nodes (set own i longer)) (sym labels_longer) (related_more (relabelled (label_by nodes own) t) nodes own i more longer is less longer_is)

-- what is no node has no label
pub no_label : (u : LabelTree) (nodes own : List (List ℕ)) (v : List ℕ) → HaveLabels u nodes own → (Contains nodes v → ⊥) → None ≡ label_at v u
no_label u nodes own v have none = elim (label_at v u) as (λ o. label_at v u ≡ o → None ≡ o) [
  | None ↦ λ e. refl
  | Some l ↦ λ e. absurd (none (have.whole v ((node_at-label_at v u).0 (subst (λ (o : Option (List ℕ)). IsSome o) (sym e) refl))))
] refl

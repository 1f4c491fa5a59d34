-- What is given and made comes by edits, one after another.
use Rattle.std.proofs.Common.{◌≡◌, ℕ, zero, suc, List, [], ◌∷◌, ◌++◌, Some, None, option_map, unwrap_or, IsSome, Contains, refl, sym, ap, ◌∙◌, subst, inl, inr}
use Rattle.std.proofs.lemmas.Bool.{cases_Bool}
use Rattle.tp_base.specs.Classes.{has_class}
use Rattle.tp_base.proofs.ClassLemmas.{has_class-Contains, Contains-has_class}
use Rattle.tp_base.proofs.Rising.{Contains-here, Contains-behind}
use Rattle.tree_sem.specs.declared.actions.Action.{Action}
use Rattle.tree_sem.specs.declared.actions.Action.TheVariants.{Classes, Inside, Beside}
use Rattle.tree_sem.specs.Actions.{add_classes, add_trees, act}
use Rattle.tree_sem.specs.Nodes.{IsNode}
use Rattle.tree_sem.specs.Paths.{parent_of}
use Rattle.tree_sem.specs.Trees.{Row, no_nodes, node, LabelTree, leaf, tree_of, length_of, push_tree, edit_tree, node_at, edit_at, add_class, add_tree}
use Rattle.tree_sem.proofs.EditLemmas.{edit_at-same, edit_at-alike, edit_at-edit_at, edit_at-append, node_at-edit_at}
use Rattle.tree_sem.proofs.PathLemmas.{IsSome-parent_of}
use Rattle.tree_sem.proofs.RowLemmas.{there, child_node_at}
use Rattle.jq_stmts.specs.Statements.{Statement}
use Rattle.lower_cover.specs.Covering.{AreGiven, IsAllowedTree, AreAllowedTrees, IsCovered}
use Rattle.lower_cover.specs.Edits.{insert_tree, insert_child, gets_other, gets_given, gets_child, Edits, more}
use Rattle.lower_cover.specs.Outputs.{IsGiven, IsAllowed}

-- edits that do the same to the node do the same
same_edits : (v : List ℕ) (f g : LabelTree → LabelTree) (t s : LabelTree) → node_at v t ≡ Some s → f s ≡ g s → edit_at v f t ≡ edit_at v g t
same_edits v f g t s at same = edit_at-alike v f g t (λ s' at'. let here : s ≡ s' = cc in subst (λ (z : LabelTree). f z ≡ g z) here same)

IsNode-edit : (v : List ℕ) (f : LabelTree → LabelTree) (t : LabelTree) → IsNode t v → IsNode (edit_at v f t) v
IsNode-edit v f t is = rw (node_at-edit_at v f t) (elim (node_at v t) as (λ o. IsSome o → IsSome (option_map f o)) [ None ↦ λ h. cc | Some s ↦ λ h. refl ] is)

-- trees before those of a row
abbrev before : Row → Row → Row
before no_nodes r = r
before (node l below next) r = node l below (before next r)

abbrev add_before : Row → LabelTree → LabelTree
add_before r s = record s { below = before r s.below }

before_none : (r : Row) → before r no_nodes ≡ r
before_none no_nodes = refl
before_none (node l below next) = ap (λ z. node l below z) (before_none next)

insert_first : (r : Row) (y : LabelTree) → insert_tree r 0 y ≡ node y.label y.below r
insert_first no_nodes y = refl
insert_first (node l below next) y = refl

-- the place of the tree that was put into a row
insert_place : (r : Row) (k : ℕ) → (m : ℕ) × ((f : LabelTree → LabelTree) (y : LabelTree) → edit_tree f (insert_tree r k y) m ≡ insert_tree r k (f y)) × ((y : LabelTree) → tree_of (insert_tree r k y) m ≡ Some y)
insert_place no_nodes k = (zero, (λ f y. refl), (λ y. refl))
insert_place (node l below next) zero = (zero, (λ f y. refl), (λ y. refl))
insert_place (node l below next) (suc k) = let rest = insert_place next k in (suc rest.0, (λ f y. ap (λ r. node l below r) (rest.1 f y)), rest.2)

insert_last : (r : Row) (y : LabelTree) → insert_tree r (length_of r) y ≡ push_tree r y
insert_last no_nodes y = refl
insert_last (node l below next) y = ap (λ r. node l below r) (insert_last next y)

-- a row where M holds of each label
abbrev RowAll : (List ℕ → Type 0) → Row → Type 0
RowAll M no_nodes = Unit {0}
RowAll M (node l below next) = M l × RowAll M below × RowAll M next

row_all : (M : List ℕ → Type 0) (r : Row) → ((k : ℕ) (q : List ℕ) (c s : LabelTree) → tree_of r k ≡ Some c → node_at q c ≡ Some s → M s.label) → RowAll M r
row_all M no_nodes each = tt
row_all M (node l below next) each =
    let first : LabelTree = record { label = l; below = below } in (
      each 0 [] first first refl refl,
      row_all M below (λ k q c s at is. each 0 (k ∷ q) first s refl (rw at is)),
      row_all M next (λ k q c s at is. each (suc k) q c s at is),
    )

module _ (asked : List ℕ) (stmts : List Statement) (page : LabelTree) where
  abbrev Comes : LabelTree → Type 0
  Comes t = Edits asked stmts page t

  comes_as : (t u : LabelTree) → t ≡ u → Comes t → Comes u
  comes_as t u same comes = subst Comes same comes

  -- an atom, asked for or not
  get_atom : (a : ℕ) → (Contains asked a → IsGiven stmts a) → (t : LabelTree) (v : List ℕ) → Comes t → IsNode t v → Comes (edit_at v (add_class a) t)
  get_atom a given t v comes is = elim (cases_Bool (has_class a asked)) [
    | inl on ↦ more t (edit_at v (add_class a) t) comes (gets_given t v a is (given (Contains-has_class a asked on)))
    | inr off ↦ more t (edit_at v (add_class a) t) comes (gets_other t v a is (λ has. let on = has_class-Contains a asked has in cc))
  ]

  pub get_atoms : (atoms : List ℕ) (t : LabelTree) (v : List ℕ) → Comes t → IsNode t v → AreGiven asked stmts atoms → Comes (edit_at v (add_classes atoms) t)
  get_atoms [] t v comes is given = comes_as t (edit_at v (add_classes []) t) (sym (edit_at-same v (add_classes []) t (λ s at. refl))) comes
  get_atoms (a ∷ atoms) t v comes is given =
      comes_as (edit_at v (add_classes atoms) (edit_at v (add_class a) t)) (edit_at v (add_classes (a ∷ atoms)) t)
      (edit_at-edit_at v (add_classes atoms) (add_class a) t)
      (get_atoms atoms (edit_at v (add_class a) t) v (get_atom a (λ is'. given a is' (Contains-here a a atoms refl)) t v comes is) (IsNode-edit v (add_class a) t is)
      (λ b is' has. given b is' (Contains-behind b a atoms has)))

  -- the edits that give a node one child, with what is below it, before others
  module _ (l : List ℕ) (below next : Row) where
    abbrev three : LabelTree → LabelTree
    three s = edit_at (0 ∷ []) (add_before below) (insert_child 0 (leaf l) (add_before next s))

    three_is : (s : LabelTree) → three s ≡ add_before (node l below next) s
    three_is s =
        let first = insert_first (before next s.below) (leaf l) in
        let whole = ap (λ r. edit_tree (add_before below) r 0) first in
        let inner : node l (before below no_nodes) (before next s.below) ≡ node l below (before next s.below) = ap (λ z. node l z (before next s.below)) (before_none below) in
        let both = whole ∙ inner in
        λ i. record { label = s.label; below = both i }

    three_at : (v : List ℕ) (t : LabelTree) → edit_at (v ++ 0 ∷ []) (add_before below) (edit_at v (insert_child 0 (leaf l)) (edit_at v (add_before next) t)) ≡ edit_at v (add_before (node l below next)) t
    three_at v t =
        edit_at-append v (0 ∷ []) (add_before below) (edit_at v (insert_child 0 (leaf l)) (edit_at v (add_before next) t))
        ∙ ap (edit_at v (edit_at (0 ∷ []) (add_before below))) (edit_at-edit_at v (insert_child 0 (leaf l)) (add_before next) t)
        ∙ edit_at-edit_at v (edit_at (0 ∷ []) (add_before below)) (λ s. insert_child 0 (leaf l) (add_before next s)) t
        ∙ ap (λ f. edit_at v f t) (λ i s. three_is s i)

  -- trees before a node's children
  get_row : (r : Row) → RowAll (IsAllowed asked stmts) r → (t : LabelTree) (v : List ℕ) → Comes t → IsNode t v → Comes (edit_at v (add_before r) t)
  get_row no_nodes made t v comes is = comes_as t (edit_at v (add_before no_nodes) t) (sym (edit_at-same v (add_before no_nodes) t (λ s at. refl))) comes
  get_row (node l below next) made t v comes is =
      let t1 = edit_at v (add_before next) t in
      let comes1 : Comes t1 = get_row next made.2 t v comes is in
      let is1 : IsNode t1 v = IsNode-edit v (add_before next) t is in
      let t2 = edit_at v (insert_child 0 (leaf l)) t1 in
      let comes2 : Comes t2 = more t1 t2 comes1 (gets_child t1 v 0 l is1 made.0) in
      let is2 : IsNode t2 (v ++ 0 ∷ []) = first_there t1 is1 in
      comes_as (edit_at (v ++ 0 ∷ []) (add_before below) t2) (edit_at v (add_before (node l below next)) t) (three_at l below next v t) (get_row below made.1 t2 (v ++ 0 ∷ []) comes2 is2)
    where
      first_there : (u : LabelTree) → IsNode u v → IsNode (edit_at v (insert_child 0 (leaf l)) u) (v ++ 0 ∷ [])
      first_there u is' =
          let at = there (node_at v u) is' in
          let here : node_at v (edit_at v (insert_child 0 (leaf l)) u) ≡ Some (insert_child 0 (leaf l) at.0) = node_at-edit_at v (insert_child 0 (leaf l)) u ∙ ap (option_map (insert_child 0 (leaf l))) at.1 in
          let first : tree_of (insert_tree at.0.below 0 (leaf l)) 0 ≡ Some (leaf l) = ap (λ r. tree_of r 0) (insert_first at.0.below (leaf l)) in
          let child = child_node_at v 0 (edit_at v (insert_child 0 (leaf l)) u) (insert_child 0 (leaf l) at.0) (leaf l) here first in
          rw child refl

  -- a tree as a child, at any place
  pub get_tree : (y : LabelTree) (t : LabelTree) (v : List ℕ) (k : ℕ) → Comes t → IsNode t v → IsAllowedTree asked stmts y → Comes (edit_at v (insert_child k y) t)
  get_tree y t v k comes is made =
      let at = there (node_at v t) is in
      placed at.0 at.1 (insert_place at.0.below k)
    where
      row : RowAll (IsAllowed asked stmts) y.below
      row = row_all (IsAllowed asked stmts) y.below (λ k' q c s at' is'. made (k' ∷ q) s.label (rw (at', is') refl))

      placed : (s : LabelTree) → node_at v t ≡ Some s
          → ((m : ℕ) × ((f : LabelTree → LabelTree) (z : LabelTree) → edit_tree f (insert_tree s.below k z) m ≡ insert_tree s.below k (f z)) × ((z : LabelTree) → tree_of (insert_tree s.below k z) m ≡ Some z))
          → Comes (edit_at v (insert_child k y) t)
      placed s at (m, edits, place) =
          let leaf' = leaf y.label in
          let u = edit_at v (insert_child k leaf') t in
          let comes1 : Comes u = more t u comes (gets_child t v k y.label is (made [] y.label refl)) in
          let here : node_at v u ≡ Some (insert_child k leaf' s) = node_at-edit_at v (insert_child k leaf') t ∙ ap (option_map (insert_child k leaf')) at in
          let child : node_at (v ++ m ∷ []) u ≡ Some leaf' = child_node_at v m u (insert_child k leaf' s) leaf' here (place leaf') in
          let whole : add_before y.below leaf' ≡ y = (let rows = before_none y.below in λ i. record { label = y.label; below = rows i }) in
          let edited : edit_at (m ∷ []) (add_before y.below) (insert_child k leaf' s) ≡ insert_child k y s =
          (let rows = edits (add_before y.below) leaf' ∙ ap (insert_tree s.below k) whole in λ i. record { label = s.label; below = rows i }) in
          comes_as (edit_at (v ++ m ∷ []) (add_before y.below) u) (edit_at v (insert_child k y) t)
          (edit_at-append v (m ∷ []) (add_before y.below) u
          ∙ edit_at-edit_at v (edit_at (m ∷ []) (add_before y.below)) (insert_child k leaf') t
          ∙ same_edits v (λ z. edit_at (m ∷ []) (add_before y.below) (insert_child k leaf' z)) (insert_child k y) t s at edited)
          (get_row y.below row u (v ++ m ∷ []) comes1 (rw child refl))

  -- trees as the last children
  get_trees : (tops : List LabelTree) (t : LabelTree) (v : List ℕ) → Comes t → IsNode t v → AreAllowedTrees asked stmts tops → Comes (edit_at v (add_trees tops) t)
  get_trees [] t v comes is made = comes_as t (edit_at v (add_trees []) t) (sym (edit_at-same v (add_trees []) t (λ s at. refl))) comes
  get_trees (y ∷ tops) t v comes is made =
      let at = there (node_at v t) is in
      let last : insert_child (length_of at.0.below) y at.0 ≡ add_tree y at.0 = (let rows = insert_last at.0.below y in λ i. record { label = at.0.label; below = rows i }) in
      let first : Comes (edit_at v (add_tree y) t) =
      comes_as (edit_at v (insert_child (length_of at.0.below) y) t) (edit_at v (add_tree y) t) (same_edits v (insert_child (length_of at.0.below) y) (add_tree y) t at.0 at.1 last)
      (get_tree y t v (length_of at.0.below) comes is (made y (Contains-here y y tops refl))) in
      comes_as (edit_at v (add_trees tops) (edit_at v (add_tree y) t)) (edit_at v (add_trees (y ∷ tops)) t)
      (edit_at-edit_at v (add_trees tops) (add_tree y) t)
      (get_trees tops (edit_at v (add_tree y) t) v first (IsNode-edit v (add_tree y) t is) (λ z has. made z (Contains-behind z y tops has)))

  -- what a covered action adds
  pub do_action : (a : Action) (t : LabelTree) (v : List ℕ) → Comes t → IsNode t v → IsCovered asked stmts a → Comes (act a v t)
  do_action (Classes classes) t v comes is covered = get_atoms classes t v comes is covered
  do_action (Inside forest) t v comes is covered = get_trees forest.tops t v comes is covered
  do_action (Beside forest) t v comes is covered =
      elim (parent_of v) as (λ o. parent_of v ≡ o → Comes (unwrap_or (option_map (λ p. edit_at p (add_trees forest.tops) t) o) t)) [
        | None ↦ λ e. comes
        | Some p ↦ λ e. get_trees forest.tops t p comes (IsSome-parent_of v p t e is) covered
      ] refl

-- Trees that grow where they stand: each node stays at its path, and is within what is there later.
use Rattle.std.proofs.Common.{◌≡◌, ℕ, suc, List, [], ◌∷◌, ◌++◌, take, Option, Some, None, option_map, option_and_then, unwrap_or, fold, Contains, refl, sym, ◌∙◌, subst, inl, inr, arith}
use Rattle.std.proofs.lemmas.Bool.{cases_order}
use Rattle.std.proofs.lemmas.List.Elements.{All-contains}
use Rattle.tp_base.proofs.Rising.{All-from_Contains}
use Rattle.tree_sem.specs.declared.actions.Action.{Action}
use Rattle.tree_sem.specs.declared.actions.Action.TheVariants.{Classes, Inside, Beside}
use Rattle.tree_sem.specs.Trees.{Row, no_nodes, node, LabelTree, leaf, tree_of, push_tree, node_at, edit_at, edit_each, add_class, add_child}
use Rattle.tree_sem.specs.Paths.{parent_of}
use Rattle.tree_sem.specs.Nodes.{IsNode, HasAtom}
use Rattle.tree_sem.specs.Actions.{add_classes, add_trees, act}
use Rattle.tree_sem.specs.Embedding.{AreWithin, IsWithin, IsImage}
use Rattle.tree_sem.specs.Growth.{Grows}
use Rattle.tree_sem.proofs.RowLemmas.{there, tree_of-number, node_at-append}
use Rattle.tree_sem.proofs.EditLemmas.{tree_of-edit_tree, tree_of-edit_tree_other, tree_of-push_tree_other}
use Rattle.tree_sem.proofs.NodeLemmas.{HasAtom-node}
use Rattle.tree_sem.proofs.WithinLemmas.{add_class_within, add_classes_within, add_child_within, add_trees_within}

pub grows_itself : (t : LabelTree) → Grows t t
grows_itself t v s at = (s, at, λ a has. has)

pub grows_both : (t u w : LabelTree) → Grows t u → Grows u w → Grows t w
grows_both t u w a b v s at =
    let first = a v s at in
    let second = b v first.0 first.1 in
    (second.0, second.1, λ x has. second.2 x (first.2 x has))

-- what is below a child grows too
pub grows_child : (t u : LabelTree) → Grows t u → (k : ℕ) (c x : LabelTree) → tree_of t.below k ≡ Some c → tree_of u.below k ≡ Some x → Grows c x
grows_child t u grows k c x at at' v s is =
    let found = grows (k ∷ v) s (rw at is) in
    (found.0, rw at' at found.1, found.2)

child_stays : (t u : LabelTree) → Grows t u → (k : ℕ) (c : LabelTree) → tree_of t.below k ≡ Some c → (x : LabelTree) × (tree_of u.below k ≡ Some x) × Grows c x
child_stays t u grows k c at =
    let found = grows (k ∷ []) c (rw at refl) in
    let is = one_down (tree_of u.below k) found.0 found.1 in
    (found.0, is, grows_child t u grows k c found.0 at is)
  where
    one_down : (o : Option LabelTree) (x : LabelTree) → option_and_then (node_at []) o ≡ Some x → o ≡ Some x
    one_down None x e = cc
    one_down (Some y) x e = e

row_within : (row us : Row) (f : ℕ → ℕ) → ((k : ℕ) (c : LabelTree) → tree_of row k ≡ Some c → (x : LabelTree) × (tree_of us (f k) ≡ Some x) × Grows c x) → AreWithin row us
row_within no_nodes us f each = tt
row_within (node l below next) us f each =
    let whole : LabelTree = record { label = l; below = below } in
    let here = each 0 whole refl in
    let label = here.2 [] whole refl in
    let same : here.0 ≡ label.0 = cc in (
      (
        f 0,
        here.0,
        here.1,
        All-from_Contains (Contains here.0.label) l (λ a is. subst (λ (z : LabelTree). Contains z.label a) (sym same) (label.2 a is)),
        row_within below here.0.below (λ k. k) (λ k c at. child_stays whole here.0 here.2 k c at),
      ),
      row_within next us (λ k. f (suc k)) (λ k c at. each (suc k) c at),
    )

-- the tree at each node is within the one that is there later
pub grows_at : (t u : LabelTree) → Grows t u → (v : List ℕ) (s : LabelTree) → node_at v t ≡ Some s → (x : LabelTree) × (node_at v u ≡ Some x) × IsWithin s x
grows_at t u grows v s at =
    let found = grows v s at in (
      found.0,
      found.1,
      (
        All-from_Contains (Contains found.0.label) s.label found.2,
        row_within s.below found.0.below (λ k. k) (λ k c is. child_stays s found.0 (below s found.0 at found.1) k c is),
      ),
    )
  where
    below : (s x : LabelTree) → node_at v t ≡ Some s → node_at v u ≡ Some x → Grows s x
    below s x at at' q y is =
        let found = grows (v ++ q) y (rw (node_at-append v q t, at) is) in
        (found.0, rw (node_at-append v q u, at') at found.1, found.2)

-- and where each is, the tree has grown
pub grows_from : (t u : LabelTree) → ((v : List ℕ) (s : LabelTree) → node_at v t ≡ Some s → (x : LabelTree) × (node_at v u ≡ Some x) × IsWithin s x) → Grows t u
grows_from t u each v s at = let found = each v s at in (found.0, found.1, λ a has. All-contains (Contains found.0.label) s.label a found.2.0 has)

pub grows_within : (t u : LabelTree) → Grows t u → IsWithin t u
grows_within t u grows =
    let whole = grows_at t u grows [] t refl in
    let same : u ≡ whole.0 = cc in
    subst (λ (z : LabelTree). IsWithin t z) (sym same) whole.2

-- each node is an image of itself
pub grows_image : (t u : LabelTree) → Grows t u → (v : List ℕ) → IsNode t v → IsImage t u v v
grows_image t u grows v is = record { is_node = is; same_length = refl; levels = λ m le s at. grows_at t u grows (take m v) s at }

pub IsNode-grows : (t u : LabelTree) → Grows t u → (v : List ℕ) → IsNode t v → IsNode u v
IsNode-grows t u grows v is =
    let at = there (node_at v t) is in
    let found = grows v at.0 at.1 in
    rw found.1 refl

pub HasAtom-grows : (t u : LabelTree) → Grows t u → (v : List ℕ) (a : ℕ) → HasAtom t v a → HasAtom u v a
HasAtom-grows t u grows v a has =
    let at = there (node_at v t) (HasAtom-node t v a has) in
    let found = grows v at.0 at.1 in
    let has' : Contains at.0.label a = rw at.1 at has in
    rw found.1 (found.2 a has')

-- an edit under which its node grows
pub edit_grows : (f : LabelTree → LabelTree) → ((s : LabelTree) → Grows s (f s)) → (p : List ℕ) (t : LabelTree) → Grows t (edit_at p f t)
edit_grows f grows [] t v s at = grows t v s at
edit_grows f grows (k ∷ p) t [] s at = let same : t ≡ s = cc in (edit_at (k ∷ p) f t, refl, λ a has. subst (λ (z : LabelTree). Contains z.label a) (sym same) has)
edit_grows f grows (k ∷ p) t (m ∷ v) s at = elim (cases_order m k) [
  | inl same ↦
      rw (same, tree_of-edit_tree (edit_at p f) t.below k)
      (elim (tree_of t.below k) as (λ o. option_and_then (node_at v) o ≡ Some s
      → (x : LabelTree) × (option_and_then (node_at v) (option_map (edit_at p f) o) ≡ Some x) × ((a : ℕ) → Contains s.label a → Contains x.label a)) [
        | None ↦ λ is. cc
        | Some c ↦ λ is. edit_grows f grows p c v s is
      ] (rw same at at))
  | inr (inl less) ↦ rw (tree_of-edit_tree_other (edit_at p f) t.below k m (λ e. omega arith)) (s, at, λ a has. has)
  | inr (inr more) ↦ rw (tree_of-edit_tree_other (edit_at p f) t.below k m (λ e. omega arith)) (s, at, λ a has. has)
]

-- a change of the root alone, under which each child stays
pub grows_at_root : (s x : LabelTree) → IsWithin s x → ((m : ℕ) (c : LabelTree) → tree_of s.below m ≡ Some c → tree_of x.below m ≡ Some c) → Grows s x
grows_at_root s x within stays [] y at =
    let same : s ≡ y = cc in
    (x, refl, λ a has. All-contains (Contains x.label) s.label a within.0 (subst (λ (z : LabelTree). Contains z.label a) (sym same) has))
grows_at_root s x within stays (m ∷ v) y at =
    elim (tree_of s.below m) as (λ o. tree_of s.below m ≡ o → option_and_then (node_at v) o ≡ Some y
    → (z : LabelTree) × (option_and_then (node_at v) (tree_of x.below m) ≡ Some z) × ((a : ℕ) → Contains y.label a → Contains z.label a)) [
      | None ↦ λ e is. cc
      | Some c ↦ λ e is. rw (stays m c e) (y, is, λ a has. has)
    ] refl at

pub pushed_stays : (r : Row) (t : LabelTree) (m : ℕ) (c : LabelTree) → tree_of r m ≡ Some c → tree_of (push_tree r t) m ≡ Some c
pushed_stays r t m c at = let less = tree_of-number r m c at in tree_of-push_tree_other r t m (λ e. omega arith) ∙ at

pub all_pushed_stay : (tops : List LabelTree) (r : Row) (m : ℕ) (c : LabelTree) → tree_of r m ≡ Some c → tree_of (fold push_tree r tops) m ≡ Some c
all_pushed_stay [] r m c at = at
all_pushed_stay (t ∷ tops) r m c at = all_pushed_stay tops (push_tree r t) m c (pushed_stays r t m c at)

-- what is added to a node
pub class_grows : (a : ℕ) (s : LabelTree) → Grows s (add_class a s)
class_grows a s = grows_at_root s (add_class a s) (add_class_within a s) (λ m c at. at)

pub classes_grow : (classes : List ℕ) (s : LabelTree) → Grows s (add_classes classes s)
classes_grow classes s = grows_at_root s (add_classes classes s) (add_classes_within classes s) (λ m c at. at)

pub child_grows : (l : List ℕ) (s : LabelTree) → Grows s (add_child l s)
child_grows l s = grows_at_root s (add_child l s) (add_child_within l s) (λ m c at. pushed_stays s.below (leaf l) m c at)

pub trees_grow : (tops : List LabelTree) (s : LabelTree) → Grows s (add_trees tops s)
trees_grow tops s = grows_at_root s (add_trees tops s) (add_trees_within tops s) (λ m c at. all_pushed_stay tops s.below m c at)

pub add_class_grows : (a : ℕ) (p : List ℕ) (t : LabelTree) → Grows t (edit_at p (add_class a) t)
add_class_grows a p t = edit_grows (add_class a) (class_grows a) p t

pub add_classes_grows : (classes p : List ℕ) (t : LabelTree) → Grows t (edit_at p (add_classes classes) t)
add_classes_grows classes p t = edit_grows (add_classes classes) (classes_grow classes) p t

pub add_child_grows : (l p : List ℕ) (t : LabelTree) → Grows t (edit_at p (add_child l) t)
add_child_grows l p t = edit_grows (add_child l) (child_grows l) p t

pub add_trees_grows : (tops : List LabelTree) (p : List ℕ) (t : LabelTree) → Grows t (edit_at p (add_trees tops) t)
add_trees_grows tops p t = edit_grows (add_trees tops) (trees_grow tops) p t

-- each action grows the tree
pub act_grows : (a : Action) (v : List ℕ) (t : LabelTree) → Grows t (act a v t)
act_grows (Classes classes) v t = add_classes_grows classes v t
act_grows (Inside forest) v t = add_trees_grows forest.tops v t
act_grows (Beside forest) v t =
    elim (parent_of v) as (λ o. Grows t (unwrap_or (option_map (λ p. edit_at p (add_trees forest.tops) t) o) t)) [
      | None ↦ grows_itself t
      | Some p ↦ add_trees_grows forest.tops p t
    ]

-- so do edits one after another
pub edit_each_grows : (f : LabelTree → LabelTree) → ((s : LabelTree) → Grows s (f s)) → (at : List (List ℕ)) (t : LabelTree) → Grows t (edit_each at f t)
edit_each_grows f grows [] t = grows_itself t
edit_each_grows f grows (p ∷ at) t = grows_both t (edit_at p f t) (edit_each at f (edit_at p f t)) (edit_grows f grows p t) (edit_each_grows f grows at (edit_at p f t))

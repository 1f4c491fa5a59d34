-- What an edit leaves of a tree, path by path.
use Rattle.std.proofs.Common.{◌≡◌, ◌≢◌, ◌⊎◌, ℕ, zero, suc, List, [], ◌∷◌, ◌++◌, Option, Some, None, IsSome, ◌↔◌, option_map, option_and_then, refl, sym, ap, ◌∙◌, inl, inr, append-nil, arith}
use Rattle.std.proofs.lemmas.Bool.{cases_order}
use Rattle.tp_base.specs.Classes.{with_class}
use Rattle.tp_base.proofs.Lists.{same_or_other}
use Rattle.tree_sem.specs.Trees.{Row, no_nodes, node, LabelTree, leaf, tree_of, length_of, push_tree, edit_tree, node_at, label_at, children_at, edit_at, add_class, add_child}
use Rattle.tree_sem.proofs.RowLemmas.{node_at-append, tree_of-past}
use Rattle.tree_sem.specs.Actions.{add_classes}

pub tree_of-edit_tree : (f : LabelTree → LabelTree) (r : Row) (k : ℕ) → tree_of (edit_tree f r k) k ≡ option_map f (tree_of r k)
tree_of-edit_tree f no_nodes k = refl
tree_of-edit_tree f (node l below next) zero = refl
tree_of-edit_tree f (node l below next) (suc k) = tree_of-edit_tree f next k

pub tree_of-edit_tree_other : (f : LabelTree → LabelTree) (r : Row) (k m : ℕ) → m ≢ k → tree_of (edit_tree f r k) m ≡ tree_of r m
tree_of-edit_tree_other f no_nodes k m other = refl
tree_of-edit_tree_other f (node l below next) zero zero other = absurd (other refl)
tree_of-edit_tree_other f (node l below next) zero (suc m) other = refl
tree_of-edit_tree_other f (node l below next) (suc k) zero other = refl
tree_of-edit_tree_other f (node l below next) (suc k) (suc m) other = tree_of-edit_tree_other f next k m (λ e. other (ap suc e))

pub length_of-edit_tree : (f : LabelTree → LabelTree) (r : Row) (k : ℕ) → length_of (edit_tree f r k) ≡ length_of r
length_of-edit_tree f no_nodes k = refl
length_of-edit_tree f (node l below next) zero = refl
length_of-edit_tree f (node l below next) (suc k) = ap suc (length_of-edit_tree f next k)

pub tree_of-push_tree : (r : Row) (t : LabelTree) → tree_of (push_tree r t) (length_of r) ≡ Some t
tree_of-push_tree no_nodes t = refl
tree_of-push_tree (node l below next) t = tree_of-push_tree next t

pub tree_of-push_tree_other : (r : Row) (t : LabelTree) (m : ℕ) → m ≢ length_of r → tree_of (push_tree r t) m ≡ tree_of r m
tree_of-push_tree_other no_nodes t zero other = absurd (other refl)
tree_of-push_tree_other no_nodes t (suc m) other = refl
tree_of-push_tree_other (node l below next) t zero other = refl
tree_of-push_tree_other (node l below next) t (suc m) other = tree_of-push_tree_other next t m (λ e. other (ap suc e))

pub length_of-push_tree : (r : Row) (t : LabelTree) → length_of (push_tree r t) ≡ suc (length_of r)
length_of-push_tree no_nodes t = refl
length_of-push_tree (node l below next) t = ap suc (length_of-push_tree next t)

-- the node that was edited
pub node_at-edit_at : (p : List ℕ) (f : LabelTree → LabelTree) (t : LabelTree) → node_at p (edit_at p f t) ≡ option_map f (node_at p t)
node_at-edit_at [] f t = refl
node_at-edit_at (k ∷ p) f t =
    rw (tree_of-edit_tree (edit_at p f) t.below k)
    (elim (tree_of t.below k) as (λ o. option_and_then (node_at p) (option_map (edit_at p f) o) ≡ option_map f (option_and_then (node_at p) o)) [
      | None ↦ refl
      | Some s ↦ node_at-edit_at p f s
    ])

-- the nodes at and below it
pub node_at-edit_at_below : (p q : List ℕ) (f : LabelTree → LabelTree) (t s : LabelTree) → node_at p t ≡ Some s → node_at (p ++ q) (edit_at p f t) ≡ node_at q (f s)
node_at-edit_at_below p q f t s at = node_at-append p q (edit_at p f t) ∙ ap (option_and_then (node_at q)) (node_at-edit_at p f t ∙ ap (option_map f) at)

-- an edit in a row that changes nothing of its tree
edit_tree-same : (f : LabelTree → LabelTree) (r : Row) (k : ℕ) → ((s : LabelTree) → tree_of r k ≡ Some s → f s ≡ s) → edit_tree f r k ≡ r
edit_tree-same f no_nodes k same = refl
edit_tree-same f (node l below next) zero same =
    let first = same (record { label = l; below = below }) refl in
    λ i. node (first i).label (first i).below next
edit_tree-same f (node l below next) (suc k) same = ap (λ r. node l below r) (edit_tree-same f next k same)

-- an edit that changes nothing of its node changes nothing
pub edit_at-same : (p : List ℕ) (f : LabelTree → LabelTree) (t : LabelTree) → ((s : LabelTree) → node_at p t ≡ Some s → f s ≡ s) → edit_at p f t ≡ t
edit_at-same [] f t same = same t refl
edit_at-same (k ∷ p) f t same =
    let row = edit_tree-same (edit_at p f) t.below k (λ s at. edit_at-same p f s (λ u at'. same u (rw at at'))) in
    λ i. record { label = t.label; below = row i }

-- edits that do the same to the node do the same
edit_tree-there : (f g : LabelTree → LabelTree) (r : Row) (k : ℕ) → ((s : LabelTree) → tree_of r k ≡ Some s → f s ≡ g s) → edit_tree f r k ≡ edit_tree g r k
edit_tree-there f g no_nodes k same = refl
edit_tree-there f g (node l below next) zero same =
    let first = same (record { label = l; below = below }) refl in
    λ i. node (first i).label (first i).below next
edit_tree-there f g (node l below next) (suc k) same = ap (λ r. node l below r) (edit_tree-there f g next k same)

pub edit_at-alike : (p : List ℕ) (f g : LabelTree → LabelTree) (t : LabelTree) → ((s : LabelTree) → node_at p t ≡ Some s → f s ≡ g s) → edit_at p f t ≡ edit_at p g t
edit_at-alike [] f g t same = same t refl
edit_at-alike (k ∷ p) f g t same =
    let row = edit_tree-there (edit_at p f) (edit_at p g) t.below k (λ s at. edit_at-alike p f g s (λ u at'. same u (rw at at'))) in
    λ i. record { label = t.label; below = row i }

-- where no node is there, nothing is edited
pub edit_at-none : (p : List ℕ) (f : LabelTree → LabelTree) (t : LabelTree) → node_at p t ≡ None → edit_at p f t ≡ t
edit_at-none p f t none = edit_at-same p f t (λ s at. let never : Some s ≡ None = sym at ∙ none in cc)

-- two edits at one place
edit_tree-edit_tree : (f g : LabelTree → LabelTree) (r : Row) (k : ℕ) → edit_tree f (edit_tree g r k) k ≡ edit_tree (λ s. f (g s)) r k
edit_tree-edit_tree f g no_nodes k = refl
edit_tree-edit_tree f g (node l below next) zero = refl
edit_tree-edit_tree f g (node l below next) (suc k) = ap (λ r. node l below r) (edit_tree-edit_tree f g next k)

edit_tree-alike : (f g : LabelTree → LabelTree) → ((s : LabelTree) → f s ≡ g s) → (r : Row) (k : ℕ) → edit_tree f r k ≡ edit_tree g r k
edit_tree-alike f g alike r k = ap (λ h. edit_tree h r k) (λ i s. alike s i)

pub edit_at-edit_at : (p : List ℕ) (f g : LabelTree → LabelTree) (t : LabelTree) → edit_at p f (edit_at p g t) ≡ edit_at p (λ s. f (g s)) t
edit_at-edit_at [] f g t = refl
edit_at-edit_at (k ∷ p) f g t =
    let row = edit_tree-edit_tree (edit_at p f) (edit_at p g) t.below k
    ∙ edit_tree-alike (λ s. edit_at p f (edit_at p g s)) (edit_at p (λ s. f (g s))) (edit_at-edit_at p f g) t.below k in
    λ i. record { label = t.label; below = row i }

-- an edit below a place is an edit there
pub edit_at-append : (p q : List ℕ) (f : LabelTree → LabelTree) (t : LabelTree) → edit_at (p ++ q) f t ≡ edit_at p (edit_at q f) t
edit_at-append [] q f t = refl
edit_at-append (k ∷ p) q f t =
    let row = edit_tree-alike (edit_at (p ++ q) f) (edit_at p (edit_at q f)) (edit_at-append p q f) t.below k in
    λ i. record { label = t.label; below = row i }

-- what is above the node that was edited
pub node_at-edit_at_above : (p q : List ℕ) (f : LabelTree → LabelTree) (t : LabelTree) → node_at p (edit_at (p ++ q) f t) ≡ option_map (edit_at q f) (node_at p t)
node_at-edit_at_above p q f t = ap (node_at p) (edit_at-append p q f t) ∙ node_at-edit_at p (edit_at q f) t

-- an edit of the last tree that was added
pub edit_tree-push_tree : (f : LabelTree → LabelTree) (r : Row) (t : LabelTree) → edit_tree f (push_tree r t) (length_of r) ≡ push_tree r (f t)
edit_tree-push_tree f no_nodes t = refl
edit_tree-push_tree f (node l below next) t = ap (λ r. node l below r) (edit_tree-push_tree f next t)

-- What is seen of each node elsewhere stays, if an edit of a row doesn't show, and f leaves it at the paths of P below its node.
module _ {X : Type 0} (see : LabelTree → X) (inner : (h : LabelTree → LabelTree) (k : ℕ) (t : LabelTree) → see (record t { below = edit_tree h t.below k }) ≡ see t)
    (f : LabelTree → LabelTree) (P : List ℕ → Type 0) where
  seen_elsewhere : (p q : List ℕ) (t : LabelTree) → ((s : LabelTree) → node_at p t ≡ Some s → (r : List ℕ) → P r → option_map see (node_at r (f s)) ≡ option_map see (node_at r s))
      → ((r : List ℕ) → q ≡ p ++ r → P r) → option_map see (node_at q (edit_at p f t)) ≡ option_map see (node_at q t)
  seen_elsewhere [] q t keeps apart = keeps t refl q (apart q refl)
  seen_elsewhere (k ∷ p) [] t keeps apart = ap Some (inner (edit_at p f) k t)
  seen_elsewhere (k ∷ p) (m ∷ q) t keeps apart = elim (cases_order m k) [
    | inl same ↦
        rw (same, tree_of-edit_tree (edit_at p f) t.below k)
        (elim (tree_of t.below k) as (λ o. tree_of t.below k ≡ o → option_map see (option_and_then (node_at q) (option_map (edit_at p f) o)) ≡ option_map see (option_and_then (node_at q) o)) [
          | None ↦ λ e. refl
          | Some s ↦ λ e. seen_elsewhere p q s (λ u at. keeps u (rw e at)) (λ r is. apart r (λ i. same i ∷ is i))
        ] refl)
    | inr (inl less) ↦ ap (λ o. option_map see (option_and_then (node_at q) o)) (tree_of-edit_tree_other (edit_at p f) t.below k m (λ e. omega arith))
    | inr (inr more) ↦ ap (λ o. option_map see (option_and_then (node_at q) o)) (tree_of-edit_tree_other (edit_at p f) t.below k m (λ e. omega arith))
  ]

-- a path that isn't p goes on from p by some number, if it goes on from it at all
goes_on : (p q r : List ℕ) → q ≢ p → q ≡ p ++ r → r ≢ []
goes_on p q r other is none = other (is ∙ ap (λ z. p ++ z) none ∙ append-nil p)

-- a class changes one label
pub label_at-add_class : (p : List ℕ) (a : ℕ) (t : LabelTree) → label_at p (edit_at p (add_class a) t) ≡ option_map (with_class a) (label_at p t)
label_at-add_class p a t =
    rw (node_at-edit_at p (add_class a) t)
    (elim (node_at p t) as (λ o. option_map (λ (n : LabelTree). n.label) (option_map (add_class a) o) ≡ option_map (with_class a) (option_map (λ n. n.label) o)) [ None ↦ refl | Some s ↦ refl ])

pub label_at-add_class_other : (p q : List ℕ) (a : ℕ) (t : LabelTree) → q ≢ p → label_at q (edit_at p (add_class a) t) ≡ label_at q t
label_at-add_class_other p q a t other = seen_elsewhere (λ n. n.label) (λ h k s. refl) (add_class a) (λ r. r ≢ []) p q t (λ s at r more. below s r more) (λ r is. goes_on p q r other is)
  where
    below : (s : LabelTree) (r : List ℕ) → r ≢ [] → label_at r (add_class a s) ≡ label_at r s
    below s [] more = absurd (more refl)
    below s (k ∷ r) more = refl

pub children_at-add_class : (p q : List ℕ) (a : ℕ) (t : LabelTree) → children_at q (edit_at p (add_class a) t) ≡ children_at q t
children_at-add_class p q a t =
    seen_elsewhere (λ n. length_of n.below) (λ h k s. length_of-edit_tree h s.below k) (add_class a) (λ r. Unit {0}) p q t (λ s at r more. below s r) (λ r is. tt)
  where
    below : (s : LabelTree) (r : List ℕ) → children_at r (add_class a s) ≡ children_at r s
    below s [] = refl
    below s (k ∷ r) = refl

-- below a node with a new child, all but that child is as it was
node_at-add_child_below : (l : List ℕ) (s : LabelTree) (m : ℕ) (r : List ℕ) → m ∷ r ≢ length_of s.below ∷ [] → node_at (m ∷ r) (add_child l s) ≡ node_at (m ∷ r) s
node_at-add_child_below l s m r apart = elim (cases_order m (length_of s.below)) [
  | inl same ↦ elim r as (λ r. m ∷ r ≢ length_of s.below ∷ [] → node_at (m ∷ r) (add_child l s) ≡ node_at (m ∷ r) s) [
    | [] ↦ λ apart. absurd (apart (λ i. same i ∷ []))
    | j ∷ r ↦ λ apart. rw (same, tree_of-push_tree s.below (leaf l), tree_of-past s.below (length_of s.below) (omega arith))
  ] apart
  | inr (inl less) ↦ ap (option_and_then (node_at r)) (tree_of-push_tree_other s.below (leaf l) m (λ e. omega arith))
  | inr (inr more) ↦ ap (option_and_then (node_at r)) (tree_of-push_tree_other s.below (leaf l) m (λ e. omega arith))
]

-- Where there are s.below children already, a child is one more of them, and what was there stays.
module _ (p : List ℕ) (l : List ℕ) (t s : LabelTree) (at : node_at p t ≡ Some s) where
  pub node_at-add_child_new : node_at (p ++ length_of s.below ∷ []) (edit_at p (add_child l) t) ≡ Some (leaf l)
  node_at-add_child_new = node_at-edit_at_below p (length_of s.below ∷ []) (add_child l) t s at ∙ rw (tree_of-push_tree s.below (leaf l))

  pub label_at-add_child_new : label_at (p ++ length_of s.below ∷ []) (edit_at p (add_child l) t) ≡ Some l
  label_at-add_child_new = ap (option_map (λ (n : LabelTree). n.label)) node_at-add_child_new

  pub children_at-add_child_new : children_at (p ++ length_of s.below ∷ []) (edit_at p (add_child l) t) ≡ Some 0
  children_at-add_child_new = ap (option_map (λ (n : LabelTree). length_of n.below)) node_at-add_child_new

  pub children_at-add_child : children_at p (edit_at p (add_child l) t) ≡ Some (suc (length_of s.below))
  children_at-add_child = rw (node_at-edit_at p (add_child l) t, at) (ap Some (length_of-push_tree s.below (leaf l)))

  -- no node has the new child's path before
  pub node_at-add_child_none : node_at (p ++ length_of s.below ∷ []) t ≡ None
  node_at-add_child_none = rw (node_at-append p (length_of s.below ∷ []) t, at, tree_of-past s.below (length_of s.below) (omega arith))

  pub label_at-add_child_other : (q : List ℕ) → q ≢ p ++ length_of s.below ∷ [] → label_at q (edit_at p (add_child l) t) ≡ label_at q t
  label_at-add_child_other q other =
      seen_elsewhere (λ n. n.label) (λ h k s. refl) (add_child l) (λ r. r ≢ length_of s.below ∷ []) p q t
      (λ u at' r apart. let same : u ≡ s = cc in below u r (λ e. apart (e ∙ ap (λ (z : LabelTree). length_of z.below ∷ []) same))) (λ r is e. other (is ∙ ap (λ z. p ++ z) e))
    where
      below : (s : LabelTree) (r : List ℕ) → r ≢ length_of s.below ∷ [] → label_at r (add_child l s) ≡ label_at r s
      below s [] apart = refl
      below s (m ∷ r) apart = ap (option_map (λ (n : LabelTree). n.label)) (node_at-add_child_below l s m r apart)

  pub children_at-add_child_other : (q : List ℕ) → q ≢ p → q ≢ p ++ length_of s.below ∷ [] → children_at q (edit_at p (add_child l) t) ≡ children_at q t
  children_at-add_child_other q above other =
      seen_elsewhere (λ n. length_of n.below) (λ h k s. length_of-edit_tree h s.below k) (add_child l) (λ r. (r ≢ []) × (r ≢ length_of s.below ∷ [])) p q t
      (λ u at' r apart. let same : u ≡ s = cc in below u r apart.0 (λ e. apart.1 (e ∙ ap (λ (z : LabelTree). length_of z.below ∷ []) same)))
      (λ r is. (goes_on p q r above is, λ e. other (is ∙ ap (λ z. p ++ z) e)))
    where
      below : (s : LabelTree) (r : List ℕ) → r ≢ [] → r ≢ length_of s.below ∷ [] → children_at r (add_child l s) ≡ children_at r s
      below s [] more apart = absurd (more refl)
      below s (m ∷ r) more apart = ap (option_map (λ (n : LabelTree). length_of n.below)) (node_at-add_child_below l s m r apart)

-- a node that was there has its label still
pub label_at-add_child_old : (p q l : List ℕ) (t : LabelTree) → IsSome (node_at q t) → label_at q (edit_at p (add_child l) t) ≡ label_at q t
label_at-add_child_old p q l t is =
    elim (node_at p t) as (λ o. node_at p t ≡ o → label_at q (edit_at p (add_child l) t) ≡ label_at q t) [
      | None ↦ λ e. ap (label_at q) (edit_at-none p (add_child l) t e)
      | Some s ↦ λ e. label_at-add_child_other p l t s e q (λ same. let never : IsSome {T = LabelTree} None = rw (same, node_at-add_child_none p l t s e) at is in cc)
    ] refl

-- a label is there exactly where a node is
pub node_at-label_at : (p : List ℕ) (t : LabelTree) → IsSome (label_at p t) ↔ IsSome (node_at p t)
node_at-label_at p t = elim (node_at p t) as (λ o. IsSome (option_map (λ (n : LabelTree). n.label) o) ↔ IsSome o) [ None ↦ (λ h. h, λ h. h) | Some s ↦ (λ h. refl, λ h. refl) ]

seen_there : {X : Type 0} (see : LabelTree → X) (o o' : Option LabelTree) → option_map see o ≡ option_map see o' → IsSome o → IsSome o'
seen_there see None o' same is = absurd (cc)
seen_there see (Some s) None same is = cc
seen_there see (Some s) (Some s') same is = refl

-- a class leaves the nodes
pub IsSome-add_class : (p q : List ℕ) (a : ℕ) (t : LabelTree) → IsSome (node_at q (edit_at p (add_class a) t)) ↔ IsSome (node_at q t)
IsSome-add_class p q a t =
    let same = children_at-add_class p q a t in
    (seen_there (λ n. length_of n.below) (node_at q (edit_at p (add_class a) t)) (node_at q t) same, seen_there (λ n. length_of n.below) (node_at q t) (node_at q (edit_at p (add_class a) t)) (sym same))

-- a child leaves the nodes that were there
pub IsSome-add_child_old : (p q l : List ℕ) (t : LabelTree) → IsSome (node_at q t) → IsSome (node_at q (edit_at p (add_child l) t))
IsSome-add_child_old p q l t is = seen_there (λ n. n.label) (node_at q t) (node_at q (edit_at p (add_child l) t)) (sym (label_at-add_child_old p q l t is)) is

-- and adds one
pub IsSome-add_child : (p q l : List ℕ) (t s : LabelTree) → node_at p t ≡ Some s → IsSome (node_at q (edit_at p (add_child l) t)) → IsSome (node_at q t) ⊎ (q ≡ p ++ length_of s.below ∷ [])
IsSome-add_child p q l t s at is = elim (same_or_other q (p ++ length_of s.below ∷ [])) [
  | inl same ↦ inr same
  | inr other ↦ inl (seen_there (λ n. n.label) (node_at q (edit_at p (add_child l) t)) (node_at q t) (label_at-add_child_other p l t s at q other) is)
]

pub children_at-add_classes : (p q classes : List ℕ) (t : LabelTree) → children_at q (edit_at p (add_classes classes) t) ≡ children_at q t
children_at-add_classes p q [] t = ap (children_at q) (edit_at-same p (add_classes []) t (λ s at. refl))
children_at-add_classes p q (c ∷ classes) t =
    ap (children_at q) (sym (edit_at-edit_at p (add_classes classes) (add_class c) t))
    ∙ children_at-add_classes p q classes (edit_at p (add_class c) t)
    ∙ children_at-add_class p q c t

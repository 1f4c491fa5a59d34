-- Two branches of a table, taken apart at the smaller atom.
use Rattle.std.proofs.Common.{◌≡◌, ℕ, ◌<◌, Bool, false, List, length, slice_get, get_or, Some, refl, sym, ap, subst, ◌∙◌, arith}
use Rattle.std.proofs.lemmas.Option.{slice_get_within, slice_get_read}
use Rattle.class_diagrams.specs.declared.table.BranchNode.{BranchNode}
use Rattle.class_diagrams.specs.declared.table.Pair.TheVariants.{WithLeaf, Branches}
use Rattle.class_diagrams.specs.declared.refs.Target.{Target}
use Rattle.class_diagrams.specs.declared.refs.Target.TheVariants.{Leaf, Branch}
use Rattle.class_diagrams.specs.Trees.{Tree, leaf, branch, combine}
use Rattle.class_diagrams.specs.Arena.{tree_at, IsIn, AreSame}
use Rattle.class_diagrams.specs.Table.{trees_of, IsTable}
use Rattle.class_diagrams.specs.Pairs.{IsPair}
use Rattle.class_diagrams.proofs.ArenaLemmas.{branch_is_no_leaf}
use Rattle.class_diagrams.proofs.CombineLemmas.{combine-less, combine-more, combine-same}
use Rattle.class_diagrams.proofs.TableLemmas.{length-trees_of, tree_decoded, parts_within}

-- a stored branch as it was read
pub stored_node : (bs xs : List BranchNode) (k : ℕ) (b : BranchNode) → xs ≡ bs → k < length (trees_of bs) → b ≡ get_or xs k b → slice_get bs k ≡ Some b
stored_node bs xs k b same within at =
    let count = length-trees_of bs in
    slice_get_read bs (length bs) k b refl (omega arith) (at ∙ ap (λ ys. get_or ys k b) same)

-- what is known of a branch and of what goes with it
record IsBranch (ts : List Tree) (p : Target) (b : BranchNode) : Type 0 where
  within : IsIn ts p
  low : IsIn ts b.low
  high : IsIn ts b.high
  tree : tree_at ts p ≡ branch b.atom (tree_at ts b.low) (tree_at ts b.high)

is_branch : (bs : List BranchNode) (limit k : ℕ) (b : BranchNode) → IsTable bs limit → slice_get bs k ≡ Some b → IsBranch (trees_of bs) (Branch k) b
is_branch bs limit k b table at =
    let parts = parts_within bs limit k b table at in
    let inside = slice_get_within bs k b at in
    let count = length-trees_of bs in
    record { within = omega arith; low = parts.0; high = parts.1; tree = tree_decoded bs limit k b (leaf false) table at }

module _ (ts : List Tree) (p q : Target) (b c : BranchNode) (first : IsBranch ts p b) (second : IsBranch ts q c) where
  less : b.atom < c.atom → IsPair ts p q (Branches b.atom (b.low, q) (b.high, q))
  less order = (
    (first.low, second.within, rw first.tree (omega arith)),
    (first.high, second.within, rw first.tree (omega arith)),
    λ leaf_rule. rw (first.tree, second.tree) (combine-less leaf_rule b.atom c.atom (tree_at ts b.low) (tree_at ts b.high) (tree_at ts c.low) (tree_at ts c.high) order),
  )

  more : c.atom < b.atom → IsPair ts p q (Branches c.atom (p, c.low) (p, c.high))
  more order = (
    (first.within, second.low, rw second.tree (omega arith)),
    (first.within, second.high, rw second.tree (omega arith)),
    λ leaf_rule. rw (first.tree, second.tree) (combine-more leaf_rule b.atom c.atom (tree_at ts b.low) (tree_at ts b.high) (tree_at ts c.low) (tree_at ts c.high) order),
  )

  same : b.atom ≡ c.atom → IsPair ts p q (Branches b.atom (b.low, c.low) (b.high, c.high))
  same order = (
    (first.low, second.low, rw (first.tree, second.tree) (omega arith)),
    (first.high, second.high, rw (first.tree, second.tree) (omega arith)),
    λ leaf_rule. rw (first.tree, second.tree) (combine-same leaf_rule b.atom c.atom (tree_at ts b.low) (tree_at ts b.high) (tree_at ts c.low) (tree_at ts c.high) order),
  )

module _ (bs : List BranchNode) (limit i j : ℕ) (b c : BranchNode) (table : IsTable bs limit) (first : slice_get bs i ≡ Some b) (second : slice_get bs j ≡ Some c) where
  pub pair-less : b.atom < c.atom → IsPair (trees_of bs) (Branch i) (Branch j) (Branches b.atom (b.low, Branch j) (b.high, Branch j))
  pair-less order = less (trees_of bs) (Branch i) (Branch j) b c (is_branch bs limit i b table first) (is_branch bs limit j c table second) order

  pub pair-more : c.atom < b.atom → IsPair (trees_of bs) (Branch i) (Branch j) (Branches c.atom (Branch i, c.low) (Branch i, c.high))
  pair-more order = more (trees_of bs) (Branch i) (Branch j) b c (is_branch bs limit i b table first) (is_branch bs limit j c table second) order

  pub pair-same : b.atom ≡ c.atom → IsPair (trees_of bs) (Branch i) (Branch j) (Branches b.atom (b.low, c.low) (b.high, c.high))
  pair-same order = same (trees_of bs) (Branch i) (Branch j) b c (is_branch bs limit i b table first) (is_branch bs limit j c table second) order

-- a branch and a leaf
module _ (leaf_rule : Bool → Tree → Tree) (v : Bool) where
  on_leaf : (ts : List Tree) (k : ℕ) → AreSame ts → k < length ts → (t : Tree) → get_or ts k (leaf false) ≡ t → combine leaf_rule t (leaf v) ≡ leaf_rule v t
  on_leaf ts k same within (leaf w) at = absurd (branch_is_no_leaf ts k same within (rw at tt))
  on_leaf ts k same within (branch a l h) at = refl

pub pair-leaf : (ts : List Tree) (p q : Target) (k : ℕ) (v : Bool) → AreSame ts → Branch k ≡ p → Leaf v ≡ q → IsIn ts p → IsPair ts p q (WithLeaf v p)
pair-leaf ts p q k v same at other within =
    let here : k < length ts = subst (IsIn ts) (sym at) within in
    subst (λ x. IsPair ts x q (WithLeaf v x)) at (subst (λ y. IsPair ts (Branch k) y (WithLeaf v (Branch k))) other
    (here, λ leaf_rule. on_leaf leaf_rule v ts k same here (get_or ts k (leaf false)) refl))

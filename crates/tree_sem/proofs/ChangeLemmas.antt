-- What a write to the table does to the nodes.
use Rattle.std.proofs.Common.{◌≡◌, ◌≢◌, ℕ, zero, suc, ◌≤◌, List, [], ◌∷◌, Option, Some, None, IsSome, option_map, option_and_then, unwrap_or, slice_get, sym, ap, ◌∙◌, subst, inl, inr, arith}
use Rattle.std.specs.List.Sorted.{IsStrictlyIncreasing}
use Rattle.std.proofs.lemmas.Bool.{cases_eq}
use Rattle.slab.specs.Slab.{Slab, get, ContainsKey}
use Rattle.tree_sem.specs.declared.slots.Slot.{Slot}
use Rattle.tree_sem.specs.declared.tree_fault.TheConstants.{MOST_NODES}
use Rattle.tree_sem.specs.Trees.{LabelTree, tree_of, edit_at, count_of}
use Rattle.tree_sem.specs.Arena.{row_by, tree_to, place_from}
use Rattle.tree_sem.specs.Table.{kids_in, label_in, parent_in, tree_in, most_levels, IsForest, IsTable, IsChanged}
use Rattle.tree_sem.proofs.ArenaLemmas.{IsChangedAt, edited, below_changed, apart}
use Rattle.tree_sem.proofs.CountLemmas.{count_of-edit_at}
use Rattle.tree_sem.proofs.TableLemmas.{rolled_out, node_there}

-- what is said of a slot that stays
module _ (old new : Slab Slot) (i : ℕ) (same : get new i ≡ get old i) where
  pub label_stays : label_in new i ≡ label_in old i
  label_stays = ap (λ o. unwrap_or (option_map (λ (s : Slot). s.label) o) []) same

  pub kids_stay : kids_in new i ≡ kids_in old i
  kids_stay = ap (λ o. unwrap_or (option_map (λ (s : Slot). s.children.items) o) []) same

  pub parent_stays : parent_in new i ≡ parent_in old i
  parent_stays = ap (λ o. option_and_then (λ (s : Slot). s.parent) o) same

  pub slot_stays : ContainsKey old i → ContainsKey new i
  slot_stays is = subst (λ o. IsSome o) (sym same) is

-- no node has this one as its child
abbrev pub IsOrphan : Slab Slot → ℕ → Type 0
IsOrphan slots c = (i k : ℕ) → slice_get (kids_in slots i) k ≡ Some c → ⊥

-- the same but for the slot at a place, which has no children but some of those that it had
pub record IsLess (old new : Slab Slot) (place : ℕ) : Type 0 where
  pub others : (i : ℕ) → i ≢ place → get new i ≡ get old i
  pub source : ℕ → ℕ
  pub source_once : (k l : ℕ) → source k ≡ source l → k ≡ l
  pub fewer : (k c : ℕ) → slice_get (kids_in new place) k ≡ Some c → slice_get (kids_in old place) (source k) ≡ Some c
  pub up : (i k : ℕ) → slice_get (kids_in old i) k ≡ Some place → parent_in new place ≡ parent_in old place
  pub above : parent_in new 0 ≡ None
  pub root : ContainsKey new 0
  pub rises : IsStrictlyIncreasing (label_in new place)

module _ (old new : Slab Slot) (place : ℕ) (forest : IsForest old) (less : IsLess old new place) where
  -- a child was a child of the same node
  was_child : (i k c : ℕ) → slice_get (kids_in new i) k ≡ Some c → (l : ℕ) × (slice_get (kids_in old i) l ≡ Some c)
  was_child i k c at = elim (cases_eq i place) [
    | inl same ↦ (less.source k, ap (λ z. slice_get (kids_in old z) (less.source k)) same ∙ less.fewer k c (ap (λ z. slice_get (kids_in new z) k) (sym same) ∙ at))
    | inr other ↦ (k, ap (λ z. slice_get z k) (sym (kids_stay old new i (less.others i other))) ∙ at)
  ]

  less_up : (i k c : ℕ) → slice_get (kids_in new i) k ≡ Some c → parent_in new c ≡ Some i
  less_up i k c at =
      let was = was_child i k c at in
      elim (cases_eq c place) [
        | inl same ↦ ap (parent_in new) same ∙ less.up i was.0 (was.1 ∙ ap Some same) ∙ ap (parent_in old) (sym same) ∙ forest.arena.up i was.0 c was.1
        | inr other ↦ parent_stays old new c (less.others c other) ∙ forest.arena.up i was.0 c was.1
      ]

  less_once : (i k l c : ℕ) → slice_get (kids_in new i) k ≡ Some c → slice_get (kids_in new i) l ≡ Some c → k ≡ l
  less_once i k l c at at' = elim (cases_eq i place) [
    | inl same ↦
        let first = less.fewer k c (ap (λ z. slice_get (kids_in new z) k) (sym same) ∙ at) in
        let second = less.fewer l c (ap (λ z. slice_get (kids_in new z) l) (sym same) ∙ at') in
        less.source_once k l (forest.arena.once place (less.source k) (less.source l) c first second)
    | inr other ↦
        let stay = kids_stay old new i (less.others i other) in
        forest.arena.once i k l c (ap (λ z. slice_get z k) (sym stay) ∙ at) (ap (λ z. slice_get z l) (sym stay) ∙ at')
  ]

  pub less_forest : IsForest new
  less_forest = record {
    arena = record {
      depth = forest.arena.depth;
      first = forest.arena.first;
      shallow = forest.arena.shallow;
      deeper = λ i k c at. let was = was_child i k c at in forest.arena.deeper i was.0 c was.1;
      up = less_up;
      once = less_once;
      root = less.above;
    };
    root = less.root;
    rising = λ i. elim (cases_eq i place) [
      | inl same ↦ subst (λ z. IsStrictlyIncreasing (label_in new z)) (sym same) less.rises
      | inr other ↦ subst IsStrictlyIncreasing (sym (label_stays old new i (less.others i other))) (forest.rising i)
    ];
  }

  -- what was no child is none
  pub less_orphan : (c : ℕ) → IsOrphan old c → IsOrphan new c
  less_orphan c none i k at = let was = was_child i k c at in none i was.0 was.1

  less_at : IsChangedAt most_levels (λ i. Unit {0}) (label_in old) (kids_in old) (parent_in old) (label_in new) (kids_in new) (parent_in new) place
  less_at = record {
    old = forest.arena;
    new = less_forest.arena;
    stays = λ i k c is at. tt;
    labels = λ i is other. label_stays old new i (less.others i other);
    children = λ i is other. kids_stay old new i (less.others i other);
  }

  -- the trees of other nodes stay, where the place is no child
  pub less_apart : IsOrphan old place → (i : ℕ) → i ≢ place → tree_in new i ≡ tree_in old i
  less_apart none i other = apart most_levels (λ z. Unit {0}) (label_in old) (kids_in old) (parent_in old) (label_in new) (kids_in new) (parent_in new) place less_at none i tt other

  -- the node's new tree
  pub less_place : tree_in new place ≡ record { label = label_in new place; below = row_by (tree_in old) (kids_in new place) }
  less_place =
      rolled_out new less_forest place
      ∙ ap (λ r. record { label = label_in new place; below = r }) (below_changed most_levels (λ z. Unit {0}) (label_in old) (kids_in old) (parent_in old) (label_in new) (kids_in new) (parent_in new) place less_at tt (kids_in new place)
      (λ k c at. (less.source k, less.fewer k c at)))

  -- its children's trees stay
  pub less_child : (k c : ℕ) → slice_get (kids_in old place) k ≡ Some c → tree_in new c ≡ tree_in old c
  less_child k c at =
      let row = below_changed most_levels (λ z. Unit {0}) (label_in old) (kids_in old) (parent_in old) (label_in new) (kids_in new) (parent_in new) place less_at tt (c ∷ []) (λ m d there. (k, at ∙ only m d there)) in
      let both : Some (tree_in new c) ≡ Some (tree_in old c) = ap (λ r. tree_of r 0) row in
      cc
    where
      only : (m d : ℕ) → slice_get (c ∷ []) m ≡ Some d → Some c ≡ Some d
      only zero d there = there
      only (suc m) d there = cc

  -- and that of the root
  pub less_root : (f : LabelTree → LabelTree) → record { label = label_in new place; below = row_by (tree_in old) (kids_in new place) } ≡ f (tree_in old place) → (p : List ℕ)
      → place_from (kids_in old) 0 p ≡ Some place → tree_in new 0 ≡ edit_at p f (tree_in old 0)
  less_root f is p at = edited most_levels (λ z. Unit {0}) (label_in old) (kids_in old) (parent_in old) (label_in new) (kids_in new) (parent_in new) place less_at f (less_place ∙ is) p 0 tt at

-- a slot that was written, where its parent is the same
module _ (old new : Slab Slot) (place : ℕ) (l cs : List ℕ) (forest : IsForest old) (change : IsChanged old new place l cs (parent_in old place)) where
  parents_stay : (i : ℕ) → parent_in new i ≡ parent_in old i
  parents_stay i = elim (cases_eq i place) [
    | inl same ↦ ap (parent_in new) same ∙ change.parent ∙ ap (parent_in old) (sym same)
    | inr other ↦ parent_stays old new i (change.others i other)
  ]

  root_stays : ContainsKey new 0
  root_stays = elim (cases_eq 0 place) [
    | inl same ↦ subst (ContainsKey new) (sym same) change.here
    | inr other ↦ slot_stays old new 0 (change.others 0 other) forest.root
  ]

  pub written : (source : ℕ → ℕ) → ((k m : ℕ) → source k ≡ source m → k ≡ m) → ((k c : ℕ) → slice_get cs k ≡ Some c → slice_get (kids_in old place) (source k) ≡ Some c) → IsStrictlyIncreasing l → IsLess old new place
  written source once fewer rises = record {
    others = change.others;
    source = source;
    source_once = once;
    fewer = λ k c at. fewer k c (ap (λ z. slice_get z k) (sym change.children) ∙ at);
    up = λ i k at. change.parent;
    above = parents_stay 0 ∙ forest.arena.root;
    root = root_stays;
    rises = subst IsStrictlyIncreasing (sym change.label) rises;
  }

-- a slot that has another label
module _ (old new : Slab Slot) (place : ℕ) (l : List ℕ) (forest : IsForest old) (change : IsChanged old new place l (kids_in old place) (parent_in old place)) (rises : IsStrictlyIncreasing l) where
  relabelled : IsLess old new place
  relabelled = written old new place l (kids_in old place) forest change (λ k. k) (λ k m same. same) (λ k c at. at) rises

  pub relabelled_forest : IsForest new
  relabelled_forest = less_forest old new place forest relabelled

  pub relabelled_tree : (f : List ℕ → List ℕ) → l ≡ f (label_in old place) → (p : List ℕ) → place_from (kids_in old) 0 p ≡ Some place → tree_in new 0 ≡ edit_at p (λ t. record t { label = f t.label }) (tree_in old 0)
  relabelled_tree f is p at =
      let t : LabelTree = record { label = label_in old place; below = row_by (tree_in old) (kids_in old place) } in
      let rolled : tree_in old place ≡ t = rolled_out old forest place in
      less_root old new place forest relabelled (λ t. record t { label = f t.label })
      (ap (λ z. record { label = z; below = row_by (tree_in old) (kids_in new place) }) (change.label ∙ is) ∙ ap (λ z. record { label = f (label_in old place); below = row_by (tree_in old) z }) change.children
      ∙ ap (λ (t : LabelTree). let u : LabelTree = record t { label = f t.label } in u) (sym rolled)) p at

-- where a slot has the same children, each node has
pub kids_kept : (old new : Slab Slot) (place : ℕ) (l : List ℕ) (above : Option ℕ) → IsChanged old new place l (kids_in old place) above → kids_in new ≡ kids_in old
kids_kept old new place l above change = λ x i. (elim (cases_eq i place) as (λ _. kids_in new i ≡ kids_in old i) [
  | inl same ↦ ap (kids_in new) same ∙ change.children ∙ ap (kids_in old) (sym same)
  | inr other ↦ kids_stay old new i (change.others i other)
]) x

-- a slot that is as it was
module _ (old new : Slab Slot) (place : ℕ) (change : IsChanged old new place (label_in old place) (kids_in old place) (parent_in old place)) where
  same_labels : label_in new ≡ label_in old
  same_labels = λ x i. (elim (cases_eq i place) as (λ _. label_in new i ≡ label_in old i) [
    | inl same ↦ ap (label_in new) same ∙ change.label ∙ ap (label_in old) (sym same)
    | inr other ↦ label_stays old new i (change.others i other)
  ]) x

  pub same_kids : kids_in new ≡ kids_in old
  same_kids = kids_kept old new place (label_in old place) (parent_in old place) change

  pub same_tree : tree_in new ≡ tree_in old
  same_tree = ap (λ f. tree_to f (kids_in new) most_levels) same_labels ∙ ap (λ f. tree_to (label_in old) f most_levels) same_kids

  pub same_forest : IsForest old → IsForest new
  same_forest forest = relabelled_forest old new place (label_in old place) forest change (forest.rising place)

  pub same_table : IsTable old → IsTable new
  same_table table = record {
    forest = same_forest table.forest;
    counted = ap (λ f. count_of (f 0)) same_tree ∙ table.counted ∙ sym change.count;
    in_limit = omega (arith, change.count, table.in_limit);
  }

-- of a whole table, a slot that has another label
module _ (old new : Slab Slot) (place : ℕ) (l : List ℕ) (table : IsTable old) (change : IsChanged old new place l (kids_in old place) (parent_in old place)) (rises : IsStrictlyIncreasing l)
    (f : List ℕ → List ℕ) (is : l ≡ f (label_in old place)) (p : List ℕ) (at : place_from (kids_in old) 0 p ≡ Some place) where
  pub table_relabelled : IsTable new
  table_relabelled = record {
    forest = relabelled_forest old new place l table.forest change rises;
    counted =
        let tree = relabelled_tree old new place l table.forest change rises f is p at in
        let there = node_there old table.forest p place (sym at) in
        let count = count_of-edit_at p (λ t. record t { label = f t.label }) (tree_in old 0) (tree_in old place) 0 there (omega arith) in
        ap count_of tree ∙ omega (arith, count, table.counted, change.count);
    in_limit = omega (arith, change.count, table.in_limit);
  }

-- a table's tree is within the limit
pub tree_in_limit : (slots : Slab Slot) → IsTable slots → count_of (tree_in slots 0) ≤ MOST_NODES
tree_in_limit slots table = omega (arith, table.counted, table.in_limit)

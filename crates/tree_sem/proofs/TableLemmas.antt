-- What a table says of its nodes.
use Rattle.std.proofs.Common.{◌≡◌, ℕ, ◌<◌, List, [], ◌∷◌, length, take, Option, Some, None, IsSome, IfSome, Result, IfOk, option_map, option_and_then, slice_get, refl, sym, ap, ◌∙◌, subst, inl, inr, arith}
use Rattle.std.specs.List.Sorted.{IsStrictlyIncreasing}
use Rattle.std.proofs.Math.Seq.{take-length}
use Rattle.slab.specs.Slab.{Slab, get, ContainsKey}
use Rattle.tree_sem.specs.declared.slots.Slot.{Slot}
use Rattle.tree_sem.specs.declared.tree_fault.TheConstants.{MOST_NODES}
use Rattle.tree_sem.specs.declared.tree_fault.TreeFault.{TreeFault}
use Rattle.tree_sem.specs.Trees.{no_nodes, node, LabelTree, leaf, node_at, label_at, length_of}
use Rattle.tree_sem.specs.Nodes.{AllRise}
use Rattle.tree_sem.specs.Arena.{row_by, place_from}
use Rattle.tree_sem.specs.Table.{kids_in, label_in, parent_in, tree_in, most_levels, IsForest, IsTable}
use Rattle.tree_sem.proofs.ArenaLemmas.{unrolled, node_at-tree_to, last_step, length_of-row_by}
use Rattle.tree_sem.proofs.CountLemmas.{length-node_at, length_of-nodes_of}

pub most_levels_are : most_levels ≡ MOST_NODES
unfolding most_levels
most_levels_are = refl

-- a slot with a parent is there
pub with_parent : (slots : Slab Slot) (i j : ℕ) → parent_in slots i ≡ Some j → ContainsKey slots i
with_parent slots i j at = elim (get slots i) as (λ o. option_and_then (λ (s : Slot). s.parent) o ≡ Some j → IsSome o) [ None ↦ λ e. cc | Some s ↦ λ e. refl ] at

module _ (slots : Slab Slot) (forest : IsForest slots) where
  -- a node's tree is its label over its children's trees
  pub rolled_out : (i : ℕ) → tree_in slots i ≡ record { label = label_in slots i; below = row_by (tree_in slots) (kids_in slots i) }
  rolled_out = unrolled (label_in slots) (kids_in slots) (parent_in slots) most_levels forest.arena

  -- a child is there
  pub child_there : (i k c : ℕ) → slice_get (kids_in slots i) k ≡ Some c → ContainsKey slots c
  child_there i k c at = with_parent slots c i (forest.arena.up i k c at)

  -- and what a path leads to
  pub place_there : (p : List ℕ) (j : ℕ) → place_from (kids_in slots) 0 p ≡ Some j → ContainsKey slots j
  place_there p j at = elim (last_step (label_in slots) (kids_in slots) (parent_in slots) most_levels forest.arena p 0 j at) [
    | inl same ↦ subst (ContainsKey slots) same forest.root
    | inr found ↦ child_there found.0 found.1 j found.2
  ]

  module _ (p : List ℕ) where
    pub no_node : None ≡ place_from (kids_in slots) 0 p → node_at p (tree_in slots 0) ≡ None
    no_node none = node_at-tree_to (label_in slots) (kids_in slots) (parent_in slots) most_levels forest.arena p 0 ∙ ap (option_map (tree_in slots)) (sym none)

    module _ (j : ℕ) (at : Some j ≡ place_from (kids_in slots) 0 p) where
      pub node_there : node_at p (tree_in slots 0) ≡ Some (tree_in slots j)
      node_there = node_at-tree_to (label_in slots) (kids_in slots) (parent_in slots) most_levels forest.arena p 0 ∙ ap (option_map (tree_in slots)) (sym at)

      pub label_there : label_at p (tree_in slots 0) ≡ Some (label_in slots j)
      label_there = rw node_there (ap (λ (t : LabelTree). Some t.label) (rolled_out j))

      pub kids_there : length_of (tree_in slots j).below ≡ length (kids_in slots j)
      kids_there = rw (rolled_out j) (length_of-row_by (tree_in slots) (kids_in slots j))

      pub child_number : (r : Result ℕ TreeFault) → IfOk r (λ k. k ≡ length (kids_in slots j)) → IfOk r (λ k. IfSome (node_at p (tree_in slots 0)) (λ n. k ≡ length_of n.below))
      child_number r is = let has : IfOk r (λ k. k ≡ length_of (tree_in slots j).below) = rw kids_there is in rw node_there has

      pub children_there : option_map (λ n. length_of n.below) (node_at p (tree_in slots 0)) ≡ Some (length (kids_in slots j))
      children_there = rw node_there (ap Some kids_there)

pub few_children : (slots : Slab Slot) → IsTable slots → (p : List ℕ) (j : ℕ) → Some j ≡ place_from (kids_in slots) 0 p → length (kids_in slots j) < MOST_NODES
few_children slots table p j at =
    let some = length-node_at p (tree_in slots 0) (tree_in slots j) (node_there slots table.forest p j at) in
    omega (arith, some, length_of-nodes_of (tree_in slots j).below, kids_there slots table.forest p j at, table.counted, table.in_limit)

-- a node that is missing isn't there
pub not_there : {X : Type 0} (o : Option X) → o ≡ None → IsSome o → ⊥
not_there {X = X} o none is = let never : IsSome {T = X} None = rw none at is in cc

-- what a walk over a whole path found
pub walked : (slots : Slab Slot) (p : List ℕ) (n : ℕ) (o : Option ℕ) → n ≡ length p → o ≡ place_from (kids_in slots) 0 (take n p) → o ≡ place_from (kids_in slots) 0 p
walked slots p n o all is =
    let whole : take n p ≡ p = rw all (take-length p) in
    is ∙ rw whole

-- the labels rise
pub all_rise : (slots : Slab Slot) → IsForest slots → AllRise (tree_in slots 0)
all_rise slots forest v label at = by (place_from (kids_in slots) 0 v) refl
  where
    by : (o : Option ℕ) → o ≡ place_from (kids_in slots) 0 v → IsStrictlyIncreasing label
    by None e = let none : label_at v (tree_in slots 0) ≡ None = ap (option_map (λ (n : LabelTree). n.label)) (no_node slots forest v e) in cc
    by (Some j) e =
        let some = label_there slots forest v j e in
        let same : label_in slots j ≡ label = cc in
        subst IsStrictlyIncreasing same (forest.rising j)

-- where the tree is a leaf, the root has no children
pub bare_leaf : (slots : Slab Slot) → IsForest slots → (l : List ℕ) → tree_in slots 0 ≡ leaf l → kids_in slots 0 ≡ []
bare_leaf slots forest l is = by (kids_in slots 0) (ap (λ (t : LabelTree). t.below) (sym (rolled_out slots forest 0) ∙ is))
  where
    by : (cs : List ℕ) → row_by (tree_in slots) cs ≡ no_nodes → cs ≡ []
    by [] none = refl
    by (c ∷ cs) none = cc

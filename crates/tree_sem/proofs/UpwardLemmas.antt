-- Nodes by their places, and the parents of such.
use Rattle.std.proofs.Common.{◌≡◌, ℕ, List, Some, None, option_map, refl, sym, ap, ◌∙◌, subst}
use Rattle.slab.specs.Slab.{Slab}
use Rattle.tree_sem.specs.declared.slots.Slot.{Slot}
use Rattle.tree_sem.specs.Paths.{parent_of}
use Rattle.tree_sem.specs.Arena.{place_from}
use Rattle.tree_sem.specs.Table.{kids_in, parent_in, path_in, tree_in, IsTable, IsPlace}
use Rattle.tree_sem.specs.TreeNodes.{TreeNode, node_of, parent_node}
use Rattle.tree_sem.proofs.PathLemmas.{parent_of-none, child_of_parent}
use Rattle.tree_sem.proofs.PlaceLemmas.{place_above, path_of_place}
use Rattle.tree_sem.proofs.TableLemmas.{no_node, node_there}

-- the node at a place, as a contract sees it
abbrev pub seen : Slab Slot → ℕ → TreeNode
seen slots i = record { tree = tree_in slots 0; path = path_in slots i }

module _ (slots : Slab Slot) (table : IsTable slots) (v : List ℕ) where
  pub view_missing : None ≡ place_from (kids_in slots) 0 v → node_of (tree_in slots 0) v ≡ None
  view_missing none = rw (no_node slots table.forest v none) refl

  -- what a path leads to is a place, and has this path
  pub placed : (i : ℕ) → place_from (kids_in slots) 0 v ≡ Some i → IsPlace slots i
  placed i at = record { table = table; leads = ap (place_from (kids_in slots) 0) (path_of_place slots table.forest v i at) ∙ at }

  pub view_there : (i : ℕ) → Some i ≡ place_from (kids_in slots) 0 v → node_of (tree_in slots 0) v ≡ Some (seen slots i)
  view_there i at =
      rw (node_there slots table.forest v i at)
      (ap (λ p. let n : TreeNode = record { tree = tree_in slots 0; path = p } in Some n) (sym (path_of_place slots table.forest v i (sym at))))

  -- the parent that a slot names is at the path without its last number
  parent_place : (i : ℕ) → place_from (kids_in slots) 0 v ≡ Some i → option_map (path_in slots) (parent_in slots i) ≡ parent_of v
  parent_place i at =
      elim (parent_of v) as (λ o. parent_of v ≡ o → option_map (path_in slots) (parent_in slots i) ≡ o) [
        | None ↦ λ e.
            let first : Some 0 ≡ Some i = sym (ap (place_from (kids_in slots) 0) (parent_of-none v e)) ∙ at in
            let root : 0 ≡ i = cc in
            ap (option_map (path_in slots)) (ap (parent_in slots) (sym root) ∙ table.forest.arena.root)
        | Some u ↦ λ e.
            let last = child_of_parent v u e in
            let above = place_above (kids_in slots) u last.0 0 i (sym (ap (place_from (kids_in slots) 0) last.1) ∙ at) in
            ap (option_map (path_in slots)) (table.forest.arena.up above.0 last.0 i above.2) ∙ ap Some (path_of_place slots table.forest u above.0 above.1)
      ] refl

module _ (slots : Slab Slot) (i : ℕ) (place : IsPlace slots i) where
  -- so it is the parent
  pub parent_view : parent_node (seen slots i) ≡ option_map (seen slots) (parent_in slots i)
  parent_view =
      rw (← parent_place slots place.table (path_in slots i) i place.leads)
      (elim (parent_in slots i) as (λ o. option_map (λ v. let m : TreeNode = record { tree = tree_in slots 0; path = v } in m) (option_map (path_in slots) o) ≡ option_map (seen slots) o) [
        | None ↦ refl
        | Some j ↦ refl
      ])

  pub parent_placed : (j : ℕ) → parent_in slots i ≡ Some j → IsPlace slots j
  parent_placed j up =
      let path : parent_of (path_in slots i) ≡ Some (path_in slots j) = sym (parent_place slots place.table (path_in slots i) i place.leads) ∙ ap (option_map (path_in slots)) up in
      let last = child_of_parent (path_in slots i) (path_in slots j) path in
      let above = place_above (kids_in slots) (path_in slots j) last.0 0 i (sym (ap (place_from (kids_in slots) 0) last.1) ∙ place.leads) in
      let both : Some above.0 ≡ Some j = sym (place.table.forest.arena.up above.0 last.0 i above.2) ∙ up in
      let same : above.0 ≡ j = cc in
      subst (IsPlace slots) same (placed slots place.table (path_in slots j) above.0 above.1)

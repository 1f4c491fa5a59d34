-- The current node of a tree that grows: its children, and its parent.
use Rattle.std.proofs.Common.{◌≡◌, ℕ, ◌-◌, List, [], ◌∷◌, ◌++◌, length, take, Some, None, option_and_then, slice_get, refl, sym, ap, ◌∙◌, length-append, length-take-le, arith}
use Rattle.slab.specs.Slab.{Slab}
use Rattle.tree_sem.specs.declared.slots.Slot.{Slot}
use Rattle.tree_sem.specs.Arena.{place_from}
use Rattle.tree_sem.specs.Growing.{IsGrowing}
use Rattle.tree_sem.specs.Paths.{parent_of}
use Rattle.tree_sem.specs.Table.{kids_in, parent_in, tree_in}
use Rattle.tree_sem.specs.Trees.{node_at}
use Rattle.tree_sem.proofs.PathLemmas.{parent_of-none, parent_of-take, child_of_parent}
use Rattle.tree_sem.proofs.PlaceLemmas.{place_from-append, place_above}
use Rattle.tree_sem.proofs.TableLemmas.{node_there}

module _ (slots : Slab Slot) (v : List ℕ) (place : ℕ) (grows : IsGrowing slots v place) where
  -- the current node is there
  pub current : node_at v (tree_in slots 0) ≡ Some (tree_in slots place)
  current = node_there slots grows.table.forest v place (sym grows.here)

  -- its child of a number
  pub child_place : (k : ℕ) → place_from (kids_in slots) 0 (v ++ k ∷ []) ≡ slice_get (kids_in slots place) k
  child_place k =
      place_from-append (kids_in slots) v (k ∷ []) 0 ∙ ap (option_and_then (λ j. place_from (kids_in slots) j (k ∷ []))) grows.here
      ∙ elim (slice_get (kids_in slots place) k) as (λ o. option_and_then (λ c. place_from (kids_in slots) c []) o ≡ o) [ None ↦ refl | Some c ↦ refl ]

  -- its parent
  pub parent_place : (m : ℕ) → parent_in slots place ≡ Some m → place_from (kids_in slots) 0 (take (length v - 1) v) ≡ Some m
  parent_place m up =
      elim (parent_of v) as (λ o. parent_of v ≡ o → place_from (kids_in slots) 0 (take (length v - 1) v) ≡ Some m) [
        | None ↦ λ e.
            let first : Some 0 ≡ Some place = sym (ap (place_from (kids_in slots) 0) (parent_of-none v e)) ∙ grows.here in
            let root : 0 ≡ place = cc in
            let never : None ≡ Some m = sym grows.table.forest.arena.root ∙ ap (parent_in slots) root ∙ up in
            cc
        | Some p ↦ λ e.
            let last = child_of_parent v p e in
            let above = place_above (kids_in slots) p last.0 0 place (sym (ap (place_from (kids_in slots) 0) last.1) ∙ grows.here) in
            let both : Some above.0 ≡ Some m = sym (grows.table.forest.arena.up above.0 last.0 place above.2) ∙ up in
            let same : above.0 ≡ m = cc in
            let long = ap length last.1 in
            let less : Some (take (length v - 1) v) ≡ Some p = sym (parent_of-take v (omega (arith, long, length-append p (last.0 ∷ [])))) ∙ e in
            let shorter : take (length v - 1) v ≡ p = cc in
            ap (place_from (kids_in slots) 0) shorter ∙ above.1 ∙ ap Some same
      ] refl

  -- the root has none
  pub no_parent : parent_in slots place ≡ None → v ≡ take (length v - 1) v
  no_parent none =
      elim (parent_of v) as (λ o. parent_of v ≡ o → v ≡ take (length v - 1) v) [
        | None ↦ λ e. let root = parent_of-none v e in rw root refl
        | Some p ↦ λ e.
            let last = child_of_parent v p e in
            let above = place_above (kids_in slots) p last.0 0 place (sym (ap (place_from (kids_in slots) 0) last.1) ∙ grows.here) in
            let never : Some above.0 ≡ None = sym (grows.table.forest.arena.up above.0 last.0 place above.2) ∙ none in
            cc
      ] refl

  -- so that it is the root
  pub at_root : parent_in slots place ≡ None → v ≡ []
  at_root none = not_longer v (ap length (no_parent none))
    where
      not_longer : (w : List ℕ) → length w ≡ length (take (length w - 1) w) → w ≡ []
      not_longer [] same = refl
      not_longer (k ∷ w) same = absurd (omega (arith, same, length-take-le (length (k ∷ w) - 1) (k ∷ w) (omega arith)))

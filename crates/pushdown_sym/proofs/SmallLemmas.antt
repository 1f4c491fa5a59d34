-- A small child's diagram, with the node's diagrams in the place of the atoms that it sees.
use Rattle.std.proofs.Common.{◌≡◌, ℕ, ◌<◌, Result, Ok, Err, IsErrAnd, arith, ap, ◌∙◌}
use Rattle.class_diagrams.specs.References.{Reference}
use Rattle.class_diagrams.specs.declared.faults.DiagramFault.{DiagramFault}
use Rattle.class_diagrams.specs.Trees.{Tree, branch}
use Rattle.class_diagrams.specs.Pairs.{size}
use Rattle.class_diagrams.specs.Arena.{tree_at, IsIn, Arena, IsArena}
use Rattle.class_diagrams.proofs.ArenaLemmas.{tree_at-further, IsIn-further}
use Rattle.diagram_ops.specs.Compositions.{tcompose, inner_results}
use Rattle.diagram_ops.specs.Steps.{Calculates, joined_tree, joined_results}
use Rattle.diagram_ops.proofs.StepLemmas.{calculates_same_error}
use Rattle.diagram_ops.proofs.ComposeLemmas.{low_failed, high_failed, both_bring, joined_whole}
use Rattle.pushdown_sym.specs.CellMap.{Entries, place_in, trees_in}
use Rattle.pushdown_sym.specs.Adding.{AreIn}
use Rattle.pushdown_sym.proofs.AddLemmas.{cells_same}

module _ (a : Arena) (cells : Entries) (j : ℕ) (f : Reference) (atom : ℕ) (low high : Reference) (arena : IsArena a) (inside : AreIn a.branches cells)
    (low_in : IsIn a.branches low) (high_in : IsIn a.branches high) (is : tree_at a.branches f ≡ branch atom (tree_at a.branches low) (tree_at a.branches high)) where
  abbrev seen : ℕ → Tree
  seen = trees_in a.branches cells j

  pub low_less : size (tree_at a.branches low) < size (tree_at a.branches f)
  low_less = rw is (omega arith)

  pub low_missed : (b : Arena) (r : Result Reference DiagramFault) (e : DiagramFault) → IsErrAnd r (λ x. x ≡ e)
      → Calculates a b (inner_results (tree_at a.branches low) (trees_in a.branches cells j)) (tcompose (tree_at a.branches low) (trees_in a.branches cells j)) (Err e)
      → Calculates a b (inner_results (tree_at a.branches f) (trees_in a.branches cells j)) (tcompose (tree_at a.branches f) (trees_in a.branches cells j)) r
  low_missed b r e same failed =
      calculates_same_error a b (inner_results (tree_at a.branches f) seen) (tcompose (tree_at a.branches f) seen) r e same
      (low_failed a f seen atom low high arena low_in high_in is b (tcompose (tree_at a.branches low) seen) (tcompose (tree_at a.branches f) seen) e failed)

  module _ (b : Arena) (l : Reference)
      (first : Calculates a b (inner_results (tree_at a.branches low) (trees_in a.branches cells j)) (tcompose (tree_at a.branches low) (trees_in a.branches cells j)) (Ok l)) where
    abbrev later : ℕ → Tree
    later = trees_in b.branches cells j

    seen_same : trees_in b.branches cells j ≡ trees_in a.branches cells j
    seen_same = λ i. cells_same a.branches b.branches cells first.brings.stays inside i j

    pub high_there : IsIn b.branches high
    high_there = IsIn-further a.branches b.branches high first.brings.stays high_in

    pub high_less : size (tree_at b.branches high) < size (tree_at a.branches f)
    high_less = rw (tree_at-further a.branches b.branches high first.brings.stays high_in, is) (omega arith)

    pub high_missed : (c : Arena) (r : Result Reference DiagramFault) (e : DiagramFault) → IsErrAnd r (λ x. x ≡ e)
        → Calculates b c (inner_results (tree_at b.branches high) (trees_in b.branches cells j)) (tcompose (tree_at b.branches high) (trees_in b.branches cells j)) (Err e)
        → Calculates a c (inner_results (tree_at a.branches f) (trees_in a.branches cells j)) (tcompose (tree_at a.branches f) (trees_in a.branches cells j)) r
    high_missed c r e same failed =
        calculates_same_error a c (inner_results (tree_at a.branches f) seen) (tcompose (tree_at a.branches f) seen) r e same
        (high_failed a f seen atom low high arena low_in high_in is b l later seen_same first c (tcompose (tree_at b.branches high) later) (tcompose (tree_at a.branches f) seen) e failed)

    module _ (c : Arena) (h : Reference)
        (second : Calculates b c (inner_results (tree_at b.branches high) (trees_in b.branches cells j)) (tcompose (tree_at b.branches high) (trees_in b.branches cells j)) (Ok h)) where
      put_tree : (put : Reference) → put ≡ place_in cells j atom → tree_at c.branches put ≡ trees_in a.branches cells j atom
      put_tree put same =
          ap (tree_at c.branches) same
          ∙ tree_at-further a.branches c.branches (place_in cells j atom) (both_bring a f seen atom low high arena low_in high_in is b l later seen_same first c h second).stays (inside j atom)

      pub small_whole : (put : Reference) → put ≡ place_in cells j atom → (d : Arena) (r : Result Reference DiagramFault) → Calculates c d (joined_results c put l h) (joined_tree c put l h) r
          → Calculates a d (inner_results (tree_at a.branches f) (trees_in a.branches cells j)) (tcompose (tree_at a.branches f) (trees_in a.branches cells j)) r
      small_whole put same d r third =
          joined_whole a f seen atom low high arena low_in high_in is b l later seen_same first c h second put (put_tree put same) d r third

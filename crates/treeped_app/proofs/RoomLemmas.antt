-- A page that is read has few enough nodes, and the statements of a script add few enough, that no steps that are shown make too many.
use Rattle.std.proofs.Common.{◌≡◌, ℕ, ◌+◌, ◌≤◌, List, [], ◌∷◌, All, refl, sym, arith}
use Rattle.std.proofs.lemmas.List.Elements.{All-nil, All-cons}
use Rattle.std.proofs.lemmas.List.Sums.{sum-map, sum_by-cons}
use Rattle.tree_sem.specs.Trees.{LabelTree, count_of}
use Rattle.tree_sem.specs.declared.actions.Action.{Action}
use Rattle.tree_sem.specs.declared.actions.Action.TheVariants.{Classes, Inside, Beside}
use Rattle.html_subset.specs.declared.faults.TheConstants.{MOST_PAGE_NODES}
use Rattle.jq_stmts.specs.Sharp.{ExactStatement, wide_of, wides}
use Rattle.jq_stmts.specs.Statements.{Statement}
use Rattle.jq_exact.specs.Room.{added_by, HasRoom}
use Rattle.jq_parts.specs.Markup.{nodes_in}
use Rattle.jq_words.specs.declared.faults.TheConstants.{MOST_FOREST_NODES}
use Rattle.jq_read.specs.Limits.{trees_added, nodes_added, AreWithin}

-- ---- what each statement adds

added_nodes : (a : Action) → added_by a ≡ nodes_in (trees_added a)
added_nodes (Classes classes) = refl
added_nodes (Inside forest) = sym (sum-map count_of forest.tops)
added_nodes (Beside forest) = sym (sum-map count_of forest.tops)

each_adds : (es : List ExactStatement) (most : ℕ) → nodes_added (wides es) ≤ most → All (λ (s : ExactStatement). added_by s.action ≤ most) es
each_adds [] most few = All-nil (λ (s : ExactStatement). added_by s.action ≤ most)
each_adds (s ∷ es) most few =
    let all = sum_by-cons (λ (x : Statement). nodes_in (trees_added x.action)) (wide_of s) (wides es) in
    let own = added_nodes s.action in
    All-cons (λ (x : ExactStatement). added_by x.action ≤ most) s es (omega (arith, few, all, own)) (each_adds es most (omega (arith, few, all)))

pub has_room : (t : LabelTree) (es : List ExactStatement) → count_of t ≤ MOST_PAGE_NODES + 1 → AreWithin (wides es) → HasRoom t es
has_room t es few within = record { most = MOST_FOREST_NODES; each = each_adds es MOST_FOREST_NODES within.small; room = omega (arith, few) }

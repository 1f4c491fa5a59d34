-- How many nodes steps add at most.
use Rattle.std.proofs.Common.{◌≡◌, ℕ, zero, suc, ◌+◌, ◌*◌, ◌<◌, ◌≤◌, List, [], ◌∷◌, length, take, All, Option, Some, None, option_map, unwrap_or, IsSomeAnd, slice_get, refl, ap, arith}
use Rattle.std.specs.List.{sum_by}
use Rattle.std.proofs.Math.Nat.{suc-mul}
use Rattle.std.proofs.lemmas.List.{length-take-le}
use Rattle.std.proofs.lemmas.List.Elements.{All-head, All-tail}
use Rattle.std.proofs.lemmas.Nat.{row_fits}
use Rattle.std.proofs.lemmas.Option.{slice_get_within}
use Rattle.limits.specs.declared.budgets.TheConstants.{MOST_LIST}
use Rattle.tree_sem.specs.Actions.{act, add_trees}
use Rattle.tree_sem.specs.Paths.{parent_of}
use Rattle.tree_sem.specs.Series.{IsFullAt, IsTooLarge, end_by, tree_before}
use Rattle.tree_sem.specs.Trees.{LabelTree, node_at, edit_at, count_of}
use Rattle.tree_sem.specs.declared.actions.Action.{Action}
use Rattle.tree_sem.specs.declared.actions.Action.TheVariants.{Classes, Inside, Beside}
use Rattle.tree_sem.specs.declared.actions.Step.{Step}
use Rattle.tree_sem.proofs.CountLemmas.{count_of-add_classes, count_of-add_trees}
use Rattle.tree_sem.proofs.EditLemmas.{edit_at-none}
use Rattle.jq_sem.specs.Reachability.{after_statement}
use Rattle.jq_stmts.specs.Sharp.{ExactStatement, wides}
use Rattle.jq_exact.specs.Exact.{IsLegalExactly, after_exact_step}
use Rattle.jq_exact.specs.Room.{added_by, HasRoom}

trees_count : (tops : List LabelTree) (p : List ℕ) (t : LabelTree) → count_of (edit_at p (add_trees tops) t) ≤ count_of t + sum_by count_of tops
trees_count tops p t = elim (node_at p t) as (λ o. node_at p t ≡ o → count_of (edit_at p (add_trees tops) t) ≤ count_of t + sum_by count_of tops) [
  | None ↦ λ e. let same = ap count_of (edit_at-none p (add_trees tops) t e) in omega (arith, same)
  | Some s ↦ λ e. let count = count_of-add_trees p tops t s e in omega (arith, count)
] refl

act_count : (a : Action) (v : List ℕ) (t : LabelTree) → count_of (act a v t) ≤ count_of t + added_by a
act_count (Classes classes) v t = let same = count_of-add_classes v classes t in omega (arith, same)
act_count (Inside forest) v t = trees_count forest.tops v t
act_count (Beside forest) v t =
    elim (parent_of v) as (λ o. count_of (unwrap_or (option_map (λ p. edit_at p (add_trees forest.tops) t) o) t) ≤ count_of t + sum_by count_of forest.tops) [
      | None ↦ omega arith
      | Some p ↦ trees_count forest.tops p t
    ]

module _ (m : ℕ) where
  abbrev AreSmall : List ExactStatement → Type 0
  AreSmall stmts = All (λ (s : ExactStatement). added_by s.action ≤ m) stmts

  statement_count : (stmts : List ExactStatement) → AreSmall stmts → (n : ℕ) (v : List ℕ) (t : LabelTree) → count_of (after_statement (slice_get (wides stmts) n) v t) ≤ count_of t + m
  statement_count [] small n v t = omega arith
  statement_count (s ∷ stmts) small zero v t =
      let count = act_count s.action v t in
      let few = All-head (λ (x : ExactStatement). added_by x.action ≤ m) s stmts small in
      omega (arith, count, few)
  statement_count (s ∷ stmts) small (suc n) v t = statement_count stmts (All-tail (λ (x : ExactStatement). added_by x.action ≤ m) s stmts small) n v t

  steps_count : (stmts : List ExactStatement) → AreSmall stmts → (steps : List Step) (t : LabelTree) → count_of (end_by after_exact_step t stmts steps) ≤ count_of t + length steps * m
  steps_count stmts small [] t = omega arith
  steps_count stmts small (step ∷ steps) t =
      let first = statement_count stmts small step.stmt step.at t in
      let others = steps_count stmts small steps (after_exact_step t stmts step) in
      omega (arith, first, others, suc-mul (length steps) m)

there : (o : Option Step) (P : Step → Type 0) → IsSomeAnd o P → (s : Step) × (o ≡ Some s) × P s
there None P is = absurd is
there (Some s) P is = (s, refl, is)

-- no step of so few makes too many nodes
pub never_full : (page : LabelTree) (stmts : List ExactStatement) (steps : List Step) (i : ℕ) → HasRoom page stmts → length steps ≤ MOST_LIST → IsFullAt IsLegalExactly after_exact_step page stmts steps i → ⊥
never_full page stmts steps i has few full =
    let old = tree_before after_exact_step page stmts steps i in
    let (step, at, is) = there (slice_get steps i) (λ (e : Step). IsLegalExactly old stmts e × IsTooLarge after_exact_step old stmts e) full.here in
    let within : i < length steps = slice_get_within steps i step at in
    let long : length (take i steps) ≡ i = length-take-le i steps (omega (arith, within)) in
    let before = steps_count has.most stmts has.each (take i steps) page in
    let count = ap (λ n. n * has.most) long in
    let behind = statement_count has.most stmts has.each step.stmt step.at old in
    let room = has.room in
    let rows = row_fits i has.most MOST_LIST has.most (omega (arith, within, few)) (omega arith) in
    let large = is.1 in
    absurd (omega (arith, before, count, behind, room, rows, large))

-- Lists of rule steps: what they leave, and what they added.
use Rattle.std.proofs.Common.{◌≡◌, ℕ, ◌+◌, List, [], ◌∷◌, ◌++◌, fold, Option, Some, None, option_map, option_and_then, unwrap_or, refl, ap, ◌∙◌, inl, inr, arith, append_assoc}
use Rattle.std.specs.Prelude.{slice_get}
use Rattle.tree_sem.specs.declared.actions.Action.{Action}
use Rattle.tree_sem.specs.declared.actions.Action.TheVariants.{Classes, Inside, Beside}
use Rattle.tree_sem.specs.Trees.{Row, no_nodes, node, LabelTree, tree_of, length_of, push_tree, node_at, children_at, edit_at}
use Rattle.tree_sem.specs.Actions.{add_trees}
use Rattle.tree_sem.specs.Embedding.{IsWithin}
use Rattle.tree_sem.proofs.RowLemmas.{there}
use Rattle.tree_sem.proofs.EditLemmas.{node_at-edit_at_below}
use Rattle.guard_sem.specs.declared.rules.Rule.{Rule}
use Rattle.guard_sem.specs.Rules.{RuleStep, taken, after_rule, IsLegal, after_step, end_of, AreLegal}
use Rattle.guard_sem.proofs.HoldingLemmas.{Holds-node}
use Rattle.guard_simplify.proofs.PushedTrees.{shifted}
use Rattle.guard_simplify.specs.Auxiliaries.{tops_of, forest_of, Place}
use Rattle.guard_simplify.specs.Law.{IsNew, IsAdded}
use Rattle.tree_sem.specs.Nodes.{IsNode}
use Rattle.tree_sem.specs.Growth.{Grows}
use Rattle.tree_sem.proofs.GrowthLemmas.{grows_at, grows_itself, grows_both, add_classes_grows, add_trees_grows}

module _ (rules : List Rule) where
  pub rule_end-append : (t : LabelTree) (a b : List RuleStep) → end_of t rules (a ++ b) ≡ end_of (end_of t rules a) rules b
  rule_end-append t [] b = refl
  rule_end-append t (x ∷ a) b = rule_end-append (after_step t rules x) a b

  pub rule_legal-append : (t : LabelTree) (a b : List RuleStep) → AreLegal t rules a → AreLegal (end_of t rules a) rules b → AreLegal t rules (a ++ b)
  rule_legal-append t [] b la lb = lb
  rule_legal-append t (x ∷ a) b la lb = (la.0, rule_legal-append (after_step t rules x) a b la.1 lb)

  taken_grows : (a : Action) (w : List ℕ) (t : LabelTree) → Grows t (edit_at w (taken a) t)
  taken_grows (Classes classes) w t = add_classes_grows classes w t
  taken_grows (Inside forest) w t = add_trees_grows forest.tops w t
  taken_grows (Beside forest) w t = add_trees_grows forest.tops w t

  pub after_grows : (t : LabelTree) (step : RuleStep) → Grows t (after_step t rules step)
  after_grows t step = elim (slice_get rules step.rule) as (λ o. Grows t (after_rule o step.at t)) [
    | None ↦ grows_itself t
    | Some r ↦ taken_grows r.action step.at t
  ]

  pub end_grows : (t : LabelTree) (steps : List RuleStep) → Grows t (end_of t rules steps)
  end_grows t [] = grows_itself t
  end_grows t (step ∷ steps) = grows_both t (after_step t rules step) (end_of (after_step t rules step) rules steps) (after_grows t step) (end_grows (after_step t rules step) steps)

  -- what was added stays added
  pub added_more : (steps more : List RuleStep) (t : LabelTree) (p : Place) (w : List ℕ) → IsAdded t rules steps p w → IsAdded t rules (steps ++ more) p w
  added_more [] more t p w added = absurd added
  added_more (step ∷ steps) more t p w added = elim added [ inl new ↦ inl new | inr later ↦ inr (added_more steps more (after_step t rules step) p w later) ]

  -- what the last step adds
  pub added_last : (steps : List RuleStep) (step : RuleStep) (t : LabelTree) (p : Place) (w : List ℕ) → IsNew (end_of t rules steps) rules step p w → IsAdded t rules (steps ++ step ∷ []) p w
  added_last [] step t p w new = inl new
  added_last (first ∷ steps) step t p w new = inr (added_last steps step (after_step t rules first) p w new)

  -- the children of a node that was added were added
  pub added_child : (steps : List RuleStep) (t : LabelTree) (i : ℕ) (q : List ℕ) (k : ℕ) (w : List ℕ) (r : Rule) → slice_get rules i ≡ Some r → IsNode (forest_of r) (q ++ k ∷ [])
      → IsAdded t rules steps (i, q) w → IsAdded t rules steps (i, q ++ k ∷ []) (w ++ k ∷ [])
  added_child [] t i q k w r rule is added = absurd added
  added_child (step ∷ steps) t i q k w r rule is added = elim added [
    | inl (same, r', rule', is', m, rest, split, place) ↦
        inl (same, r, rule, is, m, rest ++ k ∷ [], ap (λ z. z ++ k ∷ []) split, ap (λ z. z ++ k ∷ []) place ∙ append_assoc step.at ((unwrap_or (children_at step.at t) 0 + m) ∷ rest) (k ∷ []))
    | inr later ↦ inr (added_child steps (after_step t rules step) i q k w r rule is later)
  ]

  -- a tree of more trees that were pushed
  pushed_at : (tops : List LabelTree) (r : Row) (m : ℕ) → tree_of (fold push_tree r tops) (length_of r + m) ≡ tree_of (fold push_tree no_nodes tops) m
  pushed_at tops no_nodes m = ap (tree_of (fold push_tree no_nodes tops)) (omega arith)
  pushed_at tops (node l below next) m = ap (tree_of (fold push_tree (node l below next) tops)) (omega arith) ∙ shifted tops l below next (length_of next + m) ∙ pushed_at tops next m

  -- a node of the forest, right after the step that adds it
  new_there : (step : RuleStep) (t : LabelTree) (p : Place) (w : List ℕ) (r : Rule) (s : LabelTree) → IsLegal t rules step → slice_get rules p.0 ≡ Some r → node_at p.1 (forest_of r) ≡ Some s
      → step.rule ≡ p.0 → (m : ℕ) (q : List ℕ) → p.1 ≡ m ∷ q → w ≡ step.at ++ (unwrap_or (children_at step.at t) 0 + m) ∷ q → node_at w (after_step t rules step) ≡ Some s
  new_there step t p w r s legal rule at same m q split place =
      let here = there (node_at step.at t) (Holds-node t legal.0.guard step.at legal.2) in
      let count : unwrap_or (children_at step.at t) 0 ≡ length_of here.0.below = ap (λ (o : Option LabelTree). unwrap_or (option_map (λ n. length_of n.below) o) 0) here.1 in
      let rule' : slice_get rules step.rule ≡ Some r = ap (slice_get rules) same ∙ rule in
      let at' : node_at (m ∷ q) (forest_of r) ≡ Some s = rw split at at in
      rw (place, count, rule') (in_action r.action step.at t here.0 m q s here.1 at')
    where
      in_action : (a : Action) (v : List ℕ) (t x : LabelTree) (m : ℕ) (q : List ℕ) (s : LabelTree) → node_at v t ≡ Some x → option_and_then (node_at q) (tree_of (fold push_tree no_nodes (tops_of a)) m) ≡ Some s
          → node_at (v ++ (length_of x.below + m) ∷ q) (edit_at v (taken a) t) ≡ Some s
      in_action (Classes classes) v t x m q s here at = cc
      in_action (Inside forest) v t x m q s here at = node_at-edit_at_below v ((length_of x.below + m) ∷ q) (add_trees forest.tops) t x here ∙ ap (option_and_then (node_at q)) (pushed_at forest.tops x.below m) ∙ at
      in_action (Beside forest) v t x m q s here at = node_at-edit_at_below v ((length_of x.below + m) ∷ q) (add_trees forest.tops) t x here ∙ ap (option_and_then (node_at q)) (pushed_at forest.tops x.below m) ∙ at

  -- what was added is there, with all that is below it in the forest
  pub added_node : (steps : List RuleStep) (t : LabelTree) (p : Place) (w : List ℕ) (r : Rule) (s : LabelTree) → AreLegal t rules steps → slice_get rules p.0 ≡ Some r → node_at p.1 (forest_of r) ≡ Some s
      → IsAdded t rules steps p w → (x : LabelTree) × (node_at w (end_of t rules steps) ≡ Some x) × IsWithin s x
  added_node [] t p w r s legal rule at added = absurd added
  added_node (step ∷ steps) t p w r s legal rule at added = elim added [
    | inl (same, r', rule', is, m, q, split, place) ↦ grows_at (after_step t rules step) (end_of (after_step t rules step) rules steps) (end_grows (after_step t rules step) steps) w s (new_there step t p w r s legal.0 rule at same m q split place)
    | inr later ↦ added_node steps (after_step t rules step) p w r s legal.1 rule at later
  ]

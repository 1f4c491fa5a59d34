-- Trees that are reached by legal steps, and what statements on all nodes add to them.
use Rattle.std.proofs.Common.{◌≡◌, ℕ, List, [], ◌∷◌, ◌++◌, Some, option_map, Contains, sym, ap, ◌∙◌, subst}
use Rattle.std.specs.Prelude.{fold}
use Rattle.tp_base.proofs.ClassLemmas.{union_of-keeps_right}
use Rattle.tp_base.proofs.Lists.{at_Contains}
use Rattle.tree_sem.specs.declared.actions.Action.{Action}
use Rattle.tree_sem.specs.declared.actions.Action.TheVariants.{Classes, Inside, Beside}
use Rattle.tree_sem.specs.declared.actions.Step.{Step}
use Rattle.tree_sem.specs.Actions.{act, add_classes, add_trees}
use Rattle.tree_sem.specs.Growth.{Grows}
use Rattle.tree_sem.specs.Nodes.{IsNode}
use Rattle.tree_sem.specs.Trees.{LabelTree, leaf, tree_of, length_of, push_tree, node_at}
use Rattle.tree_sem.proofs.EditLemmas.{node_at-edit_at, tree_of-push_tree}
use Rattle.tree_sem.proofs.GrowthLemmas.{act_grows}
use Rattle.tree_sem.proofs.RowLemmas.{there}
use Rattle.jq_stmts.specs.Statements.{Statement}
use Rattle.jq_sem.specs.Reachability.{IsLegal, after_statement, after_step, end_of, AreLegal}
use Rattle.jq_sem.proofs.StepLemmas.{end_of-append, AreLegal-append}
use Rattle.lower_cover.specs.Outputs.{SelectsAll, Adds, Puts, IsGiven, IsPut}

module _ (stmts : List Statement) (page : LabelTree) where
  -- legal steps end in the tree
  abbrev pub IsReached : LabelTree → Type 0
  IsReached u = (steps : List Step) × AreLegal page stmts steps × (end_of page stmts steps ≡ u)

  -- so they do after one step more
  step_more : (u : LabelTree) (w : List ℕ) (s : Statement) → IsReached u → Contains stmts s → SelectsAll s → IsNode u w → IsReached (act s.action w u)
  step_more u w s reached among all is =
      let at = at_Contains stmts s among in
      let step : Step = record { stmt = at.0; at = w } in
      let legal : IsLegal u stmts step = rw at.1 (all u w is) in
      let legal' : AreLegal u stmts (step ∷ []) = (legal, tt) in
      let legal'' : AreLegal (end_of page stmts reached.0) stmts (step ∷ []) = subst (λ (z : LabelTree). AreLegal z stmts (step ∷ [])) (sym reached.2) legal' in
      let made : after_step u stmts step ≡ act s.action w u = ap (λ o. after_statement o w u) at.1 in (
        reached.0 ++ step ∷ [],
        AreLegal-append page stmts reached.0 (step ∷ []) reached.1 legal'',
        end_of-append page stmts reached.0 (step ∷ []) ∙ ap (λ z. after_step z stmts step) reached.2 ∙ made,
      )

  -- a reached tree that u grows to, where Q holds of the node at w
  pub record Grown (u : LabelTree) (w : List ℕ) (Q : LabelTree → Type 0) : Type 0 where
    pub tree : LabelTree
    pub reached : IsReached tree
    pub grows : Grows u tree
    pub node : LabelTree
    pub here : node_at w tree ≡ Some node
    pub holds : Q node

  added : (a : ℕ) (act' : Action) (x : LabelTree) (u : LabelTree) (w : List ℕ) → node_at w u ≡ Some x → Adds act' a → (y : LabelTree) × (node_at w (act act' w u) ≡ Some y) × Contains y.label a
  added a (Classes classes) x u w at adds =
      (add_classes classes x, node_at-edit_at w (add_classes classes) u ∙ ap (option_map (add_classes classes)) at, union_of-keeps_right x.label classes a adds)
  added a (Inside forest) x u w at adds = absurd adds
  added a (Beside forest) x u w at adds = absurd adds

  pub give : (u : LabelTree) (w : List ℕ) (a : ℕ) → IsReached u → IsNode u w → IsGiven stmts a → Grown u w (λ x. Contains x.label a)
  give u w a reached is (s, among, all, adds) =
      let at = there (node_at w u) is in
      let more = added a s.action at.0 u w at.1 adds in
      record {
        tree = act s.action w u;
        reached = step_more u w s reached among all is;
        grows = act_grows s.action w u;
        node = more.0;
        here = more.1;
        holds = more.2;
      }

  pushed : (m : List ℕ) (act' : Action) (x : LabelTree) (u : LabelTree) (w : List ℕ) → node_at w u ≡ Some x → Puts act' m
      → (y : LabelTree) × (node_at w (act act' w u) ≡ Some y) × (k : ℕ) × (tree_of y.below k ≡ Some (leaf m))
  pushed m (Classes classes) x u w at puts = absurd puts
  pushed m (Inside forest) x u w at puts = (
    add_trees forest.tops x,
    node_at-edit_at w (add_trees forest.tops) u ∙ ap (option_map (add_trees forest.tops)) at,
    length_of x.below,
    ap (λ (tops : List LabelTree). tree_of (fold push_tree x.below tops) (length_of x.below)) puts ∙ tree_of-push_tree x.below (leaf m),
  )
  pushed m (Beside forest) x u w at puts = absurd puts

  pub put : (u : LabelTree) (w m : List ℕ) → IsReached u → IsNode u w → IsPut stmts m → Grown u w (λ x. (k : ℕ) × (tree_of x.below k ≡ Some (leaf m)))
  put u w m reached is (s, among, all, puts) =
      let at = there (node_at w u) is in
      let more = pushed m s.action at.0 u w at.1 puts in
      record {
        tree = act s.action w u;
        reached = step_more u w s reached among all is;
        grows = act_grows s.action w u;
        node = more.0;
        here = more.1;
        holds = (more.2, more.3);
      }

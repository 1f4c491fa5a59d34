-- The steps of rules are followed by simple steps.
use Rattle.std.proofs.Common.{◌≡◌, ◌⊎◌, ℕ, zero, suc, List, [], ◌∷◌, ◌++◌, fold, Option, Some, None, option_and_then, All, Contains, refl, sym, ◌∙◌, subst, inl, inr}
use Rattle.std.specs.Prelude.{slice_get}
use Rattle.std.proofs.lemmas.List.Elements.{All-contains}
use Rattle.tp_base.specs.Classes.{union_of}
use Rattle.tp_base.proofs.ClassLemmas.{Contains-union_of}
use Rattle.tp_base.proofs.Rising.{All-from_Contains}
use Rattle.tree_sem.specs.declared.actions.Action.{Action}
use Rattle.tree_sem.specs.declared.actions.Action.TheVariants.{Classes, Inside, Beside}
use Rattle.tree_sem.specs.Trees.{Row, no_nodes, node, LabelTree, leaf, tree_of, length_of, push_tree, node_at, edit_at, add_child}
use Rattle.tree_sem.specs.Actions.{add_classes, add_trees}
use Rattle.tree_sem.specs.Embedding.{IsWithin, IsImage}
use Rattle.tree_sem.proofs.RowLemmas.{there, node_at-append}
use Rattle.tree_sem.proofs.EditLemmas.{node_at-add_child_new}
use Rattle.tree_sem.proofs.ImageLemmas.{image_grows, edit_image, one_down}
use Rattle.tree_sem.proofs.WithinLemmas.{within_at, within_both, are_within_each, all_in, carried, image_node}
use Rattle.simple_core.specs.declared.rules.Local.{Local}
use Rattle.simple_core.specs.declared.system.System.{System}
use Rattle.simple_core.specs.Systems.{kind_label}
use Rattle.guard_sem.specs.Guards.{Guard}
use Rattle.guard_sem.specs.declared.rules.Rule.{Rule}
use Rattle.guard_sem.specs.Rules.{RuleStep, taken, IsLegal, after_step, end_of, AreLegal}
use Rattle.guard_sem.proofs.HoldingLemmas.{Holds-node, holds_image}
use Rattle.guard_sem.proofs.SelectorLemmas.{HasAtoms-more}
use Rattle.simple_core.specs.Reached.{IsLater}
use Rattle.simple_core.proofs.Steps.{later_itself, later_both, got_by_local, later_by_spawn}
use Rattle.guard_simplify.proofs.Adding.{Served, add, one_need}
use Rattle.guard_simplify.proofs.PushedTrees.{pushed_cases}
use Rattle.tree_sem.specs.Nodes.{HasAtom, HasAtoms}
use Rattle.tree_sem.proofs.NodeLemmas.{HasAtom-node, HasAtoms-none}
use Rattle.tree_sem.specs.Growth.{Grows}
use Rattle.tree_sem.proofs.GrowthLemmas.{grows_at, HasAtom-grows}

All-union : (xs ys zs : List ℕ) → All (Contains zs) xs → All (Contains zs) ys → All (Contains zs) (union_of xs ys)
All-union xs ys zs a b = All-from_Contains (Contains zs) (union_of xs ys) (λ x is. elim ((Contains-union_of xs ys x).0 is) [
  | inl left ↦ All-contains (Contains zs) xs x a left
  | inr right ↦ All-contains (Contains zs) ys x b right
])

module _ (s : System) (at : Guard → ℕ) where
  -- the trees of a row are spawned by the atom a; a node with trees below it has an own atom that spawns them
  abbrev pub Spawned : Row → ℕ → Type 0
  Spawned no_nodes a = Unit {0}
  Spawned (node l below next) a = ((kind : ℕ) × (own : ℕ)
      × Contains s.child (record { needs = a; kind = kind }) × All (Contains (kind_label s kind)) l × ((below ≡ no_nodes) ⊎ Contains (kind_label s kind) own) × Spawned below own) × Spawned next a

  abbrev EachBelow : Row → LabelTree → List ℕ → Type 0
  EachBelow r u w = (j : ℕ) (t : LabelTree) → tree_of r j ≡ Some t → (l : ℕ) × (x : LabelTree) × (node_at (w ++ l ∷ []) u ≡ Some x) × IsWithin t x

  record GotRow (u : LabelTree) (w : List ℕ) (r : Row) : Type 0 where
    after : LabelTree
    later : IsLater s u after
    each : EachBelow r after w

  each_grows : (r : Row) (u u' : LabelTree) (w : List ℕ) → Grows u u' → EachBelow r u w → EachBelow r u' w
  each_grows r u u' w grows each j t is =
      let found = each j t is in
      let later = grows_at u u' grows (w ++ found.0 ∷ []) found.1 found.2 in
      (found.0, later.0, later.1, within_both t found.1 later.0 found.3 later.2)

  -- a node with the label of a kind, and what is below it in the row
  whole_node : (l klabel : List ℕ) (below : Row) (u : LabelTree) (w : List ℕ) (x : LabelTree) → node_at w u ≡ Some x → IsWithin (leaf klabel) x → All (Contains klabel) l → EachBelow below u w
      → IsWithin (record { label = l; below = below }) x
  whole_node l klabel below u w x is within labels each = (
    all_in l klabel x.label labels within.0,
    are_within_each below x.below (λ j t at.
        let found = each j t at in
        let split : option_and_then (node_at (found.0 ∷ [])) (Some x) ≡ Some found.1 = rw is at (sym (node_at-append w (found.0 ∷ []) u) ∙ found.2) in
        (found.0, found.1, child (tree_of x.below found.0) found.1 split, found.3)),
  )
    where
      child : (o : Option LabelTree) (y : LabelTree) → option_and_then (node_at []) o ≡ Some y → o ≡ Some y
      child None y e = cc
      child (Some z) y e = e

  no_row : (u : LabelTree) (w : List ℕ) (r : Row) → r ≡ no_nodes → GotRow u w r
  no_row u w r none = subst (λ z. GotRow u w z) (sym none) (record { after = u; later = later_itself s u; each = λ j t is. cc })

  own_atom : (u : LabelTree) (w klabel : List ℕ) (own : ℕ) → node_at w u ≡ Some (leaf klabel) → Contains klabel own → HasAtom u w own
  own_atom u w klabel own is mine = rw is mine

  -- the first tree and the others
  row_cases : (l : List ℕ) (below next : Row) (u : LabelTree) (w : List ℕ) (c : ℕ) (x : LabelTree) → node_at (w ++ c ∷ []) u ≡ Some x → IsWithin (record { label = l; below = below }) x
      → EachBelow next u w → EachBelow (node l below next) u w
  row_cases l below next u w c x is first others zero t at' =
      let same : record { label = l; below = below } ≡ t = cc in
      (c, x, is, subst (λ (z : LabelTree). IsWithin z x) same first)
  row_cases l below next u w c x is first others (suc j) t at' = others j t at'

  spawn_row : (r : Row) (a : ℕ) → Spawned r a → (u : LabelTree) (w : List ℕ) → HasAtom u w a → GotRow u w r
  spawn_row no_nodes a spawned u w has = no_row u w no_nodes refl
  spawn_row (node l below next) a spawned u w has =
      let kind = spawned.0.0 in
      let own = spawned.0.1 in
      let klabel = kind_label s kind in
      let here = there (node_at w u) (HasAtom-node u w a has) in
      let c = length_of here.0.below in
      let u1 : LabelTree = edit_at w (add_child klabel) u in
      let later1 : IsLater s u u1 = later_by_spawn s (record { needs = a; kind = kind }) spawned.0.2 u w has in
      let new : node_at (w ++ c ∷ []) u1 ≡ Some (leaf klabel) = node_at-add_child_new w klabel u here.0 here.1 in
      let inner : GotRow u1 (w ++ c ∷ []) below = elim spawned.0.4 [
        | inl none ↦ no_row u1 (w ++ c ∷ []) below none
        | inr mine ↦ spawn_row below own spawned.0.5 u1 (w ++ c ∷ []) (own_atom u1 (w ++ c ∷ []) klabel own new mine)
      ] in
      let later2 = later_both s u u1 inner.after later1 inner.later in
      let root = grows_at u1 inner.after inner.later.grows (w ++ c ∷ []) (leaf klabel) new in
      let whole = whole_node l klabel below inner.after (w ++ c ∷ []) root.0 root.1 root.2 spawned.0.3 inner.each in
      let rest : GotRow inner.after w next = spawn_row next a spawned.1 inner.after w (HasAtom-grows u inner.after later2.grows w a has) in
      let last = grows_at inner.after rest.after rest.later.grows (w ++ c ∷ []) root.0 root.1 in
      record {
        after = rest.after;
        later = later_both s u inner.after rest.after later2 rest.later;
        each = row_cases l below next rest.after w c last.0 last.1 (within_both (record { label = l; below = below }) root.0 last.0 whole last.2) rest.each;
      }

  -- each of the classes, by a rule of its own
  abbrev pub GivesEach : ℕ → List ℕ → Type 0
  GivesEach x [] = Unit {0}
  GivesEach x (c ∷ classes) = ((r : Local) × Contains s.local r × (r.needs ≡ x ∷ []) × (r.gives ≡ c)) × GivesEach x classes

  record GotClasses (u : LabelTree) (w : List ℕ) (classes : List ℕ) : Type 0 where
    after : LabelTree
    later : IsLater s u after
    fits : HasAtoms after w classes

  add_each : (classes : List ℕ) (x : ℕ) → GivesEach x classes → (u : LabelTree) (w : List ℕ) → HasAtom u w x → GotClasses u w classes
  add_each [] x gives u w has = record { after = u; later = later_itself s u; fits = HasAtoms-none u w (HasAtom-node u w x has) }
  add_each (c ∷ classes) x gives u w has =
      let r = gives.0.0 in
      let first = got_by_local s r gives.0.1 u w (rw gives.0.2 (one_need s at u w x has)) in
      let rest = add_each classes x gives.1 first.after w (HasAtom-grows u first.after first.later.grows w x has) in
      let has_c : HasAtom first.after w c = subst (λ z. HasAtom first.after w z) gives.0.3 first.has in
      record {
        after = rest.after;
        later = later_both s u first.after rest.after first.later rest.later;
        fits = HasAtoms-more rest.after w c classes (HasAtom-grows first.after rest.after rest.later.grows w c has_c) rest.fits;
      }

  -- a rule is in the system: its guard's formulas, and what its action does
  abbrev pub ActionServed : ℕ → Action → Type 0
  ActionServed x (Classes classes) = GivesEach x classes
  ActionServed x (Inside forest) = Spawned (fold push_tree no_nodes forest.tops) x
  ActionServed x (Beside forest) = Spawned (fold push_tree no_nodes forest.tops) x

  pub record RuleServed (r : Rule) : Type 0 where
    pub guard : Served s at r.guard
    pub action : ActionServed (at r.guard) r.action

  pub record Followed (u t : LabelTree) : Type 0 where
    pub after : LabelTree
    pub later : IsLater s u after
    pub within : IsWithin t after

  trees_within : (tops : List LabelTree) (s' x u : LabelTree) (w : List ℕ) → node_at w u ≡ Some x → IsWithin s' x → EachBelow (fold push_tree no_nodes tops) u w → IsWithin (add_trees tops s') x
  trees_within tops s' x u w is within each = (
    within.0,
    are_within_each (fold push_tree s'.below tops) x.below (λ j y at'. elim (pushed_cases tops s'.below j y at') [
      | inl old ↦ within_at s'.below x.below within.1 j y old
      | inr new ↦
          let found = each new.0 y new.1 in
          let split : option_and_then (node_at (found.0 ∷ [])) (Some x) ≡ Some found.1 = rw is at (sym (node_at-append w (found.0 ∷ []) u) ∙ found.2) in
          (found.0, found.1, one_down found.0 (tree_of x.below found.0) found.1 split, found.3)
    ]),
  )

  follow_trees : (tops : List LabelTree) (x : ℕ) → Spawned (fold push_tree no_nodes tops) x → (v w : List ℕ) (t u : LabelTree) → IsImage t u v w → HasAtom u w x
      → Followed u (edit_at v (add_trees tops) t)
  follow_trees tops x served v w t u image has =
      let got = spawn_row (fold push_tree no_nodes tops) x served u w has in
      let image' = image_grows t u v w image got.after got.later.grows in
      record {
        after = got.after;
        later = got.later;
        within = edit_image (add_trees tops) v w t got.after image'
            (λ s' x' at' there'.
            let found = image_node t got.after v w image' s' at' in
            let same : found.0 ≡ x' = cc in
            trees_within tops s' x' got.after w there' (subst (λ (z : LabelTree). IsWithin s' z) same found.2) got.each);
      }

  -- what the action makes of the tree is within what the steps make of a tree that it is within
  follow_action : (a : Action) (x : ℕ) → ActionServed x a → (v w : List ℕ) (t u : LabelTree) → IsImage t u v w → HasAtom u w x → Followed u (edit_at v (taken a) t)
  follow_action (Classes classes) x served v w t u image has =
      let got = add_each classes x served u w has in
      record {
        after = got.after;
        later = got.later;
        within = edit_image (add_classes classes) v w t got.after (image_grows t u v w image got.after got.later.grows)
            (λ s' x' at' there'. classes_within s' x' got.after at' there' (image_grows t u v w image got.after got.later.grows) got.fits);
      }
    where
      classes_within : (s' x' u' : LabelTree) → node_at v t ≡ Some s' → node_at w u' ≡ Some x' → IsImage t u' v w → HasAtoms u' w classes → IsWithin (add_classes classes s') x'
      classes_within s' x' u' at' there' image' fits =
          let found = image_node t u' v w image' s' at' in
          let same : found.0 ≡ x' = cc in
          let within' : IsWithin s' x' = subst (λ (z : LabelTree). IsWithin s' z) same found.2 in
          let fits' : All (Contains x'.label) classes = rw there' at fits in
          (All-union s'.label classes x'.label within'.0 fits', within'.1)
  follow_action (Inside forest) x served v w t u image has = follow_trees forest.tops x served v w t u image has
  follow_action (Beside forest) x served v w t u image has = follow_trees forest.tops x served v w t u image has

  follow_step : (rules : List Rule) → ((i : ℕ) (r : Rule) → slice_get rules i ≡ Some r → RuleServed r) → (step : RuleStep) (t u : LabelTree) → IsWithin t u → IsLegal t rules step
      → Followed u (after_step t rules step)
  follow_step rules served step t u within legal =
      let r = legal.0 in
      let mine = served step.rule r legal.1 in
      let v = step.at in
      let found = carried v t u within (Holds-node t r.guard v legal.2) in
      let w = found.0 in
      let got = add s at r.guard mine.guard u w (holds_image t u r.guard v w found.1 legal.2) in
      let done = follow_action r.action (at r.guard) mine.action v w t got.after (image_grows t u v w found.1 got.after got.later.grows) got.has in
      let here : Followed u (edit_at v (taken r.action) t) = record { after = done.after; later = later_both s u got.after done.after got.later done.later; within = done.within } in
      rw legal.1 here

  pub follow : (rules : List Rule) → ((i : ℕ) (r : Rule) → slice_get rules i ≡ Some r → RuleServed r) → (steps : List RuleStep) (t u : LabelTree) → IsWithin t u → AreLegal t rules steps
      → Followed u (end_of t rules steps)
  follow rules served [] t u within legal = record { after = u; later = later_itself s u; within = within }
  follow rules served (step ∷ steps) t u within legal =
      let first = follow_step rules served step t u within legal.0 in
      let rest = follow rules served steps (after_step t rules step) first.after first.within legal.1 in
      record { after = rest.after; later = later_both s u first.after rest.after first.later rest.later; within = rest.within }

-- The first half of the law: each list of rule steps is followed by simple steps.
use Rattle.std.proofs.Common.{◌≡◌, ℕ, List, [], ◌∷◌, ◌++◌, map, fold, Some, Contains, refl, sym, ap, subst, inl, inr, arith}
use Rattle.std.specs.Prelude.{slice_get}
use Rattle.std.specs.List.{flat_map}
use Rattle.std.proofs.lemmas.List.Elements.{Contains-append_left, Contains-append_right}
use Rattle.tp_base.proofs.Rising.{Contains-here, Contains-behind, Contains-cons, Contains-none}
use Rattle.tp_base.proofs.Lists.{Contains-at, Contains-flat_map, flat_map-Contains}
use Rattle.tree_sem.specs.declared.actions.Action.{Action}
use Rattle.tree_sem.specs.declared.actions.Action.TheVariants.{Classes, Inside, Beside}
use Rattle.tree_sem.specs.Trees.{LabelTree, no_nodes, push_tree}
use Rattle.tree_sem.specs.Order.{paths_of}
use Rattle.tree_sem.proofs.NodeLemmas.{Contains-map, map-Contains, Contains-paths_of, HasAtom-node}
use Rattle.tree_sem.proofs.WithinLemmas.{within_itself}
use Rattle.simple_core.specs.declared.system.System.{System}
use Rattle.guard_sem.specs.Guards.{Guard, somewhere, same_guard}
use Rattle.guard_sem.specs.Holding.{Holds}
use Rattle.guard_sem.specs.declared.rules.Rule.{Rule}
use Rattle.guard_sem.specs.Rules.{end_of}
use Rattle.guard_sem.proofs.SameGuards.{same_guard-sound, same_guard-itself}
use Rattle.guard_sem.proofs.HoldingLemmas.{Holds-node, holds_image, Holds-grows}
use Rattle.guard_sem.proofs.Deciding.{decide_holds}
use Rattle.guard_simplify.specs.Firsts.{different}
use Rattle.guard_simplify.specs.Auxiliaries.{tops_of, formulas, by_rule, seen}
use Rattle.guard_simplify.specs.Simplified.{atom_for, atom_of, classes_of, formula_locals, formula_downs, action_locals, seen_local, seen_down, system}
use Rattle.guard_simplify.specs.Law.{Follows}
use Rattle.guard_simplify.proofs.NumberLemmas.{different-Contains}
use Rattle.simple_core.specs.Reached.{IsLater}
use Rattle.simple_core.proofs.Steps.{later_itself, later_both, got_by_local}
use Rattle.guard_simplify.proofs.Adding.{Served, add, one_need, down_along}
use Rattle.guard_simplify.proofs.Following.{GivesEach, Spawned, ActionServed, RuleServed, follow}
use Rattle.guard_simplify.proofs.FormulaLemmas.{inside_listed, inner_listed, served}
use Rattle.guard_simplify.proofs.ForestLemmas.{Contains-by_rule, forest_spawned}
use Rattle.tree_sem.proofs.EmbeddingLemmas.{image_of, image_is, image_child_is}
use Rattle.tree_sem.specs.Nodes.{IsNode, HasAtom}
use Rattle.tree_sem.proofs.ImageLemmas.{IsNode-image, HasAtom-image}
use Rattle.tree_sem.specs.Growth.{Grows}
use Rattle.tree_sem.proofs.GrowthLemmas.{grows_itself, grows_both, IsNode-grows, HasAtom-grows}

module _ (rules : List Rule) (guards : List Guard) (n : ℕ) where
  abbrev s : System
  s = system rules guards n

  abbrev at : Guard → ℕ
  at g = atom_of rules guards n g

  abbrev AllGuards : List Guard
  AllGuards = map (λ (r : Rule). r.guard) rules ++ guards

  gives_each : (i : ℕ) (r : Rule) → slice_get rules i ≡ Some r → (classes : List ℕ) → ((c : ℕ) → Contains classes c → Contains (classes_of r.action) c) → GivesEach s at (at r.guard) classes
  gives_each i r rule [] among = tt
  gives_each i r rule (c ∷ classes) among = (
    (record { needs = at r.guard ∷ []; gives = c; stmt = Some i }, in_local, refl, refl),
    gives_each i r rule classes (λ d is. among d (Contains-behind d c classes is)),
  )
    where
      mine : Contains (action_locals rules guards n i r) (record { needs = at r.guard ∷ []; gives = c; stmt = Some i })
      mine = Contains-map (λ a. record { needs = at r.guard ∷ []; gives = a; stmt = Some i }) (classes_of r.action) c (among c (Contains-here c c classes refl))

      in_local : Contains s.local (record { needs = at r.guard ∷ []; gives = c; stmt = Some i })
      in_local =
          let F = flat_map (formula_locals rules guards n) (formulas rules guards) in
          Contains-append_left (F ++ by_rule (action_locals rules guards n) 0 rules) (map (seen_local rules guards n) (different same_guard guards)) _
          (Contains-append_right F (by_rule (action_locals rules guards n) 0 rules) _
          (Contains-by_rule (action_locals rules guards n) 0 rules i r _ rule (subst (λ k. Contains (action_locals rules guards n k r) (record { needs = at r.guard ∷ []; gives = c; stmt = Some i })) {x = i} (omega arith) mine)))

  rule_served : (i : ℕ) (r : Rule) → slice_get rules i ≡ Some r → RuleServed s at r
  rule_served i r rule = record {
    guard = served rules guards n r.guard (inside_listed rules guards n r.guard (Contains-append_left (map (λ (r : Rule). r.guard) rules) guards r.guard (Contains-map (λ (r : Rule). r.guard) rules r (Contains-at rules i r rule))));
    action = by_action r.action refl;
  }
    where
      by_action : (a : Action) → r.action ≡ a → ActionServed s at (at r.guard) a
      by_action (Classes classes) same = gives_each i r rule classes (λ c is. subst (λ z. Contains (classes_of z) c) (sym same) is)
      by_action (Inside forest) same = subst (λ z. Spawned s at (fold push_tree no_nodes (tops_of z)) (at r.guard)) same (forest_spawned rules guards n i r rule)
      by_action (Beside forest) same = subst (λ z. Spawned s at (fold push_tree no_nodes (tops_of z)) (at r.guard)) same (forest_spawned rules guards n i r rule)

  -- Each of the guards that holds in u at a path of the list has its atom there, after more steps.
  record Filled (u v : LabelTree) (P : LabelTree → Type 0) : Type 0 where
    after : LabelTree
    later : IsLater s v after
    filled : P after

  fill : (goals : List (List ℕ × Guard)) → ((p : List ℕ) (g : Guard) → Contains goals (p, g) → Served s at g) → (u v : LabelTree) → Grows u v
      → Filled u v (λ w. (p : List ℕ) (g : Guard) → Contains goals (p, g) → Holds u p g → HasAtom w p (at g))
  fill [] are u v grows = record { after = v; later = later_itself s v; filled = λ p g is h. absurd (Contains-none _ is) }
  fill ((p, g) ∷ goals) are u v grows = elim (decide_holds u g p) [
    | inl h ↦
        let first = add s at g (are p g (Contains-here (p, g) (p, g) goals refl)) v p (Holds-grows u v grows g p h) in
        let rest = fill goals (λ q f is. are q f (Contains-behind (q, f) (p, g) goals is)) u first.after (grows_both u v first.after grows first.later.grows) in
        record {
          after = rest.after;
          later = later_both s v first.after rest.after first.later rest.later;
          filled = λ q f is h'. elim ((Contains-cons (q, f) (p, g) goals).0 is) [
            | inl same ↦
                subst (λ (z : List ℕ × Guard). HasAtom rest.after z.0 (at z.1)) (sym same) (HasAtom-grows first.after rest.after rest.later.grows p (at g) first.has)
            | inr behind ↦ rest.filled q f behind h'
          ];
        }
    | inr not ↦
        let rest = fill goals (λ q f is. are q f (Contains-behind (q, f) (p, g) goals is)) u v grows in
        record {
          after = rest.after;
          later = rest.later;
          filled = λ q f is h'. elim ((Contains-cons (q, f) (p, g) goals).0 is) [
            | inl same ↦ absurd (not (subst (λ (z : List ℕ × Guard). Holds u z.0 z.1) same h'))
            | inr behind ↦ rest.filled q f behind h'
          ];
        }
  ]

  -- Each of these guards that holds somewhere in u has its atom at the root, after more steps.
  fill_seen : (gs : List Guard) → ((g : Guard) → Contains gs g → Contains guards g) → (u v : LabelTree) → Grows u v
      → Filled u v (λ w. (p : List ℕ) (g : Guard) → Contains gs g → Holds u p g → HasAtom w [] (atom_for rules guards n (seen g)))
  fill_seen [] are u v grows = record { after = v; later = later_itself s v; filled = λ p g is h. absurd (Contains-none _ is) }
  fill_seen (g ∷ gs) are u v grows = elim (decide_holds u (somewhere g) []) [
    | inl (root, p, h) ↦
        let mine = are g (Contains-here g g gs refl) in
        let x = atom_for rules guards n (seen g) in
        let different_mine = (different-Contains same_guard same_guard-sound same_guard-itself guards g).1 mine in
        let first = add s at g (served rules guards n g (inside_listed rules guards n g (Contains-append_right (map (λ (r : Rule). r.guard) rules) guards g mine))) v p (Holds-grows u v grows g p h) in
        let here = got_by_local s (seen_local rules guards n g) (local_listed' g different_mine) first.after p (one_need s at first.after p (at g) first.has) in
        let top = down_along s at x (down_listed' g different_mine) p [] here.after here.has in
        let later = later_both s v here.after top.after (later_both s v first.after here.after first.later here.later) top.later in
        let rest = fill_seen gs (λ f is. are f (Contains-behind f g gs is)) u top.after (grows_both u v top.after grows later.grows) in
        record {
          after = rest.after;
          later = later_both s v top.after rest.after later rest.later;
          filled = λ q f is h'. elim ((Contains-cons f g gs).0 is) [
            | inl same ↦ subst (λ z. HasAtom rest.after [] (atom_for rules guards n (seen z))) (sym same) (HasAtom-grows top.after rest.after rest.later.grows [] x top.has)
            | inr behind ↦ rest.filled q f behind h'
          ];
        }
    | inr not ↦
        let rest = fill_seen gs (λ f is. are f (Contains-behind f g gs is)) u v grows in
        record {
          after = rest.after;
          later = rest.later;
          filled = λ q f is h'. elim ((Contains-cons f g gs).0 is) [
            | inl same ↦ absurd (not (refl, q, subst (λ z. Holds u q z) same h'))
            | inr behind ↦ rest.filled q f behind h'
          ];
        }
  ]
    where
      local_listed' : (g : Guard) → Contains (different same_guard guards) g → Contains s.local (seen_local rules guards n g)
      local_listed' g is =
          Contains-append_right (flat_map (formula_locals rules guards n) (formulas rules guards) ++ by_rule (action_locals rules guards n) 0 rules) (map (seen_local rules guards n) (different same_guard guards)) (seen_local rules guards n g)
          (Contains-map (seen_local rules guards n) (different same_guard guards) g is)

      down_listed' : (g : Guard) → Contains (different same_guard guards) g → Contains s.down (seen_down rules guards n g)
      down_listed' g is =
          Contains-append_right (flat_map (formula_downs rules guards n) (formulas rules guards)) (map (seen_down rules guards n) (different same_guard guards)) (seen_down rules guards n g)
          (Contains-map (seen_down rules guards n) (different same_guard guards) g is)

  pub follows : (t : LabelTree) → Follows rules guards n t
  follows t steps legal =
      let t' = end_of t rules steps in
      let first = follow s at rules rule_served steps t t (within_itself t) legal in
      let u0 = first.after in
      let goals = flat_map (λ p. map (λ g. (p, g)) (formulas rules guards)) (paths_of u0) in
      let full = fill goals (λ p g is. goal_served g (listed_goal u0 p g is)) u0 u0 (grows_itself u0) in
      let seen' = fill_seen guards (λ g is. is) u0 full.after full.later.grows in
      let last = later_both s t full.after seen'.after (later_both s t u0 full.after first.later full.later) seen'.later in
      let grows : Grows u0 seen'.after = grows_both u0 full.after seen'.after full.later.grows seen'.later.grows in
      let image : List ℕ → List ℕ = λ v. image_of v t' u0 first.within in (
        last.steps,
        image,
        last.legal,
        record {
          root = refl;
          child = λ v k is. image_child_is v k t' u0 first.within is;
          node = λ v is. rw last.ends (IsNode-grows u0 seen'.after grows (image v) (IsNode-image t' u0 v (image v) (image_is v t' u0 first.within is)));
          atoms = λ v a any' has. rw last.ends (HasAtom-grows u0 seen'.after grows (image v) a (HasAtom-image t' u0 v (image v) (image_is v t' u0 first.within (HasAtom-node t' v a has)) a has));
        },
        (λ v g listed h.
            let holds = holds_image t' u0 g v (image v) (image_is v t' u0 first.within (Holds-node t' g v h)) h in
            rw last.ends (HasAtom-grows full.after seen'.after seen'.later.grows (image v) (at g) (full.filled (image v) g (goal_listed u0 (image v) g listed (Holds-node u0 g (image v) holds)) holds))),
        (λ v g listed h. rw last.ends (seen'.filled (image v) g listed (holds_image t' u0 g v (image v) (image_is v t' u0 first.within (Holds-node t' g v h)) h))),
      )
    where
      listed_goal : (u0 : LabelTree) (p : List ℕ) (g : Guard) → Contains {X = List ℕ × Guard} (flat_map (λ p. map (λ g. (p, g)) (formulas rules guards)) (paths_of u0)) (p, g) → Contains (formulas rules guards) g
      listed_goal u0 p g is =
          let of = flat_map-Contains (λ p. map (λ g. (p, g)) (formulas rules guards)) (paths_of u0) (p, g) is in
          let pair = map-Contains (λ g. (of.0, g)) (formulas rules guards) (p, g) of.2 in
          subst (λ z. Contains (formulas rules guards) z) (sym (ap (λ (z : List ℕ × Guard). z.1) pair.2)) pair.1

      goal_listed : (u0 : LabelTree) (p : List ℕ) (g : Guard) → Contains (formulas rules guards) g → IsNode u0 p → Contains {X = List ℕ × Guard} (flat_map (λ p. map (λ g. (p, g)) (formulas rules guards)) (paths_of u0)) (p, g)
      goal_listed u0 p g listed is =
          Contains-flat_map (λ p. map (λ g. (p, g)) (formulas rules guards)) (paths_of u0) p (p, g) ((Contains-paths_of u0 p).1 is) (Contains-map (λ g. (p, g)) (formulas rules guards) g listed)

      goal_served : (g : Guard) → Contains (formulas rules guards) g → Served s at g
      goal_served g listed = served rules guards n g (inner_listed rules guards n g listed)

-- Simple steps go back to rule steps: what is true of each simple tree, and that each step keeps it.
use Rattle.std.proofs.Common.{◌≡◌, ◌≢◌, ◌⊎◌, ℕ, ◌+◌, ◌<◌, List, [], ◌∷◌, ◌++◌, length, Option, Some, None, option_map, IsSome, IsSomeAnd, Contains, refl, sym, ap, ◌∙◌, subst, inl, inr, arith, length-append}
use Rattle.tp_base.specs.Classes.{with_class}
use Rattle.tp_base.proofs.ClassLemmas.{Contains-with_class, union_of-keeps_right}
use Rattle.tp_base.proofs.Rising.{Contains-here, Contains-none}
use Rattle.tp_base.proofs.Lists.{Contains-at, same_or_other, flat_map-Contains}
use Rattle.tree_sem.specs.declared.actions.Action.{Action}
use Rattle.tree_sem.specs.declared.actions.Action.TheVariants.{Classes, Inside, Beside}
use Rattle.tree_sem.specs.Actions.{add_classes}
use Rattle.tree_sem.specs.Trees.{LabelTree, length_of, node_at, label_at, children_at, edit_at, add_class, add_child}
use Rattle.tree_sem.proofs.RowLemmas.{there}
use Rattle.tree_sem.proofs.EditLemmas.{node_at-edit_at, label_at-add_class, label_at-add_class_other, IsSome-add_class, label_at-add_child_new, label_at-add_child_other, IsSome-add_child, node_at-add_child_none}
use Rattle.guard_sem.specs.Guards.{Guard}
use Rattle.guard_sem.specs.Holding.{Holds}
use Rattle.guard_sem.specs.declared.rules.Rule.{Rule}
use Rattle.guard_sem.specs.Rules.{RuleStep, taken, IsLegal, end_of, AreLegal}
use Rattle.guard_simplify.specs.Auxiliaries.{Auxiliary, formula, owner, seen}
use Rattle.std.specs.Prelude.{slice_get, nat_lt, true, map, unwrap_or}
use Rattle.std.proofs.lemmas.Bool.{cases_Bool, lt-ltb}
use Rattle.std.proofs.lemmas.List.Elements.{All-contains, Contains-append_left, Contains-append_right, Contains-append_cases}
use Rattle.tree_sem.proofs.NodeLemmas.{Contains-map, map-Contains, HasAtom-node, IsNode-front, HasAtoms-node}
use Rattle.simple_core.specs.declared.rules.Local.{Local}
use Rattle.simple_core.specs.declared.rules.Link.{Link}
use Rattle.simple_core.specs.declared.rules.Spawn.{Spawn}
use Rattle.simple_core.specs.declared.system.System.{System}
use Rattle.simple_core.specs.Systems.{kind_label}
use Rattle.simple_core.specs.SimpleSteps as simple
use Rattle.guard_sem.specs.Guards.{same_guard}
use Rattle.std.specs.List.{flat_map}
use Rattle.guard_sem.proofs.SelectorLemmas.{HasAtoms-has}
use Rattle.guard_sem.proofs.SameGuards.{same_guard-sound, same_guard-itself}
use Rattle.guard_simplify.specs.Firsts.{different}
use Rattle.guard_simplify.specs.Auxiliaries.{formulas, forest_of, nodes_of, children_in, by_rule}
use Rattle.guard_simplify.specs.Simplified.{atom_for, atom_of, classes_of, formula_locals, formula_ups, formula_downs, action_locals, action_spawns, seen_local, seen_down, label_in, system}
use Rattle.guard_simplify.specs.Law.{IsAdded, IsFor, IsTrueOf, IsOver, IsRuleOver}
use Rattle.guard_simplify.proofs.NumberLemmas.{different-Contains}
use Rattle.guard_simplify.proofs.Meanings.{Known, said, local_said, up_said, down_said}
use Rattle.guard_simplify.proofs.FormulaLemmas.{seen_is, known, inside_listed, none_below, one_meaning, formula_known}
use Rattle.guard_simplify.proofs.ForestLemmas.{owner_is, by_rule-Contains, node_is, label_of_kind, spawn_cases}
use Rattle.guard_simplify.proofs.RuleRuns.{rule_end-append, rule_legal-append, after_grows, added_more, added_node, added_last, added_child}
use Rattle.tree_sem.specs.Nodes.{IsNode, HasAtom, IsTreeOver}
use Rattle.tree_sem.specs.Growth.{Grows}
use Rattle.tree_sem.proofs.GrowthLemmas.{IsNode-grows, HasAtom-grows}
use Rattle.guard_sem.proofs.HoldingLemmas.{Holds-grows}

abbrev pick : {P Q : Type 0} → List ℕ → List ℕ → P ⊎ Q → List ℕ
pick x y (inl p) = x
pick x y (inr q) = y

-- the atoms of the node at v after a class was added
added_atom : (v w : List ℕ) (x a : ℕ) (u : LabelTree) → HasAtom (edit_at v (add_class x) u) w a → HasAtom u w a ⊎ ((w ≡ v) × (a ≡ x))
added_atom v w x a u has = elim (same_or_other w v) [
  | inr other ↦ inl (rw (label_at-add_class_other v w x u other) at has)
  | inl same ↦
      let has' : IsSomeAnd (option_map (with_class x) (label_at v u)) (λ l. Contains l a) = rw (same, label_at-add_class v x u) at has in
      elim (label_at v u) as (λ o. label_at v u ≡ o → IsSomeAnd (option_map (with_class x) o) (λ l. Contains l a) → HasAtom u w a ⊎ ((w ≡ v) × (a ≡ x))) [
        | None ↦ λ e h. absurd h
        | Some l ↦ λ e h. elim ((Contains-with_class x l a).0 h) [
          | inl new ↦ inr (same, new)
          | inr old ↦ inl (rw (same, e) old)
        ]
      ] refl has'
]

module _ (rules : List Rule) (guards : List Guard) (n : ℕ) (T : LabelTree) where
  -- what the atom a says of the node at w, after these rule steps
  pub record Says (steps : List RuleStep) (a : ℕ) (w : List ℕ) : Type 0 where
    pub plain : a < n → HasAtom (end_of T rules steps) w a
    pub auxiliary : (x : Auxiliary) → IsFor rules guards n a x → IsTrueOf rules guards n T steps w x

  pub record IsBack (u : LabelTree) : Type 0 where
    pub steps : List RuleStep
    pub image : List ℕ → List ℕ
    pub legal : AreLegal T rules steps
    pub root : image [] ≡ []
    pub child : (v : List ℕ) (k : ℕ) → IsNode u (v ++ k ∷ []) → (l : ℕ) × (image (v ++ k ∷ []) ≡ image v ++ l ∷ [])
    pub node : (v : List ℕ) → IsNode u v → IsNode (end_of T rules steps) (image v)
    pub says : (v : List ℕ) (a : ℕ) → HasAtom u v a → Says steps a (image v)

  -- one more rule step
  says_more : (steps : List RuleStep) (step : RuleStep) (a : ℕ) (w : List ℕ) → Says steps a w → Says (steps ++ step ∷ []) a w
  says_more steps step a w says =
      let grows : Grows (end_of T rules steps) (end_of T rules (steps ++ step ∷ [])) = rw (rule_end-append rules T steps (step ∷ [])) (after_grows rules (end_of T rules steps) step) in
      record { plain = λ lt. HasAtom-grows _ _ grows w a (says.plain lt); auxiliary = λ x is. kept grows x (says.auxiliary x is) }
    where
      kept : Grows (end_of T rules steps) (end_of T rules (steps ++ step ∷ [])) → (x : Auxiliary) → IsTrueOf rules guards n T steps w x → IsTrueOf rules guards n T (steps ++ step ∷ []) w x
      kept grows (formula g) true' = Holds-grows _ _ grows g w true'
      kept grows (owner p) true' = added_more rules steps (step ∷ []) T p w true'
      kept grows (seen g) true' = (true'.0, Holds-grows _ _ grows g true'.0 true'.1)

  pub back_step : (u : LabelTree) (b : IsBack u) (step : RuleStep) → IsLegal (end_of T rules b.steps) rules step → IsBack u
  back_step u b step legal =
      let grows : Grows (end_of T rules b.steps) (end_of T rules (b.steps ++ step ∷ [])) = rw (rule_end-append rules T b.steps (step ∷ [])) (after_grows rules (end_of T rules b.steps) step) in
      record {
        steps = b.steps ++ step ∷ [];
        image = b.image;
        legal = rule_legal-append rules T b.steps (step ∷ []) b.legal (legal, tt);
        root = b.root;
        child = b.child;
        node = λ v is. IsNode-grows _ _ grows (b.image v) (b.node v is);
        says = λ v a has. says_more b.steps step a (b.image v) (b.says v a has);
      }

  -- an atom more, of which what it says is true
  pub back_atom : (u : LabelTree) (b : IsBack u) (v : List ℕ) (x : ℕ) → Says b.steps x (b.image v) → IsBack (edit_at v (add_class x) u)
  back_atom u b v x says = record {
    steps = b.steps;
    image = b.image;
    legal = b.legal;
    root = b.root;
    child = λ w k is. b.child w k ((IsSome-add_class v (w ++ k ∷ []) x u).0 is);
    node = λ w is. b.node w ((IsSome-add_class v w x u).0 is);
    says = λ w a has. elim (added_atom v w x a u has) [
      | inl old ↦ b.says w a old
      | inr new ↦ subst (λ z. Says b.steps a (b.image z)) (sym new.0) (subst (λ z. Says b.steps z (b.image v)) (sym new.1) says)
    ];
  }

  -- the map that takes p to w, and is as before elsewhere
  abbrev redirected : List ℕ → List ℕ → (List ℕ → List ℕ) → List ℕ → List ℕ
  redirected p w image q = pick w (image q) (same_or_other q p)

  redirected-there : (p w : List ℕ) (image : List ℕ → List ℕ) → redirected p w image p ≡ w
  redirected-there p w image = elim (same_or_other p p) as (λ o. pick w (image p) o ≡ w) [ inl same ↦ refl | inr other ↦ absurd (other refl) ]

  redirected-other : (p w : List ℕ) (image : List ℕ → List ℕ) (q : List ℕ) → q ≢ p → redirected p w image q ≡ image q
  redirected-other p w image q other = elim (same_or_other q p) as (λ o. pick w (image q) o ≡ image q) [ inl same ↦ absurd (other same) | inr other' ↦ refl ]

  -- a child more, which has an image below that of its parent, and of whose atoms what they say is true
  pub back_child : (u : LabelTree) (b : IsBack u) (v l : List ℕ) (k : ℕ) → IsNode u v → IsNode (end_of T rules b.steps) (b.image v ++ k ∷ [])
      → ((a : ℕ) → Contains l a → Says b.steps a (b.image v ++ k ∷ [])) → IsBack (edit_at v (add_child l) u)
  back_child u b v l k is is' says =
      let here = there (node_at v u) is in
      let p = v ++ length_of here.0.below ∷ [] in
      let w = b.image v ++ k ∷ [] in
      let none : node_at p u ≡ None = node_at-add_child_none v l u here.0 here.1 in
      let old : (q : List ℕ) → IsNode u q → redirected p w b.image q ≡ b.image q = λ q is. redirected-other p w b.image q (λ same. let never : IsSome {T = LabelTree} None = rw (same, none) at is in cc) in
      record {
        steps = b.steps;
        image = redirected p w b.image;
        legal = b.legal;
        root = old [] refl ∙ b.root;
        child = λ q m is. elim (IsSome-add_child v (q ++ m ∷ []) l u here.0 here.1 is) [
          | inl before ↦
              let found = b.child q m before in
              (found.0, old (q ++ m ∷ []) before ∙ found.1 ∙ ap (λ z. z ++ found.0 ∷ []) (sym (old q (IsNode-front u q (m ∷ []) before))))
          | inr new ↦
              let ends = same_ends q v m (length_of here.0.below) new in
              (k, ap (redirected p w b.image) new ∙ redirected-there p w b.image ∙ ap (λ z. z ++ k ∷ []) (sym (ap (redirected p w b.image) ends ∙ old v is_v)))
        ];
        node = λ q is. elim (IsSome-add_child v q l u here.0 here.1 is) [
          | inl before ↦ subst (λ z. IsNode (end_of T rules b.steps) z) (sym (old q before)) (b.node q before)
          | inr new ↦ subst (λ z. IsNode (end_of T rules b.steps) z) (sym (ap (redirected p w b.image) new ∙ redirected-there p w b.image)) is'
        ];
        says = λ q a has. elim (same_or_other q p) [
          | inl new ↦
              let has' : HasAtom (edit_at v (add_child l) u) p a = rw new at has in
              let listed : Contains l a = rw (label_at-add_child_new v l u here.0 here.1) at has' in
              subst (λ z. Says b.steps a z) (sym (ap (redirected p w b.image) new ∙ redirected-there p w b.image)) (says a listed)
          | inr other ↦
              let has' : HasAtom u q a = rw (label_at-add_child_other v l u here.0 here.1 q other) at has in
              subst (λ z. Says b.steps a z) (sym (redirected-other p w b.image q other)) (b.says q a has')
        ];
      }
    where
      is_v : IsNode u v
      is_v = is

      same_ends : (q v : List ℕ) (m c : ℕ) → q ++ m ∷ [] ≡ v ++ c ∷ [] → q ≡ v
      same_ends [] [] m c e = refl
      same_ends [] (y ∷ v) m c e = let long : length (m ∷ []) ≡ length ((y ∷ v) ++ c ∷ []) = ap length e in let long' = length-append v (c ∷ []) in absurd (omega arith)
      same_ends (x ∷ q) [] m c e = let long : length ((x ∷ q) ++ m ∷ []) ≡ length (c ∷ []) = ap length e in let long' = length-append q (m ∷ []) in absurd (omega arith)
      same_ends (x ∷ q) (y ∷ v) m c e =
          let first : x ≡ y = cc in
          let rest : q ++ m ∷ [] ≡ v ++ c ∷ [] = cc in
          let rest' = same_ends q v m c rest in
          λ i. first i ∷ rest' i

  -- Each simple step of the system keeps it.
  module _ (over : (g : Guard) → Contains (map (λ (r : Rule). r.guard) rules ++ guards) g → IsOver n g) (rules_over : (i : ℕ) (r : Rule) → slice_get rules i ≡ Some r → IsRuleOver n r) where
    abbrev s : System
    s = system rules guards n

    abbrev at : Guard → ℕ
    at g = atom_of rules guards n g

    handed_known : (g : Guard) → Contains (map (λ (r : Rule). r.guard) rules ++ guards) g → Known rules guards n g
    handed_known g is = known rules guards n g (over g is) (inside_listed rules guards n g is)

    rule_known : (i : ℕ) (r : Rule) → slice_get rules i ≡ Some r → Known rules guards n r.guard
    rule_known i r rule = handed_known r.guard (Contains-append_left (map (λ (r : Rule). r.guard) rules) guards r.guard (Contains-map (λ (r : Rule). r.guard) rules r (Contains-at rules i r rule)))

    -- what the atom of a guard says
    guard_said : (steps : List RuleStep) (g : Guard) → Known rules guards n g → (w : List ℕ) → Says steps (at g) w → Holds (end_of T rules steps) w g
    guard_said steps g k w says = said rules guards n (end_of T rules steps) (λ a w. Says steps a w) (λ a w lt says. says.plain lt) (λ a w g is says. says.auxiliary (formula g) is) g k w says

    -- an auxiliary's atom says what is true of the auxiliary, and an atom of the table that it is there
    says_auxiliary : (steps : List RuleStep) (a : ℕ) (w : List ℕ) (x : Auxiliary) → IsFor rules guards n a x → IsTrueOf rules guards n T steps w x → Says steps a w
    says_auxiliary steps a w x is true' = record {
      plain = λ lt. absurd (none_below rules guards n a x is lt);
      auxiliary = λ y is'. subst (IsTrueOf rules guards n T steps w) (one_meaning rules guards n a x y is is') true';
    }

    says_plain : (steps : List RuleStep) (a : ℕ) (w : List ℕ) → a < n → HasAtom (end_of T rules steps) w a → Says steps a w
    says_plain steps a w lt has = record { plain = λ lt'. has; auxiliary = λ x is. absurd (none_below rules guards n a x is lt) }

    -- an atom of a formula that holds
    back_formula : (u : LabelTree) (b : IsBack u) (v : List ℕ) (f : Guard) (x : ℕ) → Contains (formulas rules guards) f → x ≡ at f → Holds (end_of T rules b.steps) (b.image v) f → IsBack (edit_at v (add_class x) u)
    back_formula u b v f x listed same true' =
        let is = (formula_known rules guards n over f listed).0 in
        back_atom u b v x (says_auxiliary b.steps x (b.image v) (formula f) (is.0, same ∙ is.1) true')

    -- an atom that is seen where the guard holds somewhere
    back_seen : (u : LabelTree) (b : IsBack u) (v : List ℕ) (g : Guard) (x : ℕ) → Contains guards g → x ≡ atom_for rules guards n (seen g) → (w : List ℕ) → Holds (end_of T rules b.steps) w g → IsBack (edit_at v (add_class x) u)
    back_seen u b v g x listed same w true' = back_atom u b v x (says_auxiliary b.steps x (b.image v) (seen g) (seen_is rules guards n g listed, same) (w, true'))

    -- one node's children: what their labels say
    label_says : (steps : List RuleStep) → AreLegal T rules steps → (i : ℕ) (r : Rule) (q : List ℕ) (w : List ℕ) → slice_get rules i ≡ Some r → Contains (nodes_of r) q → IsAdded T rules steps (i, q) w
        → (a : ℕ) → Contains (label_in rules guards n i r q) a → Says steps a w
    label_says steps legal i r q w rule is added a listed =
        let here = there (node_at q (forest_of r)) (node_is rules guards n r q is) in
        let found = added_node rules steps T (i, q) w r here.0 legal rule here.1 added in
        let plain : Contains here.0.label a → Says steps a w = λ mine.
        says_plain steps a w ((rules_over i r rule).forest q a (rw here.1 mine)) (rw found.1 (All-contains (Contains found.0.label) here.0.label a found.2.0 mine)) in
        let label : unwrap_or (label_at q (forest_of r)) [] ≡ here.0.label = ap (λ (o : Option LabelTree). unwrap_or (option_map (λ t. t.label) o) []) here.1 in
        elim (cases_Bool (nat_lt 0 (children_in r q))) [
          | inl more ↦
              let own = atom_for rules guards n (owner (i, q)) in
              let listed' : Contains (with_class own here.0.label) a = rw (more, label) at listed in
              elim ((Contains-with_class own here.0.label a).0 listed') [
                | inl same ↦ says_auxiliary steps a w (owner (i, q)) (owner_is rules guards n i r q rule is more, same) added
                | inr mine ↦ plain mine
              ]
          | inr no_more ↦ plain (rw (no_more, label) at listed)
        ]

    -- an atom that a rule's action adds, after the rule's step
    back_class : (u : LabelTree) (b : IsBack u) (v : List ℕ) (i : ℕ) (r : Rule) (c : ℕ) → slice_get rules i ≡ Some r → Contains (classes_of r.action) c → HasAtom u v (at r.guard) → IsBack (edit_at v (add_class c) u)
    unfolding back_step
    back_class u b v i r c rule listed has =
        let w = b.image v in
        let t = end_of T rules b.steps in
        let holds = guard_said b.steps r.guard (rule_known i r rule) w (b.says v (at r.guard) has) in
        let step : RuleStep = record { rule = i; at = w } in
        let b' = back_step u b step (r, rule, holds) in
        let there' : HasAtom (edit_at w (taken r.action) t) w c = class_there r.action w t c listed (b.node v (HasAtom-node u v (at r.guard) has)) in
        let there'' : HasAtom (end_of T rules (b.steps ++ step ∷ [])) w c = rw (rule_end-append rules T b.steps (step ∷ []), rule) there' in
        back_atom u b' v c (says_plain (b.steps ++ step ∷ []) c w (All-contains (λ a. a < n) (classes_of r.action) c (rules_over i r rule).classes listed) there'')
      where
        class_there : (a : Action) (w : List ℕ) (t : LabelTree) (c : ℕ) → Contains (classes_of a) c → IsNode t w → HasAtom (edit_at w (taken a) t) w c
        class_there (Classes classes) w t c listed is =
            rw (node_at-edit_at w (add_classes classes) t)
            (elim (node_at w t) as (λ o. IsSome o → IsSomeAnd (option_map (λ (n : LabelTree). n.label) (option_map (add_classes classes) o)) (λ l. Contains l c)) [
              | None ↦ λ is. cc
              | Some x ↦ λ is. union_of-keeps_right x.label classes c listed
            ] is)
        class_there (Inside forest) w t c listed is = absurd (Contains-none c listed)
        class_there (Beside forest) w t c listed is = absurd (Contains-none c listed)

    -- a node of a rule's forest whose image was added
    back_new : (u : LabelTree) (b : IsBack u) (v : List ℕ) (i : ℕ) (r : Rule) (q : List ℕ) (k : ℕ) → slice_get rules i ≡ Some r → Contains (nodes_of r) q → IsNode u v
        → IsAdded T rules b.steps (i, q) (b.image v ++ k ∷ []) → IsBack (edit_at v (add_child (label_in rules guards n i r q)) u)
    back_new u b v i r q k rule is node added =
        let w = b.image v ++ k ∷ [] in
        let here = there (node_at q (forest_of r)) (node_is rules guards n r q is) in
        let found = added_node rules b.steps T (i, q) w r here.0 b.legal rule here.1 added in
        let is' : IsNode (end_of T rules b.steps) w = rw found.1 refl in
        back_child u b v (label_in rules guards n i r q) k node is' (λ a listed. label_says b.steps b.legal i r q w rule is added a listed)

    -- a top node of a rule's forest, after the rule's step
    back_top : (u : LabelTree) (b : IsBack u) (v : List ℕ) (i : ℕ) (r : Rule) (k : ℕ) → slice_get rules i ≡ Some r → Contains (nodes_of r) (k ∷ []) → HasAtom u v (at r.guard)
        → IsBack (edit_at v (add_child (label_in rules guards n i r (k ∷ []))) u)
    unfolding back_step
    back_top u b v i r k rule is has =
        let w = b.image v in
        let t = end_of T rules b.steps in
        let holds = guard_said b.steps r.guard (rule_known i r rule) w (b.says v (at r.guard) has) in
        let step : RuleStep = record { rule = i; at = w } in
        let b' = back_step u b step (r, rule, holds) in
        let place = unwrap_or (children_at w t) 0 + k in
        let added : IsAdded T rules (b.steps ++ step ∷ []) (i, k ∷ []) (w ++ place ∷ []) =
        added_last rules b.steps step T (i, k ∷ []) (w ++ place ∷ []) (refl, r, rule, node_is rules guards n r (k ∷ []) is, k, [], refl, refl) in
        back_new u b' v i r (k ∷ []) place rule is (HasAtom-node u v (at r.guard) has) added

    back_inner : (u : LabelTree) (b : IsBack u) (v : List ℕ) (i : ℕ) (r : Rule) (q : List ℕ) (k : ℕ) → slice_get rules i ≡ Some r → Contains (nodes_of r) q → k < children_in r q
        → Contains (nodes_of r) (q ++ k ∷ []) → HasAtom u v (atom_for rules guards n (owner (i, q))) → IsBack (edit_at v (add_child (label_in rules guards n i r (q ++ k ∷ []))) u)
    back_inner u b v i r q k rule is less is' has =
        let more : nat_lt 0 (children_in r q) ≡ true = lt-ltb 0 (children_in r q) (omega arith) in
        let said' : IsAdded T rules b.steps (i, q) (b.image v) = (b.says v (atom_for rules guards n (owner (i, q))) has).auxiliary (owner (i, q)) (owner_is rules guards n i r q rule is more, refl) in
        let added = added_child rules b.steps T i q k (b.image v) r rule (node_is rules guards n r (q ++ k ∷ []) is') said' in
        back_new u b v i r (q ++ k ∷ []) k rule is' (HasAtom-node u v (atom_for rules guards n (owner (i, q))) has) added

    -- each step
    step_back : (u : LabelTree) → IsBack u → (step : simple.SimpleStep) → simple.IsLegal s u step → IsBack (simple.after_step s u step)
    step_back u b (simple.by_local r v) legal =
        let node = HasAtoms-node u v r.needs legal.1 in
        let all_say : (a : ℕ) → Contains r.needs a → Says b.steps a (b.image v) = λ a is. b.says v a (HasAtoms-has u v r.needs a legal.1 is) in
        let F = flat_map (formula_locals rules guards n) (formulas rules guards) in
        let A = by_rule (action_locals rules guards n) 0 rules in
        elim (Contains-append_cases (F ++ A) (map (seen_local rules guards n) (different same_guard guards)) r legal.0) [
          | inl first ↦ elim (Contains-append_cases F A r first) [
            | inl by_formula ↦
                let of = flat_map-Contains (formula_locals rules guards n) (formulas rules guards) r by_formula in
                let f = of.0 in
                let true' = local_said rules guards n (end_of T rules b.steps) (λ a w. Says b.steps a w) (λ a w lt says. says.plain lt) (λ a w g is says. says.auxiliary (formula g) is)
                f (formula_known rules guards n over f of.1).1 r of.2 (b.image v) (b.node v node) all_say in
                back_formula u b v f r.gives of.1 true'.0 true'.1
            | inr by_action ↦
                let of = by_rule-Contains (action_locals rules guards n) 0 rules r by_action in
                let rule = of.1 in
                let class = map-Contains _ (classes_of rule.action) r of.3 in
                let needs : Contains r.needs (at rule.guard) = subst (λ (z : Local). Contains z.needs (at rule.guard)) (sym class.2) (Contains-here (at rule.guard) (at rule.guard) [] refl) in
                let b' = back_class u b v of.0 rule class.0 of.2 class.1 (HasAtoms-has u v r.needs (at rule.guard) legal.1 needs) in
                subst (λ z. IsBack (edit_at v (add_class z) u)) (sym (ap (λ (z : Local). z.gives) class.2)) b'
          ]
          | inr by_seen ↦
              let of = map-Contains (seen_local rules guards n) (different same_guard guards) r by_seen in
              let g = of.0 in
              let listed = (different-Contains same_guard same_guard-sound same_guard-itself guards g).0 of.1 in
              let needs : Contains r.needs (at g) = subst (λ (z : Local). Contains z.needs (at g)) (sym of.2) (Contains-here (at g) (at g) [] refl) in
              let holds = guard_said b.steps g (handed_known g (Contains-append_right (map (λ (r : Rule). r.guard) rules) guards g listed)) (b.image v) (all_say (at g) needs) in
              back_seen u b v g r.gives listed (ap (λ (z : Local). z.gives) of.2) (b.image v) holds
        ]
    step_back u b (simple.by_up l v) (listed, node, p, k, place, has) =
        let of = flat_map-Contains (formula_ups rules guards n) (formulas rules guards) l listed in
        let f = of.0 in
        let node' : IsNode u (p ++ k ∷ []) = rw place at node in
        let image = b.child p k node' in
        let there' : IsNode (end_of T rules b.steps) (b.image p ++ image.0 ∷ []) = rw image.1 at (b.node (p ++ k ∷ []) node') in
        let true' = up_said rules guards n (end_of T rules b.steps) (λ a w. Says b.steps a w) (λ a w lt says. says.plain lt) (λ a w g is says. says.auxiliary (formula g) is)
        f (formula_known rules guards n over f of.1).1 l of.2 (b.image p) image.0 there' (b.says p l.from has) in
        let holds : Holds (end_of T rules b.steps) (b.image v) f = subst (λ z. Holds (end_of T rules b.steps) z f) (sym (ap b.image place ∙ image.1)) true'.1 in
        back_formula u b v f l.to of.1 true'.0 holds
    step_back u b (simple.by_down l v) (listed, k, has) =
        let node' = HasAtom-node u (v ++ k ∷ []) l.from has in
        let node = IsNode-front u v (k ∷ []) node' in
        let image = b.child v k node' in
        let says : Says b.steps l.from (b.image v ++ image.0 ∷ []) = rw image.1 at (b.says (v ++ k ∷ []) l.from has) in
        elim (Contains-append_cases (flat_map (formula_downs rules guards n) (formulas rules guards)) (map (seen_down rules guards n) (different same_guard guards)) l listed) [
          | inl by_formula ↦
              let of = flat_map-Contains (formula_downs rules guards n) (formulas rules guards) l by_formula in
              let f = of.0 in
              let true' = down_said rules guards n (end_of T rules b.steps) (λ a w. Says b.steps a w) (λ a w lt says. says.plain lt) (λ a w g is says. says.auxiliary (formula g) is)
              f (formula_known rules guards n over f of.1).1 l of.2 (b.image v) image.0 (b.node v node) says in
              back_formula u b v f l.to of.1 true'.0 true'.1
          | inr by_seen ↦
              let of = map-Contains (seen_down rules guards n) (different same_guard guards) l by_seen in
              let g = of.0 in
              let listed' = (different-Contains same_guard same_guard-sound same_guard-itself guards g).0 of.1 in
              let true' = says.auxiliary (seen g) (seen_is rules guards n g listed', ap (λ (z : Link). z.from) of.2) in
              back_seen u b v g l.to listed' (ap (λ (z : Link). z.to) of.2) true'.0 true'.1
        ]
    step_back u b (simple.by_spawn c v) (listed, has) =
        let of = by_rule-Contains (action_spawns rules guards n) 0 rules c listed in
        let i = of.0 in
        let r = of.1 in
        elim (spawn_cases rules guards n i r c (subst (λ k. Contains (action_spawns rules guards n k r) c) {x = 0 + i} (omega arith) of.3)) [
          | inl (k, is, same) ↦
              let has' : HasAtom u v (at r.guard) = subst (λ (z : Spawn). HasAtom u v z.needs) same has in
              let label : kind_label s c.kind ≡ label_in rules guards n i r (k ∷ []) = ap (λ (z : Spawn). kind_label s z.kind) same ∙ label_of_kind rules guards n i r (k ∷ []) of.2 is in
              subst (λ z. IsBack (edit_at v (add_child z) u)) (sym label) (back_top u b v i r k of.2 is has')
          | inr (q, k, is, less, is', same) ↦
              let has' : HasAtom u v (atom_for rules guards n (owner (i, q))) = subst (λ (z : Spawn). HasAtom u v z.needs) same has in
              let label : kind_label s c.kind ≡ label_in rules guards n i r (q ++ k ∷ []) = ap (λ (z : Spawn). kind_label s z.kind) same ∙ label_of_kind rules guards n i r (q ++ k ∷ []) of.2 is' in
              subst (λ z. IsBack (edit_at v (add_child z) u)) (sym label) (back_inner u b v i r q k of.2 is less is' has')
        ]

    pub steps_back : (by : List simple.SimpleStep) (u : LabelTree) → IsBack u → simple.AreLegal s u by → IsBack (simple.end_of s u by)
    steps_back [] u b legal = b
    steps_back (step ∷ by) u b legal = steps_back by (simple.after_step s u step) (step_back u b step legal.0) legal.1

    pub no_step_back : IsTreeOver n T → IsBack T
    no_step_back over_T = record {
      steps = [];
      image = λ v. v;
      legal = tt;
      root = refl;
      child = λ v k is. (k, refl);
      node = λ v is. is;
      says = λ v a has. says_plain [] a v (over_T v a has) has;
    }

-- The trees of kinds: which node of which forest a kind is, and how the trees of kinds lie in one another.
use Rattle.std.proofs.Common.{◌≡◌, ℕ, ◌==◌, Bool, true, false, List, [], ◌∷◌, ◌++◌, length, map, find, Option, Some, None, IsSome, option_map, option_and_then, unwrap_or, Contains, refl, sym, ap, ◌∙◌, subst, inl, inr, arith}
use Rattle.std.specs.Prelude.{slice_get}
use Rattle.std.proofs.lemmas.Bool.{cases_Bool, eq-eqb, eqb-true}
use Rattle.tp_base.proofs.Rising.{Contains-cons, Contains-none}
use Rattle.tp_base.proofs.Lists.{Contains-at, at_Contains}
use Rattle.tree_sem.specs.Trees.{no_nodes, node, LabelTree, tree_of, length_of, node_at}
use Rattle.tree_sem.proofs.RowLemmas.{there, node_at-child, child_node_at}
use Rattle.tree_sem.proofs.PathLemmas.{parent_of-child, last_number-child}
use Rattle.tree_sem.proofs.AddTreesLemmas.{length_of-push_trees}
use Rattle.simple_core.specs.declared.rules.Kind.{Kind}
use Rattle.simple_core.specs.declared.system.System.{System}
use Rattle.guard_sem.specs.Guards.{Guard}
use Rattle.guard_sem.specs.declared.rules.Rule.{Rule}
use Rattle.guard_simplify.specs.Auxiliaries.{forest_of, nodes_of, children_in, tops_of, Place, places}
use Rattle.guard_simplify.specs.Simplified.{kind_at, kind_above, kind_of, system}
use Rattle.guard_simplify.specs.Law.{IsOver, IsRuleOver}
use Rattle.guard_simplify.proofs.ForestLemmas.{node_is, is_node, place_there, beside_get}
use Rattle.guard_simplify.proofs.Soundness.{split_last, places_beside}
use Rattle.guard_simplify.proofs.Placing.{kind_is, place_node, above_child, above_inner, places_once}
use Rattle.proof_check.specs.Unfolding.{forest_children, is_below}
use Rattle.judge.proofs.Meanings.{kind_tree}
use Rattle.judge.proofs.ForestTrees.{row_get, path_cases}

-- what is found passes the test, and is in the list
find_some : {X : Type 0} (test : X → Bool) (xs : List X) (x : X) → find test xs ≡ Some x → Contains xs x × (test x ≡ true)
find_some test [] x e = cc
find_some test (y ∷ xs) x e = elim (cases_Bool (test y)) [
  | inl hit ↦
      let e' : Some y ≡ Some x = rw hit at e in
      let same : y ≡ x = cc in
      ((Contains-cons x y xs).1 (inl (sym same)), ap test (sym same) ∙ hit)
  | inr miss ↦ let rest = find_some test xs x (rw miss at e) in ((Contains-cons x y xs).1 (inr rest.0), rest.1)
]

find_none : {X : Type 0} (test : X → Bool) (xs : List X) (x : X) → find test xs ≡ None → Contains xs x → test x ≡ true → ⊥
find_none test [] x e is passes = Contains-none x is
find_none test (y ∷ xs) x e is passes = elim (cases_Bool (test y)) [
  | inl hit ↦ let e' : Some y ≡ None = rw hit at e in cc
  | inr miss ↦ elim ((Contains-cons x y xs).0 is) [
    | inl same ↦ let other : test x ≡ false = ap test same ∙ miss in cc
    | inr behind ↦ find_none test xs x (rw miss at e) behind passes
  ]
]

same_number : (i j : ℕ) → (i == j) ≡ true → i ≡ j
same_number i j e = eqb-true i j e

module _ (rules : List Rule) (guards : List Guard) (n : ℕ) (over : (g : Guard) → Contains (map (λ (r : Rule). r.guard) rules ++ guards) g → IsOver n g)
    (rules_over : (i : ℕ) (r : Rule) → slice_get rules i ≡ Some r → IsRuleOver n r) where
  abbrev s : System
  s = system rules guards n

  pub tree_here : (j : ℕ) (p : Place) (r : Rule) (x : LabelTree) → slice_get (places rules) j ≡ Some p → slice_get rules p.0 ≡ Some r → node_at p.1 (forest_of r) ≡ Some x → kind_tree rules j ≡ x
  tree_here j p r x place rule at = rw (place, rule, at) refl

  -- a kind's place, and its tree
  pub record IsPlace (i : ℕ) (kind : Kind) (p : Place) (r : Rule) (x : LabelTree) : Type 0 where
    pub place : slice_get (places rules) i ≡ Some p
    pub rule : slice_get rules p.0 ≡ Some r
    pub node : Contains (nodes_of r) p.1
    pub there : node_at p.1 (forest_of r) ≡ Some x
    pub tree : kind_tree rules i ≡ x
    pub made : kind ≡ kind_of rules guards n p.0 r p.1

  pub place_of_kind : (i : ℕ) (kind : Kind) → slice_get s.kinds i ≡ Some kind → (p : Place) × (r : Rule) × (x : LabelTree) × IsPlace i kind p r x
  place_of_kind i kind at =
      let of = kind_is rules guards n over rules_over i kind at in
      let node' = place_node rules guards n over rules_over i of.0 of.1 of.2 of.3 in
      let here = there (node_at of.0.1 (forest_of of.1)) (node_is rules guards n of.1 of.0.1 node') in
      (of.0, of.1, here.0, record { place = of.2; rule = of.3; node = node'; there = here.1; tree = tree_here i of.0 of.1 here.0 of.2 of.3 here.1; made = of.4 })

  -- a kind that stands in no other is a top node of its forest
  pub top_kind : (i : ℕ) (kind : Kind) → slice_get s.kinds i ≡ Some kind → kind.above ≡ None
      → (p : Place) × (r : Rule) × (k : ℕ) × (slice_get rules p.0 ≡ Some r) × (p.1 ≡ k ∷ []) × Contains (nodes_of r) p.1 × (kind ≡ kind_of rules guards n p.0 r (k ∷ []))
      × (slice_get (tops_of r.action) k ≡ Some (kind_tree rules i)) × (length (tops_of r.action) ≡ kind.siblings)
  top_kind i kind at above =
      let of = place_of_kind i kind at in
      let p = of.0 in
      let r = of.1 in
      let x = of.2 in
      elim (path_cases r p.1 of.3.node) [
        | inl (k, path) ↦
            let made : kind ≡ kind_of rules guards n p.0 r (k ∷ []) = of.3.made ∙ ap (kind_of rules guards n p.0 r) path in
            let here : node_at (k ∷ []) (forest_of r) ≡ Some x = subst (λ z. node_at z (forest_of r) ≡ Some x) path of.3.there in
            let row : tree_of ((forest_of r).below) k ≡ Some x = one_down (tree_of ((forest_of r).below) k) x here in
            let long = length_of-push_trees (tops_of r.action) no_nodes in
            let count : kind.siblings ≡ length_of ((forest_of r).below) = ap (λ (z : Kind). z.siblings) made in
            (p, r, k, of.3.rule, path, of.3.node, made, sym (row_get (tops_of r.action) k) ∙ row ∙ ap Some (sym of.3.tree), omega (arith, long, count))
        | inr (y, q, m, path) ↦
            let above' : kind.above ≡ Some (kind_at rules guards n (p.0, y ∷ q)) =
            ap (λ (z : Kind). z.above) of.3.made ∙ ap (kind_above rules guards n p.0) path ∙ above_child rules guards n over rules_over p.0 y m q in
            let never : None ≡ Some (kind_at rules guards n (p.0, y ∷ q)) = sym above ∙ above' in
            absurd (cc)
      ]
    where
      one_down : (o : Option LabelTree) (x : LabelTree) → option_and_then (node_at []) o ≡ Some x → o ≡ Some x
      one_down None x e = cc
      one_down (Some y) x e = e

  -- a kind that stands in another
  pub record IsInner (i j : ℕ) (kind : Kind) : Type 0 where
    pub outer : LabelTree
    pub its_tree : kind_tree rules j ≡ outer
    pub number : tree_of outer.below kind.number ≡ Some (kind_tree rules i)
    pub count : kind.siblings ≡ length_of outer.below

  pub inner_kind : (i j : ℕ) (kind : Kind) → slice_get s.kinds i ≡ Some kind → kind.above ≡ Some j → IsInner i j kind
  inner_kind i j kind at above =
      let of = place_of_kind i kind at in
      let p = of.0 in
      let r = of.1 in
      let x = of.2 in
      elim (path_cases r p.1 of.3.node) [
        | inl (k, path) ↦
            let above' : kind.above ≡ None = ap (λ (z : Kind). z.above) of.3.made ∙ ap (kind_above rules guards n p.0) path in
            let never : None ≡ Some j = sym above' ∙ above in
            absurd (cc)
        | inr (y, q, m, path) ↦
            let above' : kind.above ≡ Some (kind_at rules guards n (p.0, y ∷ q)) =
            ap (λ (z : Kind). z.above) of.3.made ∙ ap (kind_above rules guards n p.0) path ∙ above_child rules guards n over rules_over p.0 y m q in
            let some : Some (kind_at rules guards n (p.0, y ∷ q)) ≡ Some j = sym above' ∙ above in
            let number : kind_at rules guards n (p.0, y ∷ q) ≡ j = cc in
            let here : node_at ((y ∷ q) ++ m ∷ []) (forest_of r) ≡ Some x = subst (λ z. node_at z (forest_of r) ≡ Some x) path of.3.there in
            let family = node_at-child (y ∷ q) m (forest_of r) (rw here refl) in
            let outer = family.0 in
            let split = split_last y q in
            let listed : Contains (nodes_of r) (y ∷ q) =
            subst (λ z. Contains (nodes_of r) z) (sym split.2) (is_node rules guards n r split.0 split.1 (subst (λ z. IsSome (node_at z (forest_of r))) split.2 (rw family.2 refl))) in
            let place : slice_get {X = Place} (places rules) j ≡ Some (p.0, y ∷ q) = ap (slice_get (places rules)) (sym number) ∙ place_there rules guards n p.0 r (y ∷ q) of.3.rule listed in
            let child = child_node_at (y ∷ q) m (forest_of r) outer family.1 family.2 family.3 in
            let same : Some family.1 ≡ Some x = sym child ∙ here in
            let made : kind ≡ kind_of rules guards n p.0 r ((y ∷ q) ++ m ∷ []) = of.3.made ∙ ap (kind_of rules guards n p.0 r) path in
            let last : kind.number ≡ m = ap (λ (z : Kind). z.number) made ∙ last_number-child (y ∷ q) m in
            record {
              outer = outer;
              its_tree = tree_here j (p.0, y ∷ q) r outer place of.3.rule family.2;
              number = ap (tree_of outer.below) last ∙ family.3 ∙ same ∙ ap Some (sym of.3.tree);
              count = ap (λ (z : Kind). z.siblings) made ∙ ap (λ (o : Option (List ℕ)). unwrap_or (option_map (children_in r) o) 0) (parent_of-child (y ∷ q) m)
                  ∙ ap (λ (o : Option LabelTree). unwrap_or (option_map (λ t. length_of t.below) o) 0) family.2;
            }
      ]

  -- a kind's tree has as many children as the kinds below it count
  pub kind_children : (j : ℕ) (kind : Kind) → slice_get s.kinds j ≡ Some kind → length_of (kind_tree rules j).below ≡ forest_children s j
  kind_children j kind at = elim (find (is_below s j) s.kinds) as (λ o. find (is_below s j) s.kinds ≡ o → length_of (kind_tree rules j).below ≡ unwrap_or (option_map (λ (k : Kind). k.siblings) o) 0) [
    | Some k ↦ λ e.
        let found = find_some (is_below s j) s.kinds k e in
        let place = at_Contains s.kinds k found.0 in
        let inner = inner_kind place.0 j k place.1 (above_is k found.1) in
        ap (λ (z : LabelTree). length_of z.below) inner.its_tree ∙ sym inner.count
    | None ↦ λ e.
        let of = place_of_kind j kind at in
        let none = no_child of.0 of.1 of.2 of.3 e in
        ap (λ (z : LabelTree). length_of z.below) of.3.tree ∙ none
  ] refl
    where
      above_is : (k : Kind) → is_below s j k ≡ true → k.above ≡ Some j
      above_is k e = elim k.above as (λ o. unwrap_or (option_map (λ i. i == j) o) false ≡ true → o ≡ Some j) [
        | None ↦ λ e. cc
        | Some i ↦ λ e. ap Some (same_number i j e)
      ] e

      no_child : (p : Place) (r : Rule) (x : LabelTree) → IsPlace j kind p r x → find (is_below s j) s.kinds ≡ None → length_of x.below ≡ 0
      no_child p r x is e = elim x.below as (λ row. x.below ≡ row → length_of row ≡ 0) [
        | no_nodes ↦ λ same. refl
        | node l below next ↦ λ same.
            let first : tree_of x.below 0 ≡ Some (record { label = l; below = below }) = rw same refl in
            let child = child_node_at p.1 0 (forest_of r) x (record { label = l; below = below }) is.there first in
            let listed = is_node rules guards n r p.1 0 (rw child refl) in
            let place = place_there rules guards n p.0 r (p.1 ++ 0 ∷ []) is.rule listed in
            let found = beside_get _ (places rules) s.kinds (kind_at rules guards n (p.0, p.1 ++ 0 ∷ [])) (p.0, p.1 ++ 0 ∷ []) (places_beside rules guards n) place in
            let k = found.0 in
            let rule' : Some found.2.0 ≡ Some r = sym found.2.1 ∙ is.rule in
            let rule'' : found.2.0 ≡ r = cc in
            let once : kind_at rules guards n p ≡ j = places_once 0 rules (kind_at rules guards n p) j p (place_there rules guards n p.0 r p.1 is.rule is.node) is.place in
            let above : k.above ≡ Some j =
            ap (λ (z : Kind). z.above) found.2.2 ∙ above_inner rules guards n over rules_over p.0 r 0 p.1 is.node ∙ ap Some once in
            absurd (find_none (is_below s j) s.kinds k e (Contains-at s.kinds _ k found.1) (rw above (eq-eqb j j refl)))
      ] refl

-- The system is sound, where there are few forest nodes and few atoms.
use Rattle.std.proofs.Common.{◌≡◌, ℕ, zero, suc, ◌+◌, ◌<◌, ◌≤◌, true, List, [], ◌∷◌, ◌++◌, length, map, Option, Some, None, option_map, option_and_then, unwrap_or, IfSome, All, Contains, refl, sym, ap, ◌∙◌, subst, inl, inr, arith, length-append}
use Rattle.std.specs.Prelude.{slice_get, nat_lt}
use Rattle.std.specs.List.{flat_map}
use Rattle.std.proofs.lemmas.Bool.{cases_Bool, lt-ltb}
use Rattle.std.proofs.lemmas.List.{length-map}
use Rattle.std.proofs.lemmas.List.Elements.{All-nil, All-cons, All-contains, Contains-append_left, Contains-append_right, Contains-append_cases}
use Rattle.tp_base.specs.declared.atoms.TheConstants.{MOST_ATOMS}
use Rattle.tp_base.specs.Classes.{with_class}
use Rattle.tp_base.proofs.ClassLemmas.{Contains-with_class, Contains-union_of}
use Rattle.tp_base.proofs.Rising.{Contains-cons, Contains-none, All-from_Contains}
use Rattle.tp_base.proofs.Lists.{Contains-at, flat_map-Contains}
use Rattle.tree_sem.specs.Trees as tree
use Rattle.tree_sem.specs.Trees.{Row, no_nodes, node, LabelTree, tree_of, length_of, node_at, label_at}
use Rattle.tree_sem.specs.Order.{paths_from}
use Rattle.tree_sem.specs.Paths.{parent_of, last_number}
use Rattle.tree_sem.proofs.RowLemmas.{there, node_at-child, tree_of-number}
use Rattle.tree_sem.proofs.PathLemmas.{parent_of-child, last_number-child}
use Rattle.tree_sem.proofs.NodeLemmas.{Contains-map, map-Contains, length-paths_from}
use Rattle.simple_core.specs.declared.rules.Local.{Local}
use Rattle.simple_core.specs.declared.rules.Link.{Link}
use Rattle.simple_core.specs.declared.rules.Spawn.{Spawn}
use Rattle.simple_core.specs.declared.rules.Kind.{Kind}
use Rattle.simple_core.specs.declared.system.System.{System}
use Rattle.simple_core.specs.declared.system.TheConstants.{MOST_KINDS}
use Rattle.simple_core.specs.Systems.{IsAtom, IsSound}
use Rattle.simple_core.specs.Labels.{set_of}
use Rattle.guard_sem.specs.Guards.{Guard, always, atom, all, any, parent, ancestor, child, descendant, somewhere, Guards, no_guards, guard, parts, same_guard}
use Rattle.guard_sem.specs.declared.rules.Rule.{Rule}
use Rattle.guard_sem.proofs.SameGuards.{same_guard-sound, same_guard-itself}
use Rattle.guard_simplify.specs.Firsts.{different}
use Rattle.guard_simplify.specs.Auxiliaries.{formulas, forest_of, nodes_of, children_in, Place, same_place, by_rule, places, Auxiliary, formula, owner, seen, same_auxiliary, auxiliaries}
use Rattle.guard_simplify.specs.Simplified.{atom_for, atom_of, kind_at, classes_of, formula_locals, formula_ups, formula_downs, action_locals, action_spawns, seen_local, seen_down, kind_above, label_in, kind_of, system}
use Rattle.guard_simplify.specs.Law.{IsFor, IsOver, IsRuleOver}
use Rattle.guard_simplify.proofs.NumberLemmas.{different-Contains, place_within, same_auxiliary-sound, same_auxiliary-itself, same_place-sound, same_place-itself}
use Rattle.guard_simplify.proofs.Meanings.{Known, KnownAll}
use Rattle.guard_simplify.proofs.FormulaLemmas.{formula_known, known, inside_listed, seen_is}
use Rattle.guard_simplify.proofs.ForestLemmas.{owner_is, by_rule-Contains, Contains-by_rule, node_is, spawn_cases, Beside, kinds_beside}
use Rattle.guard_simplify.proofs.Order.{earlier_place, place_first}
use Rattle.tree_sem.specs.Nodes.{IsNode}

beside_length : {X Y : Type 0} (R : X → Y → Type 0) (xs : List X) (ys : List Y) → Beside R xs ys → length xs ≡ length ys
beside_length R [] [] b = refl
beside_length R [] (y ∷ ys) b = absurd b
beside_length R (x ∷ xs) [] b = absurd b
beside_length R (x ∷ xs) (y ∷ ys) b = ap suc (beside_length R xs ys b.1)

pub beside_back : {X Y : Type 0} (R : X → Y → Type 0) (xs : List X) (ys : List Y) (j : ℕ) (y : Y) → Beside R xs ys → slice_get ys j ≡ Some y → (x : X) × (slice_get xs j ≡ Some x) × R x y
beside_back R [] [] j y b at = cc
beside_back R [] (y' ∷ ys) j y b at = absurd b
beside_back R (x ∷ xs) [] j y b at = absurd b
beside_back R (x ∷ xs) (y' ∷ ys) zero y b at = let same : y' ≡ y = cc in (x, refl, subst (λ z. R x z) same b.0)
beside_back R (x ∷ xs) (y' ∷ ys) (suc j) y b at = beside_back R xs ys j y b.1 at

-- a path that isn't empty: its front and its last number
pub split_last : (k : ℕ) (q : List ℕ) → (p : List ℕ) × (m : ℕ) × (k ∷ q ≡ p ++ m ∷ [])
split_last k [] = ([], k, refl)
split_last k (l ∷ q) = let rest = split_last l q in (k ∷ rest.0, rest.1, ap (λ z. k ∷ z) rest.2)

length_of-nodes : (row : Row) → length_of row ≤ tree.nodes_of row
length_of-nodes no_nodes = omega arith
length_of-nodes (node l below next) = let rest = length_of-nodes next in omega arith

nodes_of-tree : (row : Row) (k : ℕ) (t : LabelTree) → tree_of row k ≡ Some t → tree.nodes_of t.below ≤ tree.nodes_of row
nodes_of-tree no_nodes k t at = cc
nodes_of-tree (node l below next) zero t at =
    let same : record { label = l; below = below } ≡ t = cc in
    let count : tree.nodes_of below ≡ tree.nodes_of t.below = ap (λ (z : LabelTree). tree.nodes_of z.below) same in
    omega arith
nodes_of-tree (node l below next) (suc k) t at = let rest = nodes_of-tree next k t at in omega arith

-- a tree has no fewer nodes than a tree in it
nodes_below : (p : List ℕ) (t u : LabelTree) → node_at p t ≡ Some u → tree.nodes_of u.below ≤ tree.nodes_of t.below
nodes_below [] t u at = let same : t ≡ u = cc in let count : tree.nodes_of t.below ≡ tree.nodes_of u.below = ap (λ (z : LabelTree). tree.nodes_of z.below) same in omega arith
nodes_below (k ∷ p) t u at = elim (tree_of t.below k) as (λ o. tree_of t.below k ≡ o → option_and_then (node_at p) o ≡ Some u → tree.nodes_of u.below ≤ tree.nodes_of t.below) [
  | None ↦ λ e at. cc
  | Some c ↦ λ e at. let inner = nodes_below p c u at in let here = nodes_of-tree t.below k c e in omega arith
] refl at

-- no path of a row is empty
pub no_root : (d : ℕ) (row : Row) → Contains (paths_from d row) [] → ⊥
no_root d no_nodes is = Contains-none [] is
no_root d (node l below next) is = elim (Contains-append_cases (map (λ (q : List ℕ). d ∷ q) ([] ∷ paths_from 0 below)) (paths_from (suc d) next) [] is) [
  | inl here ↦ let of = map-Contains (λ (q : List ℕ). d ∷ q) ([] ∷ paths_from 0 below) [] here in let same = of.2 in cc
  | inr later ↦ no_root (suc d) next later
]

few_from : (i0 : ℕ) (rules : List Rule) (i : ℕ) (r : Rule) → slice_get rules i ≡ Some r → length (nodes_of r) ≤ length {A = Place} (by_rule (λ i r. map (λ q. (i, q)) (nodes_of r)) i0 rules)
few_from i0 [] i r rule = cc
few_from i0 (r' ∷ rules) zero r rule =
    let same : r' ≡ r = cc in
    let mine : List Place = map (λ q. (i0, q)) (nodes_of r') in
    let others : List Place = by_rule (λ i r. map (λ q. (i, q)) (nodes_of r)) (suc i0) rules in
    let long : length (mine ++ others) ≡ length mine + length others = length-append mine others in
    let first : length mine ≡ length (nodes_of r') = length-map (nodes_of r') (λ (q : List ℕ). let p : Place = (i0, q) in p) in
    let count : length (nodes_of r') ≡ length (nodes_of r) = ap (λ (z : Rule). length (nodes_of z)) same in
    omega (arith, long, first, count)
few_from i0 (r' ∷ rules) (suc i) r rule =
    let rest = few_from (suc i0) rules i r rule in
    let mine : List Place = map (λ q. (i0, q)) (nodes_of r') in
    let others : List Place = by_rule (λ i r. map (λ q. (i, q)) (nodes_of r)) (suc i0) rules in
    let long : length (mine ++ others) ≡ length mine + length others = length-append mine others in
    omega (arith, long, rest)

module _ (rules : List Rule) (guards : List Guard) (n : ℕ) where
  abbrev s : System
  s = system rules guards n

  pub places_beside : Beside (λ (p : Place) (k : Kind). (r : Rule) × (slice_get rules p.0 ≡ Some r) × (k ≡ kind_of rules guards n p.0 r p.1)) (places rules) s.kinds
  places_beside = kinds_beside rules guards n 0 rules (λ j r' at'. subst (λ k. slice_get rules k ≡ Some r') {x = j} (omega arith) at')

  count_kinds : length s.kinds ≡ length (places rules)
  count_kinds = sym (beside_length _ (places rules) s.kinds places_beside)

  -- the kind above comes earlier
  above_earlier : (i : ℕ) (k : Kind) → slice_get s.kinds i ≡ Some k → IfSome k.above (λ j. j < i)
  above_earlier i k at =
      let of = beside_back _ (places rules) s.kinds i k places_beside at in
      let p = of.0 in
      subst (λ (z : Kind). IfSome z.above (λ j. j < i)) (sym of.2.2) (by_path p.0 p.1 of.1)
    where
      by_path : (j : ℕ) (q : List ℕ) → slice_get (places rules) i ≡ Some (j, q) → IfSome (kind_above rules guards n j q) (λ j. j < i)
      by_path j [] at = tt
      by_path j (x ∷ []) at = tt
      by_path j (x ∷ y ∷ q) at =
          let split = split_last y q in
          let whole : x ∷ y ∷ q ≡ x ∷ (split.0 ++ split.1 ∷ []) = ap (λ z. x ∷ z) split.2 in
          let before = earlier_place 0 rules i j x split.1 split.0 (at ∙ ap (λ (z : List ℕ). Some (j, z)) whole) in
          let first = place_first same_place same_place-itself (places rules) (j, x ∷ split.0) before.0 before.2 in
          let parent' : parent_of (x ∷ y ∷ q) ≡ Some (x ∷ split.0) = ap parent_of whole ∙ parent_of-child (x ∷ split.0) split.1 in
          rw parent' (omega (arith, first, before.1))

  -- a node's number is below the count of its siblings, which are no more than the nodes of the forest
  siblings_right : (r : Rule) (q : List ℕ) → Contains (nodes_of r) q
      → (last_number q < unwrap_or (option_map (children_in r) (parent_of q)) 0) × (unwrap_or (option_map (children_in r) (parent_of q)) 0 ≤ length (nodes_of r))
  siblings_right r [] is = absurd (no_root 0 (forest_of r).below is)
  siblings_right r (x ∷ q) is =
      let split = split_last x q in
      let p = split.0 in
      let m = split.1 in
      let node' : IsNode (forest_of r) (p ++ m ∷ []) = subst (λ z. IsNode (forest_of r) z) split.2 (node_is rules guards n r (x ∷ q) is) in
      let family = node_at-child p m (forest_of r) node' in
      let less = tree_of-number family.0.below m family.1 family.3 in
      let count : unwrap_or (option_map (children_in r) (parent_of (x ∷ q))) 0 ≡ length_of family.0.below =
      ap (λ (z : List ℕ). unwrap_or (option_map (children_in r) (parent_of z)) 0) split.2
      ∙ ap (λ (o : Option (List ℕ)). unwrap_or (option_map (children_in r) o) 0) (parent_of-child p m)
      ∙ ap (λ (o : Option LabelTree). unwrap_or (option_map (λ t. length_of t.below) o) 0) family.2 in
      let number : last_number (x ∷ q) ≡ m = ap last_number split.2 ∙ last_number-child p m in
      let few = length_of-nodes family.0.below in
      let fewer = nodes_below p (forest_of r) family.0 family.2 in
      let all_nodes = length-paths_from (forest_of r).below 0 in
      (omega (arith, less, count, number), omega (arith, count, few, fewer, all_nodes))

  few_of_rule : (i : ℕ) (r : Rule) → slice_get rules i ≡ Some r → length (nodes_of r) ≤ length (places rules)
  few_of_rule i r rule = few_from 0 rules i r rule

  kind_siblings : length (places rules) ≤ MOST_KINDS → All (λ k. (k.number < k.siblings) × (k.siblings ≤ MOST_KINDS)) s.kinds
  kind_siblings few = All-from_Contains (λ (k : Kind). (k.number < k.siblings) × (k.siblings ≤ MOST_KINDS)) s.kinds (λ k is.
      let of = by_rule-Contains (λ i r. map (kind_of rules guards n i r) (nodes_of r)) 0 rules k is in
      let made = map-Contains (kind_of rules guards n (0 + of.0) of.1) (nodes_of of.1) k of.3 in
      let right = siblings_right of.1 made.0 made.1 in
      let few' = few_of_rule of.0 of.1 of.2 in
      subst (λ (z : Kind). (z.number < z.siblings) × (z.siblings ≤ MOST_KINDS)) (sym made.2) (right.0, omega (arith, right.1, few, few')))

  kind_within : (i : ℕ) (r : Rule) (q : List ℕ) → slice_get rules i ≡ Some r → Contains (nodes_of r) q → kind_at rules guards n (i, q) < length s.kinds
  kind_within i r q rule is =
      let listed : Contains (places rules) (i, q) = Contains-by_rule (λ i r. map (λ q. (i, q)) (nodes_of r)) 0 rules i r (i, q) rule
      (subst (λ k. Contains {X = Place} (map (λ q. (k, q)) (nodes_of r)) (i, q)) {x = i} (omega arith) (Contains-map (λ q. (i, q)) (nodes_of r) q is)) in
      let within = place_within same_place same_place-sound same_place-itself (places rules) (i, q) listed in
      let count = count_kinds in
      omega (arith, within, count)

  spawns_within : All (λ c. c.kind < length s.kinds) s.child
  spawns_within = All-from_Contains (λ (c : Spawn). c.kind < length s.kinds) s.child (λ c is.
      let of = by_rule-Contains (action_spawns rules guards n) 0 rules c is in
      let i = of.0 in
      let r = of.1 in
      elim (spawn_cases rules guards n i r c (subst (λ k. Contains (action_spawns rules guards n k r) c) {x = 0 + i} (omega arith) of.3)) [
        | inl (k, is', same) ↦ subst (λ (z : Spawn). z.kind < length s.kinds) (sym same) (kind_within i r (k ∷ []) of.2 is')
        | inr (q, k, is', less, is'', same) ↦ subst (λ (z : Spawn). z.kind < length s.kinds) (sym same) (kind_within i r (q ++ k ∷ []) of.2 is'')
      ])

  -- all atoms of the system are below the limit, where those of the table and of the auxiliaries are
  module _ (few : n + length (auxiliaries rules guards) ≤ MOST_ATOMS) (over : (g : Guard) → Contains (map (λ (r : Rule). r.guard) rules ++ guards) g → IsOver n g)
      (rules_over : (i : ℕ) (r : Rule) → slice_get rules i ≡ Some r → IsRuleOver n r) where
    abbrev at : Guard → ℕ
    at g = atom_of rules guards n g

    plain_atom : (a : ℕ) → a < n → IsAtom a
    plain_atom a lt = omega (arith, few, lt)

    auxiliary_atom : (x : Auxiliary) → Contains (auxiliaries rules guards) x → IsAtom (atom_for rules guards n x)
    auxiliary_atom x listed = let within = place_within same_auxiliary same_auxiliary-sound same_auxiliary-itself (auxiliaries rules guards) x listed in omega (arith, within, few)

    formula_atom : (g : Guard) (a : ℕ) → IsFor rules guards n a (formula g) → IsAtom a
    formula_atom g a is = subst IsAtom (sym is.1) (auxiliary_atom (formula g) is.0)

    known_atom : (g : Guard) → Known rules guards n g → IsAtom (at g)
    known_atom always k = formula_atom always (at always) k
    known_atom (atom a) k = plain_atom a k
    known_atom (all gs) k = formula_atom (all gs) (at (all gs)) k.0
    known_atom (any gs) k = formula_atom (any gs) (at (any gs)) k.0
    known_atom (parent g) k = formula_atom (parent g) (at (parent g)) k.0
    known_atom (ancestor g) k = formula_atom (ancestor g) (at (ancestor g)) k.0
    known_atom (child g) k = formula_atom (child g) (at (child g)) k.0
    known_atom (descendant g) k = formula_atom (descendant g) (at (descendant g)) k.0
    known_atom (somewhere g) k = formula_atom (somewhere g) (at (somewhere g)) k.0

    part_known : (gs : Guards) → KnownAll rules guards n gs → (g : Guard) → Contains (parts gs) g → Known rules guards n g
    part_known no_guards k g is = absurd (Contains-none g is)
    part_known (guard h gs) k g is = elim ((Contains-cons g h (parts gs)).0 is) [
      | inl same ↦ subst (Known rules guards n) (sym same) k.0
      | inr behind ↦ part_known gs k.1 g behind
    ]

    all_two : (a b : ℕ) → IsAtom a → IsAtom b → All IsAtom (a ∷ b ∷ [])
    all_two a b x y = All-cons IsAtom a (b ∷ []) x (All-cons IsAtom b [] y (All-nil IsAtom))

    abbrev AreAtoms : Local → Type 0
    AreAtoms r = All IsAtom (r.gives ∷ r.needs)

    the_only : {X : Type 0} (P : X → Type 0) (x y : X) → Contains (x ∷ []) y → P x → P y
    the_only P x y is p = elim ((Contains-cons y x []).0 is) [ inl same ↦ subst P (sym same) p | inr none ↦ absurd (Contains-none y none) ]

    formula_local_atoms : (f : Guard) → Known rules guards n f → (r : Local) → Contains (formula_locals rules guards n f) r → AreAtoms r
    formula_local_atoms always k r is = the_only AreAtoms _ r is (All-cons IsAtom (at always) [] (known_atom always k) (All-nil IsAtom))
    formula_local_atoms (atom a) k r is = absurd (Contains-none r is)
    formula_local_atoms (all gs) k r is = the_only AreAtoms _ r is (All-cons IsAtom (at (all gs)) (set_of (map at (parts gs))) (known_atom (all gs) k)
        (All-from_Contains IsAtom (set_of (map at (parts gs))) (λ a listed. elim ((Contains-union_of [] (map at (parts gs)) a).0 listed) [
          | inl none ↦ absurd (Contains-none a none)
          | inr mapped ↦ let of = map-Contains at (parts gs) a mapped in subst IsAtom (sym of.2) (known_atom of.0 (part_known gs k.1 of.0 of.1))
        ])))
    formula_local_atoms (any gs) k r is =
        let of = map-Contains _ (parts gs) r is in
        subst AreAtoms (sym of.2) (all_two (at (any gs)) (at of.0) (known_atom (any gs) k) (known_atom of.0 (part_known gs k.1 of.0 of.1)))
    formula_local_atoms (parent g) k r is = absurd (Contains-none r is)
    formula_local_atoms (ancestor g) k r is = absurd (Contains-none r is)
    formula_local_atoms (child g) k r is = absurd (Contains-none r is)
    formula_local_atoms (descendant g) k r is = absurd (Contains-none r is)
    formula_local_atoms (somewhere g) k r is = the_only AreAtoms _ r is (all_two (at (somewhere g)) (at g) (known_atom (somewhere g) k) (known_atom g k.1))

    abbrev AreEnds : Link → Type 0
    AreEnds l = IsAtom l.from × IsAtom l.to

    one_of_two : (x y l : Link) → Contains (x ∷ y ∷ []) l → AreEnds x → AreEnds y → AreEnds l
    one_of_two x y l is ends ends' = elim ((Contains-cons l x (y ∷ [])).0 is) [ inl same ↦ subst AreEnds (sym same) ends | inr second ↦ the_only AreEnds y l second ends' ]

    formula_up_atoms : (f : Guard) → Known rules guards n f → (l : Link) → Contains (formula_ups rules guards n f) l → AreEnds l
    formula_up_atoms always k l is = absurd (Contains-none l is)
    formula_up_atoms (atom a) k l is = absurd (Contains-none l is)
    formula_up_atoms (all gs) k l is = absurd (Contains-none l is)
    formula_up_atoms (any gs) k l is = absurd (Contains-none l is)
    formula_up_atoms (parent g) k l is = the_only AreEnds _ l is (known_atom g k.1, known_atom (parent g) k)
    formula_up_atoms (ancestor g) k l is = one_of_two _ _ l is (known_atom g k.1, known_atom (ancestor g) k) (known_atom (ancestor g) k, known_atom (ancestor g) k)
    formula_up_atoms (child g) k l is = absurd (Contains-none l is)
    formula_up_atoms (descendant g) k l is = absurd (Contains-none l is)
    formula_up_atoms (somewhere g) k l is = the_only AreEnds _ l is (known_atom (somewhere g) k, known_atom (somewhere g) k)

    formula_down_atoms : (f : Guard) → Known rules guards n f → (l : Link) → Contains (formula_downs rules guards n f) l → AreEnds l
    formula_down_atoms always k l is = absurd (Contains-none l is)
    formula_down_atoms (atom a) k l is = absurd (Contains-none l is)
    formula_down_atoms (all gs) k l is = absurd (Contains-none l is)
    formula_down_atoms (any gs) k l is = absurd (Contains-none l is)
    formula_down_atoms (parent g) k l is = absurd (Contains-none l is)
    formula_down_atoms (ancestor g) k l is = absurd (Contains-none l is)
    formula_down_atoms (child g) k l is = the_only AreEnds _ l is (known_atom g k.1, known_atom (child g) k)
    formula_down_atoms (descendant g) k l is = one_of_two _ _ l is (known_atom g k.1, known_atom (descendant g) k) (known_atom (descendant g) k, known_atom (descendant g) k)
    formula_down_atoms (somewhere g) k l is = the_only AreEnds _ l is (known_atom (somewhere g) k, known_atom (somewhere g) k)

    guard_known : (g : Guard) → Contains (map (λ (r : Rule). r.guard) rules ++ guards) g → Known rules guards n g
    guard_known g is = known rules guards n g (over g is) (inside_listed rules guards n g is)

    rule_guard : (i : ℕ) (r : Rule) → slice_get rules i ≡ Some r → IsAtom (at r.guard)
    rule_guard i r rule = known_atom r.guard (guard_known r.guard (Contains-append_left (map (λ (r : Rule). r.guard) rules) guards r.guard (Contains-map (λ (r : Rule). r.guard) rules r (Contains-at rules i r rule))))

    handed : (g : Guard) → Contains (different same_guard guards) g → Contains guards g
    handed g is = (different-Contains same_guard same_guard-sound same_guard-itself guards g).0 is

    seen_atom : (g : Guard) → Contains (different same_guard guards) g → IsAtom (atom_for rules guards n (seen g))
    seen_atom g is = auxiliary_atom (seen g) (seen_is rules guards n g (handed g is))

    locals_below : All (λ r. All IsAtom (r.gives ∷ r.needs)) s.local
    locals_below = All-from_Contains (λ (r : Local). All IsAtom (r.gives ∷ r.needs)) s.local (λ r is.
        let F = flat_map (formula_locals rules guards n) (formulas rules guards) in
        let A = by_rule (action_locals rules guards n) 0 rules in
        elim (Contains-append_cases (F ++ A) (map (seen_local rules guards n) (different same_guard guards)) r is) [
          | inl first ↦ elim (Contains-append_cases F A r first) [
            | inl by_formula ↦
                let of = flat_map-Contains (formula_locals rules guards n) (formulas rules guards) r by_formula in
                formula_local_atoms of.0 (formula_known rules guards n over of.0 of.1).1 r of.2
            | inr by_action ↦
                let of = by_rule-Contains (action_locals rules guards n) 0 rules r by_action in
                let class = map-Contains _ (classes_of of.1.action) r of.3 in
                subst AreAtoms (sym class.2) (all_two class.0 (at of.1.guard) (plain_atom class.0 (All-contains (λ a. a < n) (classes_of of.1.action) class.0 (rules_over of.0 of.1 of.2).classes class.1)) (rule_guard of.0 of.1 of.2))
          ]
          | inr by_seen ↦
              let of = map-Contains (seen_local rules guards n) (different same_guard guards) r by_seen in
              subst AreAtoms (sym of.2) (all_two (atom_for rules guards n (seen of.0)) (at of.0) (seen_atom of.0 of.1)
              (known_atom of.0 (guard_known of.0 (Contains-append_right (map (λ (r : Rule). r.guard) rules) guards of.0 (handed of.0 of.1)))))
        ])

    ups_below : All (λ l. IsAtom l.from × IsAtom l.to) s.up
    ups_below = All-from_Contains (λ (l : Link). IsAtom l.from × IsAtom l.to) s.up (λ l is.
        let of = flat_map-Contains (formula_ups rules guards n) (formulas rules guards) l is in
        formula_up_atoms of.0 (formula_known rules guards n over of.0 of.1).1 l of.2)

    downs_below : All (λ l. IsAtom l.from × IsAtom l.to) s.down
    downs_below = All-from_Contains (λ (l : Link). IsAtom l.from × IsAtom l.to) s.down (λ l is.
        elim (Contains-append_cases (flat_map (formula_downs rules guards n) (formulas rules guards)) (map (seen_down rules guards n) (different same_guard guards)) l is) [
          | inl by_formula ↦
              let of = flat_map-Contains (formula_downs rules guards n) (formulas rules guards) l by_formula in
              formula_down_atoms of.0 (formula_known rules guards n over of.0 of.1).1 l of.2
          | inr by_seen ↦
              let of = map-Contains (seen_down rules guards n) (different same_guard guards) l by_seen in
              subst AreEnds (sym of.2) (seen_atom of.0 of.1, seen_atom of.0 of.1)
        ])

    owner_atom : (i : ℕ) (r : Rule) (q : List ℕ) → slice_get rules i ≡ Some r → Contains (nodes_of r) q → nat_lt 0 (children_in r q) ≡ true → IsAtom (atom_for rules guards n (owner (i, q)))
    owner_atom i r q rule is more = auxiliary_atom (owner (i, q)) (owner_is rules guards n i r q rule is more)

    spawns_below' : All (λ c. IsAtom c.needs) s.child
    spawns_below' = All-from_Contains (λ (c : Spawn). IsAtom c.needs) s.child (λ c is.
        let of = by_rule-Contains (action_spawns rules guards n) 0 rules c is in
        let i = of.0 in
        let r = of.1 in
        elim (spawn_cases rules guards n i r c (subst (λ k. Contains (action_spawns rules guards n k r) c) {x = 0 + i} (omega arith) of.3)) [
          | inl (k, is', same) ↦ subst (λ (z : Spawn). IsAtom z.needs) (sym same) (rule_guard i r of.2)
          | inr (q, k, is', less, is'', same) ↦ subst (λ (z : Spawn). IsAtom z.needs) (sym same) (owner_atom i r q of.2 is' (lt-ltb 0 (children_in r q) (omega (arith, less))))
        ])

    kinds_below : All (λ k. All IsAtom k.label) s.kinds
    kinds_below = All-from_Contains (λ (k : Kind). All IsAtom k.label) s.kinds (λ k is.
        let of = by_rule-Contains (λ i r. map (kind_of rules guards n i r) (nodes_of r)) 0 rules k is in
        let r = of.1 in
        let made = map-Contains (kind_of rules guards n (0 + of.0) r) (nodes_of r) k of.3 in
        let number : 0 + of.0 ≡ of.0 = omega arith in
        let same : k ≡ kind_of rules guards n of.0 r made.0 = made.2 ∙ ap (λ z. kind_of rules guards n z r made.0) number in
        subst (λ (z : Kind). All IsAtom z.label) (sym same) (All-from_Contains IsAtom (label_in rules guards n of.0 r made.0) (label_below of.0 r made.0 of.2 made.1)))
      where
        label_below : (i : ℕ) (r : Rule) (q : List ℕ) → slice_get rules i ≡ Some r → Contains (nodes_of r) q → (a : ℕ) → Contains (label_in rules guards n i r q) a → IsAtom a
        label_below i r q rule is a listed =
            let here = there (node_at q (forest_of r)) (node_is rules guards n r q is) in
            let label : unwrap_or (label_at q (forest_of r)) [] ≡ here.0.label = ap (λ (o : Option LabelTree). unwrap_or (option_map (λ t. t.label) o) []) here.1 in
            let plain : Contains here.0.label a → IsAtom a = λ mine. plain_atom a ((rules_over i r rule).forest q a (rw here.1 mine)) in
            elim (cases_Bool (nat_lt 0 (children_in r q))) [
              | inl more ↦
                  let own = atom_for rules guards n (owner (i, q)) in
                  let listed' : Contains (with_class own here.0.label) a = rw (more, label) at listed in
                  elim ((Contains-with_class own here.0.label a).0 listed') [
                    | inl same ↦ subst IsAtom (sym same) (owner_atom i r q rule is more)
                    | inr mine ↦ plain mine
                  ]
              | inr no_more ↦ plain (rw (no_more, label) at listed)
            ]

    pub sound : length (places rules) ≤ MOST_KINDS → IsSound s
    sound few_nodes = record {
      spawned = spawns_within;
      few_kinds = let count = count_kinds in omega (arith, count, few_nodes);
      above = above_earlier;
      siblings = kind_siblings few_nodes;
      visible = refl;
      local_atoms = locals_below;
      up_atoms = ups_below;
      down_atoms = downs_below;
      child_atoms = spawns_below';
      kind_atoms = kinds_below;
    }

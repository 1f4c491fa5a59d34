-- The system that is put together from what is counted is that of the definition.
use Rattle.std.proofs.Common.{◌≡◌, ℕ, suc, ◌+◌, ◌≤◌, ◌==◌, Bool, true, false, List, [], ◌∷◌, ◌++◌, length, map, filter, All, Contains, Result, Ok, Err, Some, None, ok_or, option_map, unwrap_or, refl, sym, ap, ◌∙◌, subst, inl, inr, arith}
use Rattle.std.specs.Prelude.{slice_get, nat_lt, get_or, if◌then◌else◌}
use Rattle.std.specs.List.{flat_map}
use Rattle.std.proofs.lemmas.Bool.{cases_Bool, le-ltb, ltb-false}
use Rattle.std.proofs.lemmas.List.{length-map}
use Rattle.std.proofs.lemmas.Option.{get_or_from_slice_get}
use Rattle.tp_base.specs.declared.atoms.TheConstants.{MOST_ATOMS}
use Rattle.tp_base.specs.Classes.{with_class}
use Rattle.tp_base.proofs.Rising.{Contains-here, Contains-behind}
use Rattle.tp_base.proofs.Lists.{map_at, map_alike}
use Rattle.tree_sem.specs.Trees.{label_at}
use Rattle.tree_sem.specs.Paths.{parent_of, last_number}
use Rattle.tree_sem.proofs.NodeLemmas.{Contains-map}
use Rattle.simple_core.specs.declared.rules.Local.{Local}
use Rattle.simple_core.specs.declared.rules.Link.{Link}
use Rattle.simple_core.specs.declared.system.TheConstants.{MOST_KINDS}
use Rattle.simple_core.specs.Systems.{IsSound}
use Rattle.simple_core.proofs.Members.{Contains-filter}
use Rattle.guard_sem.specs.Guards.{Guard, same_guard}
use Rattle.guard_sem.specs.declared.rules.Rule.{Rule}
use Rattle.guard_sem.proofs.SameGuards.{same_guard-sound, same_guard-itself}
use Rattle.guard_simplify.specs.declared.counting.Counted.{Counted}
use Rattle.guard_simplify.specs.declared.formulas.Formulas.{Formulas}
use Rattle.guard_simplify.specs.declared.forest_nodes.ForestNode.{ForestNode}
use Rattle.guard_simplify.specs.declared.simplified.Simplified.{Simplified}
use Rattle.guard_simplify.specs.declared.simplified.SimplifyFault.{SimplifyFault}
use Rattle.guard_simplify.specs.declared.simplified.SimplifyFault.TheVariants.{TooManyVisible}
use Rattle.guard_simplify.specs.declared.simplified.TheConstants.{MOST_VISIBLE}
use Rattle.guard_simplify.specs.Firsts.{different, place_of}
use Rattle.guard_simplify.specs.Auxiliaries.{formulas, forest_of, nodes_of, children_in, Place, same_place, by_rule, places, owners, owner, seen, auxiliaries}
use Rattle.guard_simplify.specs.Simplified.{is_beside, classes_of, atom_for, atom_of, action_locals, action_spawns, spawns_below, kind_above, label_in, kind_of, seen_local, seen_down, ups, system, seen_atoms}
use Rattle.guard_simplify.specs.Law.{IsOver, IsRuleOver}
use Rattle.guard_simplify.specs.Numbered.{stored, kept_of}
use Rattle.guard_simplify.specs.Keys.{atom_in}
use Rattle.guard_simplify.specs.ForestRules.{placed, above_among, own_among, made_label, made_kind, made_spawns, node_spawns, rule_kinds, rule_spawns}
use Rattle.guard_simplify.specs.Forests.{Planted, nodes_in, owners_in}
use Rattle.guard_simplify.specs.SeenRules.{class_locals, class_rules, seen_rules, seen_links, seen_of}
use Rattle.guard_simplify.specs.Counted.{IsNumbering, IsCounted, first_seen, counted_locals, counted_ups, counted_downs, counted_spawns, counted_kinds, left_sides_of, counted_system, counted_seen, counted_visibly}
use Rattle.guard_simplify.specs.Outcome.{simplified}
use Rattle.guard_simplify.proofs.NumberLemmas.{different-Contains}
use Rattle.guard_simplify.proofs.Numbering.{atom_for-owner, atom_for-seen, count_auxiliaries}
use Rattle.guard_simplify.proofs.KeyRuleLemmas.{guards_placed, locals_by_keys, ups_by_keys, downs_by_keys}
use Rattle.guard_simplify.proofs.ForestLemmas.{Contains-by_rule}
use Rattle.guard_simplify.proofs.PlantedLemmas.{by_planted}
use Rattle.guard_simplify.proofs.RuleLists.{by_rule_same}
use Rattle.guard_simplify.proofs.Soundness.{sound}
use Rattle.guard_simplify.proofs.BackLaw.{each_rule_over, each_guard_over}
use Rattle.guard_simplify.proofs.CountedLemmas.{map_map, place_numbers, one_guard}

flat_map_same : {X Y : Type 0} (f g : X → List Y) (xs : List X) → ((x : X) → Contains xs x → f x ≡ g x) → flat_map f xs ≡ flat_map g xs
flat_map_same f g [] same = refl
flat_map_same f g (x ∷ xs) same =
    let first = same x (Contains-here x x xs refl) in
    let rest = flat_map_same f g xs (λ y is. same y (Contains-behind y x xs is)) in
    λ i. first i ++ rest i

-- the guards of a list, where each has its place as its number
seen_rules_are : (k : ℕ) (at own : Guard → ℕ) (gs : List Guard) → ((j : ℕ) (g : Guard) → slice_get gs j ≡ Some g → own g ≡ k + j)
    → ◌≡◌ {A = List Local} (map (λ g. record { needs = at g ∷ []; gives = own g; stmt = None }) gs) (seen_rules k (map at gs))
seen_rules_are k at own [] numbered = refl
seen_rules_are k at own (g ∷ gs) numbered =
    let here : own g ≡ k = numbered 0 g refl ∙ omega arith in
    let first : ◌≡◌ {A = Local} (record { needs = at g ∷ []; gives = own g; stmt = None }) (record { needs = at g ∷ []; gives = k; stmt = None }) = λ i. record { needs = at g ∷ []; gives = here i; stmt = None } in
    let rest = seen_rules_are (k + 1) at own gs (λ j h is. numbered (suc j) h is ∙ omega arith) in
    λ i. first i ∷ rest i

seen_links_are : (k : ℕ) (own : Guard → ℕ) (at : Guard → ℕ) (gs : List Guard) → ((j : ℕ) (g : Guard) → slice_get gs j ≡ Some g → own g ≡ k + j)
    → ◌≡◌ {A = List Link} (map (λ g. record { from = own g; to = own g }) gs) (seen_links k (map at gs))
seen_links_are k own at [] numbered = refl
seen_links_are k own at (g ∷ gs) numbered =
    let here : own g ≡ k = numbered 0 g refl ∙ omega arith in
    let first : ◌≡◌ {A = Link} (record { from = own g; to = own g }) (record { from = k; to = k }) = λ i. record { from = here i; to = here i } in
    let rest = seen_links_are (k + 1) own at gs (λ j h is. numbered (suc j) h is ∙ omega arith) in
    λ i. first i ∷ rest i

visibly : (b : Bool) (x : Simplified) → ◌≡◌ {A = Result Simplified SimplifyFault} (ok_or (if b then None else Some x) TooManyVisible) (if b then Err TooManyVisible else Ok x)
visibly true x = refl
visibly false x = refl

above_same : (rules : List Rule) (guards : List Guard) (n i : ℕ) (q : List ℕ) → above_among (places rules) i q ≡ kind_above rules guards n i q
above_same rules guards n i [] = refl
above_same rules guards n i (k ∷ []) = refl
above_same rules guards n i (k ∷ l ∷ q) = refl

module _ (rules : List Rule) (guards : List Guard) (n : ℕ) where
  abbrev at : Guard → ℕ
  at g = atom_of rules guards n g

  abbrev fs : List Guard
  fs = formulas rules guards

  abbrev first : ℕ
  first = n + length fs

  owner_listed : (i : ℕ) (r : Rule) (q : List ℕ) → slice_get rules i ≡ Some r → Contains (nodes_of r) q → nat_lt 0 (children_in r q) ≡ true → Contains (owners rules) (i, q)
  owner_listed i r q rule is more =
      Contains-by_rule (λ i r. map (λ q. (i, q)) (filter (λ q. nat_lt 0 (children_in r q)) (nodes_of r))) 0 rules i r (i, q) rule
      (subst (λ k. Contains {X = Place} (map (λ q. (k, q)) (filter (λ q. nat_lt 0 (children_in r q)) (nodes_of r))) (i, q)) {x = i} (omega arith)
      (Contains-map (λ q. (i, q)) (filter (λ q. nat_lt 0 (children_in r q)) (nodes_of r)) q (Contains-filter (λ q. nat_lt 0 (children_in r q)) (nodes_of r) q is more)))

  own_same : (i : ℕ) (r : Rule) (q : List ℕ) → slice_get rules i ≡ Some r → Contains (nodes_of r) q → nat_lt 0 (children_in r q) ≡ true → own_among (owners rules) first (i, q) ≡ atom_for rules guards n (owner (i, q))
  own_same i r q rule is more =
      let place = atom_for-owner rules guards n (i, q) (owner_listed i r q rule is more) in
      let sum : first + place_of same_place (i, q) (owners rules) ≡ n + (length fs + place_of same_place (i, q) (owners rules)) = omega arith in
      sum ∙ sym place

  label_same : (i : ℕ) (r : Rule) (q : List ℕ) → slice_get rules i ≡ Some r → Contains (nodes_of r) q → made_label (owners rules) first i (forest_of r) q ≡ label_in rules guards n i r q
  label_same i r q rule is =
      let label = unwrap_or (label_at q (forest_of r)) [] in
      elim (cases_Bool (nat_lt 0 (children_in r q))) [
        | inl more ↦ rw more (ap (λ a. with_class a label) (own_same i r q rule is more))
        | inr none ↦ rw none refl
      ]

  kind_same : (i : ℕ) (r : Rule) (q : List ℕ) → slice_get rules i ≡ Some r → Contains (nodes_of r) q → made_kind (places rules) (owners rules) first i (forest_of r) (is_beside r.action) q ≡ kind_of rules guards n i r q
  kind_same i r q rule is =
      let label = label_same i r q rule is in
      let above = above_same rules guards n i q in
      λ j. record {
        label = label j;
        stmt = i;
        above = above j;
        number = last_number q;
        siblings = unwrap_or (option_map (children_in r) (parent_of q)) 0;
        beside = is_beside r.action;
      }

  kinds_same : by_rule (rule_kinds (places rules) (owners rules) first) 0 rules ≡ (system rules guards n).kinds
  kinds_same = by_rule_same (rule_kinds (places rules) (owners rules) first) (λ i r. map (kind_of rules guards n i r) (nodes_of r)) 0 rules (λ j r at'.
      let rule : slice_get rules (0 + j) ≡ Some r = subst (λ k. slice_get rules k ≡ Some r) {x = j} (omega arith) at' in
      map_alike (made_kind (places rules) (owners rules) first (0 + j) (forest_of r) (is_beside r.action)) (kind_of rules guards n (0 + j) r) (nodes_of r) (λ q is. kind_same (0 + j) r q rule is))

  spawns_same : (i : ℕ) (r : Rule) (q : List ℕ) → slice_get rules i ≡ Some r → Contains (nodes_of r) q
      → node_spawns (places rules) (owners rules) first i (forest_of r) q ≡ spawns_below rules guards n i r (atom_for rules guards n (owner (i, q))) q
  spawns_same i r q rule is = elim (cases_Bool (nat_lt 0 (children_in r q))) [
    | inl more ↦ ap (λ a. spawns_below rules guards n i r a q) (own_same i r q rule is more)
    | inr none ↦
        let zero' : children_in r q ≡ 0 = let past = ltb-false 0 (children_in r q) none in omega (arith, past) in
        let left : node_spawns (places rules) (owners rules) first i (forest_of r) q ≡ [] = rw zero' refl in
        let right : spawns_below rules guards n i r (atom_for rules guards n (owner (i, q))) q ≡ [] = rw zero' refl in
        left ∙ sym right
  ]

  -- the atoms of the rules' guards
  module _ (of_rules : List ℕ) (are : of_rules ≡ map (λ (r : Rule). at r.guard) rules) where
    guard_at : (i : ℕ) (r : Rule) → slice_get rules i ≡ Some r → get_or of_rules i 0 ≡ at r.guard
    guard_at i r rule = get_or_from_slice_get of_rules i (at r.guard) 0 (ap (λ z. slice_get z i) are ∙ map_at (λ (r : Rule). at r.guard) rules i r rule)

    all_spawns_same : by_rule (rule_spawns (places rules) (owners rules) first of_rules) 0 rules ≡ (system rules guards n).child
    all_spawns_same = by_rule_same (rule_spawns (places rules) (owners rules) first of_rules) (action_spawns rules guards n) 0 rules (λ j r at'.
        let rule : slice_get rules (0 + j) ≡ Some r = subst (λ k. slice_get rules k ≡ Some r) {x = j} (omega arith) at' in
        let top = ap (λ a. spawns_below rules guards n (0 + j) r a []) (guard_at (0 + j) r rule) in
        let inner = flat_map_same (node_spawns (places rules) (owners rules) first (0 + j) (forest_of r)) (λ q. spawns_below rules guards n (0 + j) r (atom_for rules guards n (owner (0 + j, q))) q) (nodes_of r) (λ q is. spawns_same (0 + j) r q rule is) in
        λ k. top k ++ inner k)

    class_same : by_rule (class_rules of_rules) 0 rules ≡ by_rule (action_locals rules guards n) 0 rules
    class_same = by_rule_same (class_rules of_rules) (action_locals rules guards n) 0 rules (λ j r at'.
        let rule : slice_get rules (0 + j) ≡ Some r = subst (λ k. slice_get rules k ≡ Some r) {x = j} (omega arith) at' in
        ap (λ a. class_locals (0 + j) a (classes_of r.action)) (guard_at (0 + j) r rule))

  abbrev once : List Guard
  once = different same_guard guards

  abbrev seen_from : ℕ
  seen_from = first + length (owners rules)

  seen_number : (g : Guard) → atom_for rules guards n (seen g) ≡ seen_from + place_of same_guard g once
  seen_number g = let place = atom_for-seen rules guards n g in omega (arith, place)

  seen_place : (j : ℕ) (g : Guard) → slice_get once j ≡ Some g → atom_for rules guards n (seen g) ≡ seen_from + j
  seen_place j g at' = seen_number g ∙ ap (λ k. seen_from + k) (guards_placed guards j g at')

  -- what is numbered
  module _ (f : Formulas) (is : IsNumbering rules guards n f) where
    pub count_formulas : length f.keys.keys ≡ length fs
    count_formulas =
        let left : length (map stored f.keys.keys) ≡ length f.keys.keys = length-map f.keys.keys stored in
        let right : length (map (kept_of (atom_in n fs)) fs) ≡ length fs = length-map fs (kept_of (atom_in n fs)) in
        sym left ∙ ap length is.table.are ∙ right

    count_seen : length f.seen ≡ length once
    count_seen = ap length is.seen ∙ length-map once at

    pub as_many : length f.of_rules.items ≡ length rules
    as_many = ap length is.of_rules ∙ length-map rules (λ (r : Rule). at r.guard)

    module _ (os : List ForestNode) (owners' : map placed os ≡ owners rules) where
      count_owners : length os ≡ length (owners rules)
      count_owners = let left : length (map placed os) ≡ length os = length-map os placed in sym left ∙ ap length owners'

      pub all_counted : n + length (auxiliaries rules guards) ≡ n + length f.keys.keys + length os + length f.seen
      all_counted =
          let all' = count_auxiliaries rules guards n in
          let formulas' = count_formulas in
          let own' = count_owners in
          let seen' = count_seen in
          omega (arith, all', formulas', own', seen')

      from_is : n + length f.keys.keys + length os ≡ seen_from
      from_is = let one = count_formulas in let other = count_owners in omega (arith, one, other)

-- the system of what is counted
module _ (guards : List Guard) (c : Counted) (is : IsCounted guards c) where
  abbrev rules : List Rule
  rules = c.rules.now

  abbrev n : ℕ
  n = c.first

  abbrev f : Formulas
  f = c.formulas

  first_is : c.nodes.first_owner ≡ first rules guards n
  first_is = c.behind ∙ ap (λ k. n + k) (count_formulas rules guards n f is.numbering)

  start_is : first_seen c ≡ seen_from rules guards n
  start_is = ap (λ k. k + length c.nodes.owners.keys) c.behind ∙ from_is rules guards n f is.numbering c.nodes.owners.keys is.owners

  all_within : n + length (auxiliaries rules guards) ≤ MOST_ATOMS
  all_within = let all' = all_counted rules guards n f is.numbering c.nodes.owners.keys is.owners in omega (arith, all', c.behind, c.within)

  locals_same : counted_locals c ≡ (system rules guards n).local
  locals_same =
      let formulas' = locals_by_keys rules guards n f.keys.keys is.numbering.table in
      let classes' = class_same rules guards n f.of_rules.items is.numbering.of_rules in
      let seen' : map (seen_local rules guards n) (once rules guards n) ≡ seen_rules (first_seen c) f.seen =
      seen_rules_are (seen_from rules guards n) (at rules guards n) (λ g. atom_for rules guards n (seen g)) (once rules guards n) (seen_place rules guards n)
      ∙ ap (λ k. seen_rules k (map (at rules guards n) (once rules guards n))) (sym start_is) ∙ ap (seen_rules (first_seen c)) (sym is.numbering.seen) in
      λ i. (sym formulas' i ++ classes' i) ++ sym seen' i

  downs_same : counted_downs c ≡ (system rules guards n).down
  downs_same =
      let formulas' = downs_by_keys rules guards n f.keys.keys is.numbering.table in
      let seen' : map (seen_down rules guards n) (once rules guards n) ≡ seen_links (first_seen c) f.seen =
      seen_links_are (seen_from rules guards n) (λ g. atom_for rules guards n (seen g)) (at rules guards n) (once rules guards n) (seen_place rules guards n)
      ∙ ap (λ k. seen_links k (map (at rules guards n) (once rules guards n))) (sym start_is) ∙ ap (seen_links (first_seen c)) (sym is.numbering.seen) in
      λ i. sym formulas' i ++ sym seen' i

  ups_same : counted_ups c ≡ ups rules guards n
  ups_same = sym (ups_by_keys rules guards n f.keys.keys is.numbering.table)

  numbers_same : {X : Type 0} (g : List Place → List Place → ℕ → List X) → g (nodes_in c.nodes) (owners_in c.nodes) c.nodes.first_owner ≡ g (places rules) (owners rules) (first rules guards n)
  numbers_same g = let nodes' = is.nodes in let owners' = is.owners in let first' = first_is in λ i. g (nodes' i) (owners' i) (first' i)

  spawns_are : counted_spawns c ≡ (system rules guards n).child
  spawns_are =
      by_planted (λ (p : Planted). made_spawns (nodes_in c.nodes) (owners_in c.nodes) c.nodes.first_owner p.rule p.tree p.paths (get_or f.of_rules.items p.rule 0)) c.forests.items rules is.forests
      ∙ numbers_same (λ ps os k. by_rule (rule_spawns ps os k f.of_rules.items) 0 rules) ∙ all_spawns_same rules guards n f.of_rules.items is.numbering.of_rules

  kinds_are : counted_kinds c ≡ (system rules guards n).kinds
  kinds_are =
      by_planted (λ (p : Planted). map (made_kind (nodes_in c.nodes) (owners_in c.nodes) c.nodes.first_owner p.rule p.tree p.beside) p.paths) c.forests.items rules is.forests
      ∙ numbers_same (λ ps os k. by_rule (rule_kinds ps os k) 0 rules) ∙ kinds_same rules guards n

  system_same : counted_system c ≡ system rules guards n
  system_same =
      let local' = locals_same in
      let up' = ups_same in
      let down' = downs_same in
      let child' = spawns_are in
      let kinds' = kinds_are in
      λ i. record { local = local' i; up = up' i; down = down' i; child = child' i; kinds = kinds' i; visible = left_sides_of (up' i) }

  seen_one : (g : Guard) → Contains guards g → first_seen c + place_of (λ (x y : ℕ). x == y) (at rules guards n g) f.seen ≡ atom_for rules guards n (seen g)
  seen_one g listed =
      let place : place_of (λ (x y : ℕ). x == y) (at rules guards n g) f.seen ≡ place_of same_guard g (once rules guards n) =
      ap (place_of (λ (x y : ℕ). x == y) (at rules guards n g)) is.numbering.seen
      ∙ place_numbers same_guard same_guard-sound same_guard-itself (at rules guards n) (once rules guards n) g
      (λ h in_once. one_guard rules guards n g h (is.numbering.known g listed) (is.numbering.known h ((different-Contains same_guard same_guard-sound same_guard-itself guards h).0 in_once))) in
      let start = start_is in
      let number = seen_number rules guards n g in
      omega (arith, place, start, number)

  seen_same : counted_seen c ≡ seen_atoms rules guards n
  seen_same =
      ap (seen_of (first_seen c) f.seen) is.numbering.of_guards
      ∙ map_map (at rules guards n) (λ a. first_seen c + place_of (λ (x y : ℕ). x == y) a f.seen) guards
      ∙ map_alike (λ g. first_seen c + place_of (λ (x y : ℕ). x == y) (at rules guards n g) f.seen) (λ g. atom_for rules guards n (seen g)) guards seen_one

  -- what the whole answers
  visible_same : left_sides_of (counted_ups c) ≡ (system rules guards n).visible
  visible_same = ap left_sides_of ups_same

  pub outcome_same : ok_or (counted_visibly c) TooManyVisible ≡ simplified rules guards n
  outcome_same =
      let few = le-ltb MOST_ATOMS (n + length (auxiliaries rules guards)) all_within in
      let system' = system_same in
      let seen' = seen_same in
      let visible' = visible_same in
      let whole : simplified rules guards n ≡ (if nat_lt MOST_VISIBLE (length (system rules guards n).visible) then Err TooManyVisible else Ok (record { system = system rules guards n; seen = seen_atoms rules guards n })) = rw few refl in
      visibly (nat_lt MOST_VISIBLE (length (left_sides_of (counted_ups c)))) (record { system = counted_system c; seen = counted_seen c })
      ∙ (λ i. if nat_lt MOST_VISIBLE (length (visible' i)) then Err TooManyVisible
      else Ok (record { system = system' i; seen = seen' i }))
      ∙ sym whole

  pub made_sound : All (IsRuleOver n) rules → All (IsOver n) guards → length (places rules) ≤ MOST_KINDS → IsSound (counted_system c)
  made_sound rules_over guards_over few = subst IsSound (sym system_same) (sound rules guards n all_within (each_guard_over rules guards n rules_over guards_over) (each_rule_over rules n rules_over) few)

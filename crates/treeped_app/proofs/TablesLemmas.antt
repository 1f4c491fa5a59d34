-- A system is told by the formulas of its guards and by those that are seen: where both are the same, so is the system.
use Rattle.std.proofs.Common.{◌≡◌, ℕ, ◌+◌, List, [], ◌∷◌, ◌++◌, map, Some, None, refl, ap}
use Rattle.std.specs.Prelude.{nat_lt, option_map, unwrap_or, if◌then◌else◌}
use Rattle.std.specs.List.{flat_map}
use Rattle.tp_base.specs.Classes.{with_class}
use Rattle.tree_sem.specs.Trees.{label_at}
use Rattle.tree_sem.specs.Paths.{parent_of, last_number}
use Rattle.simple_core.specs.declared.rules.Link.{Link}
use Rattle.simple_core.specs.Labels.{set_of}
use Rattle.guard_sem.specs.Guards.{Guard, always, atom, all, any, parent, ancestor, child, descendant, somewhere, parts, same_guard}
use Rattle.guard_sem.specs.declared.rules.Rule.{Rule}
use Rattle.guard_simplify.specs.Firsts.{different, place_of}
use Rattle.guard_simplify.specs.Auxiliaries.{formulas, forest_of, nodes_of, children_in, by_rule, owners, Auxiliary, formula, owner, seen, same_auxiliary, auxiliaries}
use Rattle.guard_simplify.specs.Simplified.{is_beside, classes_of, atom_for, atom_of, formula_locals, formula_ups, formula_downs, action_locals, spawns_below, action_spawns, kind_above, label_in, kind_of, seen_local, seen_down, ups, system}

module _ (rules : List Rule) (gs hs : List Guard) (n : ℕ) (same_formulas : formulas rules gs ≡ formulas rules hs) (same_seen : different same_guard gs ≡ different same_guard hs) where
  -- ---- atoms

  pub same_auxiliaries : auxiliaries rules gs ≡ auxiliaries rules hs
  same_auxiliaries = λ i. map formula (same_formulas i) ++ map owner (owners rules) ++ map seen (same_seen i)

  pub same_atom : (x : Auxiliary) → atom_for rules gs n x ≡ atom_for rules hs n x
  same_atom x = ap (λ xs. n + place_of same_auxiliary x xs) same_auxiliaries

  at : (g : Guard) → atom_of rules gs n g ≡ atom_of rules hs n g
  at (atom a) = refl
  at g = same_atom (formula g)

  -- ---- what gives the atom of a formula

  locals_at : (g : Guard) → formula_locals rules gs n g ≡ formula_locals rules hs n g
  locals_at always = λ i. record { needs = []; gives = at always i; stmt = None } ∷ []
  locals_at (all ps) = λ i. record { needs = set_of (map (λ g. at g i) (parts ps)); gives = at (all ps) i; stmt = None } ∷ []
  locals_at (any ps) = λ i. map (λ g. record { needs = at g i ∷ []; gives = at (any ps) i; stmt = None }) (parts ps)
  locals_at (somewhere g) = λ i. record { needs = at g i ∷ []; gives = at (somewhere g) i; stmt = None } ∷ []
  locals_at g = refl

  ups_at : (g : Guard) → formula_ups rules gs n g ≡ formula_ups rules hs n g
  ups_at (parent g) = λ i. record { from = at g i; to = at (parent g) i } ∷ []
  ups_at (ancestor g) = λ i. record { from = at g i; to = at (ancestor g) i } ∷ record { from = at (ancestor g) i; to = at (ancestor g) i } ∷ []
  ups_at (somewhere g) = λ i. record { from = at (somewhere g) i; to = at (somewhere g) i } ∷ []
  ups_at g = refl

  downs_at : (g : Guard) → formula_downs rules gs n g ≡ formula_downs rules hs n g
  downs_at (child g) = λ i. record { from = at g i; to = at (child g) i } ∷ []
  downs_at (descendant g) = λ i. record { from = at g i; to = at (descendant g) i } ∷ record { from = at (descendant g) i; to = at (descendant g) i } ∷ []
  downs_at (somewhere g) = λ i. record { from = at (somewhere g) i; to = at (somewhere g) i } ∷ []
  downs_at g = refl

  -- ---- what the rules' actions do

  actions_at : (k : ℕ) (r : Rule) → action_locals rules gs n k r ≡ action_locals rules hs n k r
  actions_at k r = λ i. map (λ a. record { needs = at r.guard i ∷ []; gives = a; stmt = Some k }) (classes_of r.action)

  spawns_at : (k : ℕ) (r : Rule) → action_spawns rules gs n k r ≡ action_spawns rules hs n k r
  spawns_at k r = λ i. spawns_below rules gs n k r (at r.guard i) [] ++ flat_map (λ q. spawns_below rules gs n k r (same_atom (owner (k, q)) i) q) (nodes_of r)

  label_of_node : (k : ℕ) (r : Rule) (q : List ℕ) → label_in rules gs n k r q ≡ label_in rules hs n k r q
  label_of_node k r q = ap (λ a. let label = unwrap_or (label_at q (forest_of r)) [] in if nat_lt 0 (children_in r q) then with_class a label else label) (same_atom (owner (k, q)))

  above_node : (k : ℕ) (q : List ℕ) → kind_above rules gs n k q ≡ kind_above rules hs n k q
  above_node k [] = refl
  above_node k (a ∷ []) = refl
  above_node k (a ∷ b ∷ q) = refl

  kind_at_node : (k : ℕ) (r : Rule) (q : List ℕ) → kind_of rules gs n k r q ≡ kind_of rules hs n k r q
  kind_at_node k r q = λ i. record {
    label = label_of_node k r q i;
    stmt = k;
    above = above_node k q i;
    number = last_number q;
    siblings = unwrap_or (option_map (children_in r) (parent_of q)) 0;
    beside = is_beside r.action;
  }

  -- ---- what is seen

  seen_local_at : (g : Guard) → seen_local rules gs n g ≡ seen_local rules hs n g
  seen_local_at g = λ i. record { needs = at g i ∷ []; gives = same_atom (seen g) i; stmt = None }

  seen_down_at : (g : Guard) → seen_down rules gs n g ≡ seen_down rules hs n g
  seen_down_at g = λ i. record { from = same_atom (seen g) i; to = same_atom (seen g) i }

  -- ---- all of it

  same_ups : ups rules gs n ≡ ups rules hs n
  same_ups = λ i. flat_map (λ g. ups_at g i) (same_formulas i)

  pub same_system : system rules gs n ≡ system rules hs n
  same_system = λ i. record {
    local = flat_map (λ g. locals_at g i) (same_formulas i) ++ by_rule (λ k r. actions_at k r i) 0 rules ++ map (λ g. seen_local_at g i) (same_seen i);
    up = same_ups i;
    down = flat_map (λ g. downs_at g i) (same_formulas i) ++ map (λ g. seen_down_at g i) (same_seen i);
    child = by_rule (λ k r. spawns_at k r i) 0 rules;
    kinds = by_rule (λ k r. map (λ q. kind_at_node k r q i) (nodes_of r)) 0 rules;
    visible = set_of (map (λ (l : Link). l.from) (same_ups i));
  }

-- The forests of rules as the code keeps them, and the numbers of their nodes.
--     planted f            what the program keeps of a forest
--     plantings i rules    the same of the forests of rules, which count from i
--     kinds_by n f         the kinds of the nodes of a forest, where n has the numbers of all nodes
--     spawns_by n guards f    its spawns, with the atoms of all rules' guards
use Rattle.std.specs.Prelude.{ℕ, ◌<◌, nat_lt, Bool, List, [], ◌∷◌, ◌++◌, map, filter, get_or, All}
use Rattle.std.specs.List.{flat_map}
use Rattle.tree_sem.specs.Trees.{LabelTree}
use Rattle.simple_core.specs.declared.rules.Spawn.{Spawn}
use Rattle.simple_core.specs.declared.rules.Kind.{Kind}
use Rattle.guard_sem.specs.declared.rules.Rule.{Rule}
use Rattle.guard_simplify.specs.declared.forest_nodes.RuleForest.{RuleForest}
use Rattle.guard_simplify.specs.declared.node_numbers.NodeNumbers.{NodeNumbers}
use Rattle.guard_simplify.specs.Auxiliaries.{forest_of, nodes_of, Place, by_rule}
use Rattle.guard_simplify.specs.Simplified.{is_beside}
use Rattle.guard_simplify.specs.ForestRules.{placed, child_count, made_label, made_kind, children_spawned, node_spawns}

-- the forest of the rule of this number, and the paths of its nodes
pub record Planted : Type 0 where
  pub rule : ℕ
  pub tree : LabelTree
  pub paths : List (List ℕ)
  pub beside : Bool

abbrev pub planted : RuleForest → Planted
planted f = record { rule = f.rule; tree = f.tree; paths = f.paths.items; beside = f.beside }

abbrev pub planting : ℕ → Rule → Planted
planting i r = record { rule = i; tree = forest_of r; paths = nodes_of r; beside = is_beside r.action }

abbrev pub plantings : ℕ → List Rule → List Planted
plantings i rules = by_rule (λ i r. planting i r ∷ []) i rules

-- they are of the first n rules
abbrev pub AreBelow : ℕ → List RuleForest → Type 0
AreBelow n fs = All (λ f. f.rule < n) fs

abbrev pub places_of : RuleForest → List Place
places_of f = map (λ q. (f.rule, q)) f.paths.items

abbrev pub owners_of : RuleForest → List Place
owners_of f = map (λ q. (f.rule, q)) (filter (λ q. nat_lt 0 (child_count f.tree q)) f.paths.items)

abbrev pub nodes_in : NodeNumbers → List Place
nodes_in n = map placed n.nodes.keys

abbrev pub owners_in : NodeNumbers → List Place
owners_in n = map placed n.owners.keys

module _ (n : NodeNumbers) where
  abbrev pub label_by : RuleForest → List ℕ → List ℕ
  label_by f q = made_label (owners_in n) n.first_owner f.rule f.tree q

  abbrev pub kind_by : RuleForest → List ℕ → Kind
  kind_by f q = made_kind (nodes_in n) (owners_in n) n.first_owner f.rule f.tree f.beside q

  abbrev pub kinds_by : RuleForest → List Kind
  kinds_by f = map (kind_by f) f.paths.items

  -- the spawns of the children of the node at q, by the atom a, and by the node's own one
  abbrev pub spawned_by : RuleForest → ℕ → List ℕ → List Spawn
  spawned_by f a q = children_spawned (nodes_in n) f.rule a q (child_count f.tree q)

  abbrev pub spawned_below : RuleForest → List ℕ → List Spawn
  spawned_below f q = node_spawns (nodes_in n) (owners_in n) n.first_owner f.rule f.tree q

  abbrev pub spawns_from : ℕ → RuleForest → List Spawn
  spawns_from a f = spawned_by f a [] ++ flat_map (spawned_below f) f.paths.items

  abbrev pub spawns_by : List ℕ → RuleForest → List Spawn
  spawns_by guards f = spawns_from (get_or guards f.rule 0) f

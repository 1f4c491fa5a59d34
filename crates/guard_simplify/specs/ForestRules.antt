-- The kinds and spawns of forests, from lists of nodes.
--     placed                   where a node of the program stands
--     kind_among ps p          the number of the kind of the node at p, among the nodes at ps
--     own_among os first p     the own atom of the node at p, where those of the nodes at os count from `first`
--     made_kind .. i t q       the kind of the node at q of t, the forest of the rule i
--     made_spawns .. i t qs a  the spawns of this forest, whose nodes are at qs, where the rule's guard has the atom a
use Rattle.std.specs.Prelude.{ℕ, ◌+◌, nat_lt, Bool, if◌then◌else◌, List, [], ◌∷◌, ◌++◌, map, fold, Option, None, option_map, unwrap_or, get_or}
use Rattle.std.specs.List.{flat_map, range_with_len}
use Rattle.tp_base.specs.Classes.{with_class}
use Rattle.tree_sem.specs.Trees.{no_nodes, LabelTree, push_tree, label_at, children_at}
use Rattle.tree_sem.specs.Paths.{parent_of, last_number}
use Rattle.simple_core.specs.declared.rules.Spawn.{Spawn}
use Rattle.simple_core.specs.declared.rules.Kind.{Kind}
use Rattle.guard_sem.specs.declared.rules.Rule.{Rule}
use Rattle.guard_simplify.specs.declared.forest_nodes.ForestNode.{ForestNode}
use Rattle.guard_simplify.specs.Firsts.{place_of}
use Rattle.guard_simplify.specs.Auxiliaries.{forest_of, nodes_of, Place, same_place}
use Rattle.guard_simplify.specs.Simplified.{is_beside}

abbrev pub placed : ForestNode → Place
placed p = (p.rule, p.path.items)

-- the trees below a root that stands for the node which takes them
abbrev pub rooted : List LabelTree → LabelTree
rooted tops = record { label = []; below = fold push_tree no_nodes tops }

abbrev pub child_count : LabelTree → List ℕ → ℕ
child_count t q = unwrap_or (children_at q t) 0

module _ (ps : List Place) where
  abbrev pub kind_among : Place → ℕ
  kind_among p = place_of same_place p ps

  abbrev pub above_among : ℕ → List ℕ → Option ℕ
  above_among i [] = None
  above_among i (k ∷ []) = None
  above_among i (k ∷ l ∷ q) = option_map (λ p. kind_among (i, p)) (parent_of (k ∷ l ∷ q))

  -- the spawns of this many children of the node at q, by the atom a
  abbrev pub children_spawned : ℕ → ℕ → List ℕ → ℕ → List Spawn
  children_spawned i a q count = map (λ k. record { needs = a; kind = kind_among (i, q ++ k ∷ []) }) (range_with_len 0 count)

module _ (os : List Place) (first : ℕ) where
  abbrev pub own_among : Place → ℕ
  own_among p = first + place_of same_place p os

  abbrev pub made_label : ℕ → LabelTree → List ℕ → List ℕ
  made_label i t q = let label = unwrap_or (label_at q t) [] in if nat_lt 0 (child_count t q) then with_class (own_among (i, q)) label else label

module _ (ps os : List Place) (first : ℕ) where
  abbrev pub made_kind : ℕ → LabelTree → Bool → List ℕ → Kind
  made_kind i t beside q = record {
    label = made_label os first i t q;
    stmt = i;
    above = above_among ps i q;
    number = last_number q;
    siblings = unwrap_or (option_map (child_count t) (parent_of q)) 0;
    beside = beside;
  }

  abbrev pub node_spawns : ℕ → LabelTree → List ℕ → List Spawn
  node_spawns i t q = children_spawned ps i (own_among os first (i, q)) q (child_count t q)

  abbrev pub made_spawns : ℕ → LabelTree → List (List ℕ) → ℕ → List Spawn
  made_spawns i t qs a = children_spawned ps i a [] (child_count t []) ++ flat_map (node_spawns i t) qs

  -- of a rule and its number, with the atoms of all rules' guards
  abbrev pub rule_kinds : ℕ → Rule → List Kind
  rule_kinds i r = map (made_kind i (forest_of r) (is_beside r.action)) (nodes_of r)

  abbrev pub rule_spawns : List ℕ → ℕ → Rule → List Spawn
  rule_spawns guards i r = made_spawns i (forest_of r) (nodes_of r) (get_or guards i 0)

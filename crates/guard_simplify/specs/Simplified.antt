-- The simple system of rules and of guards that are handed in, over a table of n atoms.
--     atom_for x      the atom of an auxiliary: those of the table come first
--     atom_of g       the atom of a guard
--     system          its rules: those of the formulas, then those of the actions, then those of what is seen
use Rattle.std.specs.Prelude.{ℕ, ◌+◌, nat_lt, Bool, true, false, if◌then◌else◌, List, [], ◌∷◌, ◌++◌, map, Option, Some, None, option_map, unwrap_or}
use Rattle.std.specs.List.{flat_map, range_with_len}
use Rattle.tp_base.specs.Classes.{with_class}
use Rattle.tree_sem.specs.Trees.{label_at}
use Rattle.tree_sem.specs.Paths.{parent_of, last_number}
use Rattle.tree_sem.specs.declared.actions.Action.{Action}
use Rattle.tree_sem.specs.declared.actions.Action.TheVariants.{Classes, Inside, Beside}
use Rattle.simple_core.specs.declared.rules.Local.{Local}
use Rattle.simple_core.specs.declared.rules.Link.{Link}
use Rattle.simple_core.specs.declared.rules.Spawn.{Spawn}
use Rattle.simple_core.specs.declared.rules.Kind.{Kind}
use Rattle.simple_core.specs.declared.system.System.{System}
use Rattle.simple_core.specs.Labels.{set_of}
use Rattle.guard_sem.specs.Guards.{Guard, always, atom, all, any, parent, ancestor, child, descendant, somewhere, parts, same_guard}
use Rattle.guard_sem.specs.declared.rules.Rule.{Rule}
use Rattle.guard_simplify.specs.Firsts.{different, place_of}
use Rattle.guard_simplify.specs.Auxiliaries.{formulas, forest_of, nodes_of, children_in, Place, same_place, by_rule, places, Auxiliary, formula, owner, seen, same_auxiliary, auxiliaries}

abbrev pub is_beside : Action → Bool
is_beside (Classes classes) = false
is_beside (Inside forest) = false
is_beside (Beside forest) = true

abbrev pub classes_of : Action → List ℕ
classes_of (Classes classes) = classes
classes_of (Inside forest) = []
classes_of (Beside forest) = []

module _ (rules : List Rule) (guards : List Guard) (n : ℕ) where
  abbrev pub atom_for : Auxiliary → ℕ
  atom_for x = n + place_of same_auxiliary x (auxiliaries rules guards)

  abbrev pub atom_of : Guard → ℕ
  atom_of (atom a) = a
  atom_of g = atom_for (formula g)

  abbrev pub kind_at : Place → ℕ
  kind_at p = place_of same_place p (places rules)

  -- what gives x, the atom of a formula
  abbrev pub formula_locals : Guard → List Local
  formula_locals always = record { needs = []; gives = atom_of always; stmt = None } ∷ []
  formula_locals (all gs) = record { needs = set_of (map atom_of (parts gs)); gives = atom_of (all gs); stmt = None } ∷ []
  formula_locals (any gs) = map (λ g. record { needs = atom_of g ∷ []; gives = atom_of (any gs); stmt = None }) (parts gs)
  formula_locals (somewhere g) = record { needs = atom_of g ∷ []; gives = atom_of (somewhere g); stmt = None } ∷ []
  formula_locals g = []

  abbrev pub formula_ups : Guard → List Link
  formula_ups (parent g) = record { from = atom_of g; to = atom_of (parent g) } ∷ []
  formula_ups (ancestor g) = record { from = atom_of g; to = atom_of (ancestor g) } ∷ record { from = atom_of (ancestor g); to = atom_of (ancestor g) } ∷ []
  formula_ups (somewhere g) = record { from = atom_of (somewhere g); to = atom_of (somewhere g) } ∷ []
  formula_ups g = []

  abbrev pub formula_downs : Guard → List Link
  formula_downs (child g) = record { from = atom_of g; to = atom_of (child g) } ∷ []
  formula_downs (descendant g) = record { from = atom_of g; to = atom_of (descendant g) } ∷ record { from = atom_of (descendant g); to = atom_of (descendant g) } ∷ []
  formula_downs (somewhere g) = record { from = atom_of (somewhere g); to = atom_of (somewhere g) } ∷ []
  formula_downs g = []

  -- what a rule's action does
  abbrev pub action_locals : ℕ → Rule → List Local
  action_locals i r = map (λ a. record { needs = atom_of r.guard ∷ []; gives = a; stmt = Some i }) (classes_of r.action)

  -- the spawns of the children of a node in the forest, by the atom
  abbrev pub spawns_below : ℕ → Rule → ℕ → List ℕ → List Spawn
  spawns_below i r a q = map (λ k. record { needs = a; kind = kind_at (i, q ++ k ∷ []) }) (range_with_len 0 (children_in r q))

  abbrev pub action_spawns : ℕ → Rule → List Spawn
  action_spawns i r = spawns_below i r (atom_of r.guard) [] ++ flat_map (λ q. spawns_below i r (atom_for (owner (i, q))) q) (nodes_of r)

  abbrev pub kind_above : ℕ → List ℕ → Option ℕ
  kind_above i [] = None
  kind_above i (k ∷ []) = None
  kind_above i (k ∷ l ∷ q) = option_map (λ p. kind_at (i, p)) (parent_of (k ∷ l ∷ q))

  -- a node with children has its own atom
  abbrev pub label_in : ℕ → Rule → List ℕ → List ℕ
  label_in i r q = let label = unwrap_or (label_at q (forest_of r)) [] in if nat_lt 0 (children_in r q) then with_class (atom_for (owner (i, q))) label else label

  abbrev pub kind_of : ℕ → Rule → List ℕ → Kind
  kind_of i r q = record {
    label = label_in i r q;
    stmt = i;
    above = kind_above i q;
    number = last_number q;
    siblings = unwrap_or (option_map (children_in r) (parent_of q)) 0;
    beside = is_beside r.action;
  }

  abbrev pub seen_local : Guard → Local
  seen_local g = record { needs = atom_of g ∷ []; gives = atom_for (seen g); stmt = None }

  abbrev pub seen_down : Guard → Link
  seen_down g = record { from = atom_for (seen g); to = atom_for (seen g) }

  abbrev pub ups : List Link
  ups = flat_map formula_ups (formulas rules guards)

  abbrev pub system : System
  system = record {
    local = flat_map formula_locals (formulas rules guards) ++ by_rule action_locals 0 rules ++ map seen_local (different same_guard guards);
    up = ups;
    down = flat_map formula_downs (formulas rules guards) ++ map seen_down (different same_guard guards);
    child = by_rule action_spawns 0 rules;
    kinds = by_rule (λ i r. map (kind_of i r) (nodes_of r)) 0 rules;
    visible = set_of (map (λ l. l.from) ups);
  }

  -- the atoms that are seen, one for each guard handed in
  abbrev pub seen_atoms : List ℕ
  seen_atoms = map (λ g. atom_for (seen g)) guards

-- Rules and guards with all parts numbered.
--     IsNumbering rules guards n f    f has the formulas, the numbers of the guards' atoms, and what is seen, over a table of n atoms
--     IsCounted guards c             c has this of its rules, and the forests and their nodes
--     counted_system, counted_seen    the system and its seen atoms, from what is counted
use Rattle.std.specs.Prelude.{◌≡◌, ℕ, ◌+◌, ◌<◌, nat_lt, if◌then◌else◌, List, ◌++◌, length, map, Contains, Option, Some, None}
use Rattle.std.specs.List.{flat_map}
use Rattle.tp_base.specs.declared.atoms.TheConstants.{MOST_ATOMS}
use Rattle.simple_core.specs.declared.rules.Local.{Local}
use Rattle.simple_core.specs.declared.rules.Link.{Link}
use Rattle.simple_core.specs.declared.rules.Spawn.{Spawn}
use Rattle.simple_core.specs.declared.rules.Kind.{Kind}
use Rattle.simple_core.specs.declared.system.System.{System}
use Rattle.simple_core.specs.Labels.{set_of}
use Rattle.guard_sem.specs.Guards.{Guard, same_guard}
use Rattle.guard_sem.specs.declared.rules.Rule.{Rule}
use Rattle.guard_simplify.specs.declared.counting.Counted.{Counted}
use Rattle.guard_simplify.specs.declared.formulas.Formulas.{Formulas}
use Rattle.guard_simplify.specs.declared.simplified.Simplified.{Simplified}
use Rattle.guard_simplify.specs.declared.simplified.TheConstants.{MOST_VISIBLE}
use Rattle.guard_simplify.specs.Firsts.{different}
use Rattle.guard_simplify.specs.Auxiliaries.{formulas, by_rule, places, owners, auxiliaries}
use Rattle.guard_simplify.specs.Simplified.{atom_of}
use Rattle.guard_simplify.specs.Keys.{HasNumber}
use Rattle.guard_simplify.specs.Numbered.{IsTable, stored}
use Rattle.guard_simplify.specs.KeyRules.{by_number, key_locals, key_ups, key_downs}
use Rattle.guard_simplify.specs.Forests.{planted, plantings, nodes_in, owners_in, kinds_by, spawns_by}
use Rattle.guard_simplify.specs.SeenRules.{class_rules, seen_rules, seen_links, seen_of}

pub record IsNumbering (rules : List Rule) (guards : List Guard) (n : ℕ) (f : Formulas) : Type 0 where
  pub table : IsTable n (formulas rules guards) f.keys.keys
  pub of_rules : f.of_rules.items ≡ map (λ r. atom_of rules guards n r.guard) rules
  pub of_guards : f.of_guards.items ≡ map (atom_of rules guards n) guards
  pub known_rules : (g : Guard) → Contains (map (λ r. r.guard) rules) g → HasNumber n (formulas rules guards) g
  pub known : (g : Guard) → Contains guards g → HasNumber n (formulas rules guards) g
  pub seen : f.seen ≡ map (atom_of rules guards n) (different same_guard guards)

pub record IsCounted (guards : List Guard) (c : Counted) : Type 0 where
  pub numbering : IsNumbering c.rules.now guards c.first c.formulas
  pub forests : map planted c.forests.items ≡ plantings 0 c.rules.now
  pub nodes : nodes_in c.nodes ≡ places c.rules.now
  pub owners : owners_in c.nodes ≡ owners c.rules.now

-- nothing is counted where there are too many atoms
abbrev pub IsCountedWithin : List Rule → List Guard → ℕ → Option Counted → Type 0
IsCountedWithin rules guards n (Some c) = (c.rules.now ≡ rules) × (c.first ≡ n) × IsCounted guards c
IsCountedWithin rules guards n None = MOST_ATOMS < n + length (auxiliaries rules guards)

abbrev pub first_seen : Counted → ℕ
first_seen c = c.nodes.first_owner + length c.nodes.owners.keys

abbrev pub counted_locals : Counted → List Local
counted_locals c = by_number key_locals c.first (map stored c.formulas.keys.keys) ++ by_rule (class_rules c.formulas.of_rules.items) 0 c.rules.now ++ seen_rules (first_seen c) c.formulas.seen

abbrev pub counted_ups : Counted → List Link
counted_ups c = by_number key_ups c.first (map stored c.formulas.keys.keys)

abbrev pub counted_downs : Counted → List Link
counted_downs c = by_number key_downs c.first (map stored c.formulas.keys.keys) ++ seen_links (first_seen c) c.formulas.seen

abbrev pub counted_spawns : Counted → List Spawn
counted_spawns c = flat_map (spawns_by c.nodes c.formulas.of_rules.items) c.forests.items

abbrev pub counted_kinds : Counted → List Kind
counted_kinds c = flat_map (kinds_by c.nodes) c.forests.items

abbrev pub left_sides_of : List Link → List ℕ
left_sides_of links = set_of (map (λ l. l.from) links)

abbrev pub counted_system : Counted → System
counted_system c = record {
  local = counted_locals c;
  up = counted_ups c;
  down = counted_downs c;
  child = counted_spawns c;
  kinds = counted_kinds c;
  visible = left_sides_of (counted_ups c);
}

abbrev pub counted_seen : Counted → List ℕ
counted_seen c = seen_of (first_seen c) c.formulas.seen c.formulas.of_guards.items

-- nothing where too many atoms are visible
abbrev pub counted_visibly : Counted → Option Simplified
counted_visibly c =
    if nat_lt MOST_VISIBLE (length (left_sides_of (counted_ups c))) then None
    else Some (record { system = counted_system c; seen = counted_seen c })

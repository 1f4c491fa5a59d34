-- Systems worked out by hand.
use Rattle.std.proofs.Common.{◌≡◌, ℕ, Bool, true, false, List, [], ◌∷◌, Option, Some, None, refl}
use Rattle.tree_sem.specs.Trees.{Row, no_nodes, node, LabelTree}
use Rattle.tree_sem.specs.declared.forests.Forest.{Forest}
use Rattle.tree_sem.specs.declared.actions.Action.{Action}
use Rattle.tree_sem.specs.declared.actions.Action.TheVariants.{Classes, Inside, Beside}
use Rattle.simple_core.specs.declared.rules.Local.{Local}
use Rattle.simple_core.specs.declared.rules.Link.{Link}
use Rattle.simple_core.specs.declared.rules.Spawn.{Spawn}
use Rattle.simple_core.specs.declared.rules.Kind.{Kind}
use Rattle.simple_core.specs.declared.system.System.{System}
use Rattle.guard_sem.specs.Guards.{Guard, atom, parent, ancestor, child, descendant, somewhere, both, any, guard, no_guards}
use Rattle.guard_sem.specs.declared.rules.Rule.{Rule}
use Rattle.guard_simplify.specs.Simplified.{system, seen_atoms}

abbrev by_local : List ℕ → ℕ → Option ℕ → Local
by_local needs gives stmt = record { needs = needs; gives = gives; stmt = stmt }

abbrev by_link : ℕ → ℕ → Link
by_link a b = record { from = a; to = b }

abbrev by_spawn : ℕ → ℕ → Spawn
by_spawn needs kind = record { needs = needs; kind = kind }

abbrev by_kind : List ℕ → ℕ → Option ℕ → ℕ → ℕ → Bool → Kind
by_kind label stmt above number siblings beside = record { label = label; stmt = stmt; above = above; number = number; siblings = siblings; beside = beside }

abbrev by_rule_of : Guard → Action → Rule
by_rule_of g a = record { guard = g; action = a }

abbrev by_tree : List ℕ → Row → LabelTree
by_tree label below = record { label = label; below = below }

abbrev by_forest : List LabelTree → Forest
by_forest tops = record { tops = tops }

-- `.a > .b`, with 0 for `.a` and 1 for `.b`
abbrev child_guard : Guard
child_guard = both (atom 1) (parent (atom 0))

abbrev child_system : System
child_system = record {
  local = by_local (1 ∷ 2 ∷ []) 3 None ∷ by_local (3 ∷ []) 4 None ∷ [];
  up = by_link 0 2 ∷ [];
  down = by_link 4 4 ∷ [];
  child = [];
  kinds = [];
  visible = 0 ∷ [];
}

one_guard : system [] (child_guard ∷ []) 2 ≡ child_system
one_guard = refl

one_seen : seen_atoms [] (child_guard ∷ []) 2 ≡ 4 ∷ []
one_seen = refl

-- a guard that comes twice has one seen atom
two_seen : seen_atoms [] (child_guard ∷ atom 1 ∷ child_guard ∷ []) 2 ≡ 4 ∷ 5 ∷ 4 ∷ []
two_seen = refl

-- boxes in boxes: `$('.box').append('<div class="box"></div>')` with `.box .box .box` and `.box > p`, 0 for `div`, 1 for `.box`, 2 for `p`
abbrev box_rules : List Rule
box_rules = by_rule_of (atom 1) (Inside (by_forest (by_tree (0 ∷ 1 ∷ []) no_nodes ∷ []))) ∷ []

abbrev box_guards : List Guard
box_guards = both (atom 1) (ancestor (both (atom 1) (ancestor (atom 1)))) ∷ both (atom 2) (parent (atom 1)) ∷ []

abbrev box_system : System
box_system = record {
  local = by_local (1 ∷ 3 ∷ []) 4 None ∷ by_local (1 ∷ 5 ∷ []) 6 None ∷ by_local (2 ∷ 7 ∷ []) 8 None ∷ by_local (6 ∷ []) 9 None ∷ by_local (8 ∷ []) 10 None ∷ [];
  up = by_link 1 3 ∷ by_link 3 3 ∷ by_link 4 5 ∷ by_link 5 5 ∷ by_link 1 7 ∷ [];
  down = by_link 9 9 ∷ by_link 10 10 ∷ [];
  child = by_spawn 1 0 ∷ [];
  kinds = by_kind (0 ∷ 1 ∷ []) 0 None 0 1 false ∷ [];
  visible = 1 ∷ 3 ∷ 4 ∷ 5 ∷ [];
}

boxes : system box_rules box_guards 3 ≡ box_system
boxes = refl

boxes_seen : seen_atoms box_rules box_guards 3 ≡ 9 ∷ 10 ∷ []
boxes_seen = refl

-- a forest of two levels: `$('.a').append('<ul><li class="x"></li></ul>')` with `.a > ul > .x`, 0 for `.a`, 1 for `ul`, 2 for `li`, 3 for `.x`
abbrev list_rules : List Rule
list_rules = by_rule_of (atom 0) (Inside (by_forest (by_tree (1 ∷ []) (node (2 ∷ 3 ∷ []) no_nodes no_nodes) ∷ []))) ∷ []

abbrev list_guards : List Guard
list_guards = both (atom 3) (parent (both (atom 1) (parent (atom 0)))) ∷ []

abbrev list_system : System
list_system = record {
  local = by_local (1 ∷ 4 ∷ []) 5 None ∷ by_local (3 ∷ 6 ∷ []) 7 None ∷ by_local (7 ∷ []) 9 None ∷ [];
  up = by_link 0 4 ∷ by_link 5 6 ∷ [];
  down = by_link 9 9 ∷ [];
  child = by_spawn 0 0 ∷ by_spawn 8 1 ∷ [];
  kinds = by_kind (1 ∷ 8 ∷ []) 0 None 0 1 false ∷ by_kind (2 ∷ 3 ∷ []) 0 (Some 0) 0 1 false ∷ [];
  visible = 0 ∷ 5 ∷ [];
}

lists : system list_rules list_guards 4 ≡ list_system
lists = refl

-- an error that marks its form: `$('.box').append('<p><span class="err"></span></p>')` and `$('.err').parents('form').addClass('bad')` with
-- `form.bad`, 0 for `form`, 1 for `.box`, 2 for `p`, 3 for `span`, 4 for `.err`, 5 for `.bad`
abbrev form_rules : List Rule
form_rules =
    by_rule_of (atom 1) (Inside (by_forest (by_tree (2 ∷ []) (node (3 ∷ 4 ∷ []) no_nodes no_nodes) ∷ [])))
    ∷ by_rule_of (both (atom 0) (descendant (atom 4))) (Classes (5 ∷ [])) ∷ []

abbrev form_guards : List Guard
form_guards = both (atom 0) (atom 5) ∷ []

abbrev form_system : System
form_system = record {
  local = by_local (0 ∷ 6 ∷ []) 7 None ∷ by_local (0 ∷ 5 ∷ []) 8 None ∷ by_local (7 ∷ []) 5 (Some 1) ∷ by_local (8 ∷ []) 10 None ∷ [];
  up = [];
  down = by_link 4 6 ∷ by_link 6 6 ∷ by_link 10 10 ∷ [];
  child = by_spawn 1 0 ∷ by_spawn 9 1 ∷ [];
  kinds = by_kind (2 ∷ 9 ∷ []) 0 None 0 1 false ∷ by_kind (3 ∷ 4 ∷ []) 0 (Some 0) 0 1 false ∷ [];
  visible = [];
}

forms : system form_rules form_guards 6 ≡ form_system
forms = refl

-- every kind of formula, and trees beside: two of them, of which the second has two children
abbrev mixed_rules : List Rule
mixed_rules =
    by_rule_of (child (any (guard (atom 0) (guard (somewhere (atom 1)) no_guards))))
    (Beside (by_forest (by_tree (0 ∷ []) no_nodes ∷ by_tree (1 ∷ []) (node (0 ∷ []) no_nodes (node [] no_nodes no_nodes)) ∷ []))) ∷ []

abbrev mixed_system : System
mixed_system = record {
  local = by_local (1 ∷ []) 2 None ∷ by_local (0 ∷ []) 3 None ∷ by_local (2 ∷ []) 3 None ∷ [];
  up = by_link 2 2 ∷ [];
  down = by_link 2 2 ∷ by_link 3 4 ∷ [];
  child = by_spawn 4 0 ∷ by_spawn 4 1 ∷ by_spawn 5 2 ∷ by_spawn 5 3 ∷ [];
  kinds = by_kind (0 ∷ []) 0 None 0 2 true ∷ by_kind (1 ∷ 5 ∷ []) 0 None 1 2 true ∷ by_kind (0 ∷ []) 0 (Some 1) 0 2 true ∷ by_kind [] 0 (Some 1) 1 2 true ∷ [];
  visible = 2 ∷ [];
}

mixed : system mixed_rules [] 2 ≡ mixed_system
mixed = refl

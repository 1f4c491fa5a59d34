-- Which cells the first round may change.
--     bare_gives rules             the atoms that rules without needs give
--     labelled kind label          the cells of a kind's label, which are true from the beginning
--     labelled_each s n            the cells of the first n kinds' labels
--     AreFirst s todo              the worklist has each cell that the first round may change, and only cells of the system
use Rattle.std.specs.Prelude.{◌≡◌, ℕ, ◌<◌, Bool, true, false, List, [], ◌∷◌, map, filter, length, All, Contains}
use Rattle.std.specs.List.{flat_map, range_with_len}
use Rattle.simple_core.specs.declared.rules.Local.{Local}
use Rattle.class_diagrams.specs.References.{Reference, leaf_reference}
use Rattle.simple_core.specs.declared.rules.Link.{Link}
use Rattle.simple_core.specs.declared.rules.Spawn.{Spawn}
use Rattle.simple_core.specs.declared.system.System.{System}
use Rattle.simple_core.specs.Systems.{kind_label}
use Rattle.saturation.specs.Waking.{CellName, Fits}

abbrev pub is_none : List ℕ → Bool
is_none [] = true
is_none (x ∷ xs) = false

abbrev pub bare_gives : List Local → List ℕ
bare_gives rules = map (λ r. r.gives) (filter (λ r. is_none r.needs) rules)

abbrev pub labelled : ℕ → List ℕ → List (CellName × Reference)
labelled kind label = map (λ a. ((kind, a), leaf_reference true)) label

abbrev pub labelled_each : System → ℕ → List (CellName × Reference)
labelled_each s n = flat_map (λ i. labelled i (kind_label s i)) (range_with_len 0 n)

pub record AreFirst (s : System) (todo : List CellName) : Type 0 where
  pub up : (l : Link) → Contains s.up l → (j : ℕ) → j < length s.kinds → Contains todo (j, l.to)
  pub down : (l : Link) → Contains s.down l → (c : Spawn) → Contains s.child c → (j : ℕ) → j < length s.kinds → Contains (kind_label s j) c.needs → Contains (kind_label s c.kind) l.from → Contains todo (j, l.to)
  pub bare : (r : Local) → Contains s.local r → r.needs ≡ [] → (j : ℕ) → j < length s.kinds → Contains todo (j, r.gives)
  pub needing : (r : Local) → Contains s.local r → (b j : ℕ) → Contains r.needs b → j < length s.kinds → Contains (kind_label s j) b → Contains todo (j, r.gives)
  pub cells : All (Fits s) todo

-- Courses: the histories of the visible atoms that may come to a kind.
--     NeverComes label history a                 a kind with this label and these histories never has the atom
--     can_come label history a                   such a kind may have the atom
--     AreCourses label history atoms courses     these are the courses of the atoms that can come to such a kind
--     AreRows s histories rows                   the row of each kind has the courses of the visible atoms
--     is_shut gate parent                        the parent has neither atom of the gate, if there is a gate
--     first_by branches parent course            the first that comes by a course below a parent with these visible atoms
use Rattle.std.specs.Prelude.{◌≡◌, ℕ, nat_lt, Bool, true, false, not, ◌&&◌, ◌||◌, List, [], ◌∷◌, length, map, filter, slice_get, Option, Some, None, All, Contains, ◌⊎◌}
use Rattle.tp_base.specs.Classes.{has_class}
use Rattle.class_diagrams.specs.Trees.{Tree}
use Rattle.class_diagrams.specs.Arena.{IsIn}
use Rattle.simple_core.specs.declared.summaries.First.{First}
use Rattle.simple_core.specs.declared.system.System.{System}
use Rattle.simple_core.specs.Systems.{kind_label}
use Rattle.saturation.specs.Histories.{Change, AreGrowing, first_in}
use Rattle.saturation.specs.declared.courses.Course.{Course}

abbrev pub NeverComes : List ℕ → (ℕ → List Change) → ℕ → Type 0
NeverComes label history a = (has_class a label ≡ false) × (history a ≡ [])

-- the kind has the atom from the beginning, or the atom's cell changes
abbrev pub can_come : List ℕ → (ℕ → List Change) → ℕ → Bool
can_come label history a = has_class a label || nat_lt 0 (length (history a))

pub record IsCourse (label : List ℕ) (history : ℕ → List Change) (c : Course) : Type 0 where
  pub starts : c.starts ≡ has_class c.atom label
  pub changes : c.changes ≡ history c.atom

-- each atom has a course or never comes; there are no other courses, and they are sorted by atoms
pub record AreCourses (label : List ℕ) (history : ℕ → List Change) (atoms : List ℕ) (courses : List Course) : Type 0 where
  pub right : (c : Course) → Contains courses c → Contains atoms c.atom × IsCourse label history c
  pub whole : (a : ℕ) → Contains atoms a → ((c : Course) × Contains courses c × (c.atom ≡ a)) ⊎ NeverComes label history a
  pub order : map (λ c. c.atom) courses ≡ filter (can_come label history) atoms

pub record AreRows (s : System) (histories : ℕ → ℕ → List Change) (rows : List (List Course)) : Type 0 where
  pub count : length rows ≡ length s.kinds
  pub each : (j : ℕ) (row : List Course) → slice_get rows j ≡ Some row → AreCourses (kind_label s j) (histories j) s.visible row

abbrev pub is_shut : Option (ℕ × ℕ) → List ℕ → Bool
is_shut None parent = false
is_shut (Some g) parent = not (has_class g.0 parent) && not (has_class g.1 parent)

-- below a parent with neither atom of the gate nothing comes, if later diagrams are true wherever earlier ones are
abbrev pub IsGated : List Tree → Bool → List Change → Option (ℕ × ℕ) → Type 0
IsGated branches starts changes gate = (parent : List ℕ) → AreGrowing branches changes parent → is_shut gate parent ≡ true → first_in starts branches changes parent ≡ None

abbrev pub HasGate : List Tree → Course → Type 0
HasGate branches c = IsGated branches c.starts c.changes c.gate

-- The changes' diagrams are stored. Under the label later ones are true wherever earlier ones are, and none is true where the gate is shut.
pub record CanBeAsked (branches : List Tree) (parent : List ℕ) (c : Course) : Type 0 where
  pub inside : All (λ x. IsIn branches x.1) c.changes
  pub growing : AreGrowing branches c.changes parent
  pub gate : HasGate branches c

abbrev pub first_of : ℕ → Option ℕ → List First
first_of a None = []
first_of a (Some k) = record { atom = a; round = k } ∷ []

abbrev pub first_by : List Tree → List ℕ → Course → List First
first_by branches parent c = first_of c.atom (first_in c.starts branches c.changes parent)

-- Indexes of rules by the atoms that they look at.
--     IsIndex key rules rows   the row of each key has exactly the places of the rules with this key
--     AreFound rules rows own fresh   a rule whose needs own has stands at 0 or at a fresh atom, unless own has what it gives
--     by_label f rules rows at label   what f gives of the rules that stand at the keys of the label's atoms
use Rattle.std.specs.Prelude.{◌≡◌, ◌⊎◌, ℕ, ◌+◌, List, [], ◌∷◌, slice_get, Some, option_map, unwrap_or, All, Contains}
use Rattle.std.specs.List.{flat_map}
use Rattle.simple_core.specs.declared.system.System.{System}
use Rattle.simple_core.specs.declared.rules.Local.{Local}
use Rattle.simple_core.specs.declared.rules.Link.{Link}
use Rattle.simple_core.specs.declared.rules.Spawn.{Spawn}
use Rattle.simple_core.specs.Labels.{given_by_rules}
use Rattle.row_index.specs.Rows.{row_of}

pub record IsIndex {X : Type 0} (key : X → ℕ) (rules : List X) (rows : List (List ℕ)) : Type 0 where
  pub whole : (i : ℕ) (x : X) → slice_get rules i ≡ Some x → Contains (row_of rows (key x)) i
  pub only : (k i : ℕ) → Contains (row_of rows k) i → (x : X) × (slice_get rules i ≡ Some x) × (key x ≡ k)

-- the place was noted for each of these atoms, at one more than its number
pub record AreNeedsNoted (old new : List (List ℕ)) (needs : List ℕ) (place : ℕ) : Type 0 where
  pub kept : (k i : ℕ) → Contains (row_of old k) i → Contains (row_of new k) i
  pub each : (a : ℕ) → Contains needs a → Contains (row_of new (a + 1)) place

-- the same, and at 0 for a rule without needs
pub record IsRuleNoted (old new : List (List ℕ)) (needs : List ℕ) (place : ℕ) : Type 0 where
  pub noted : AreNeedsNoted old new needs place
  pub free : needs ≡ [] → Contains (row_of new 0) place

-- a rule without needs stands at 0, each other rule at each atom that it needs
pub record AreLocalsAt (rules : List Local) (rows : List (List ℕ)) : Type 0 where
  pub free : (i : ℕ) (r : Local) → slice_get rules i ≡ Some r → r.needs ≡ [] → Contains (row_of rows 0) i
  pub each : (i : ℕ) (r : Local) (a : ℕ) → slice_get rules i ≡ Some r → Contains r.needs a → Contains (row_of rows (a + 1)) i

-- the key of a rule that stands once: 0 without needs, else one of the atoms that it needs
abbrev pub IsOneKey : List ℕ → ℕ → Type 0
IsOneKey needs key = ((needs ≡ []) × (key ≡ 0)) ⊎ ((a : ℕ) × Contains needs a × (key ≡ a + 1))

-- each rule stands at such a key
pub record AreRareAt (rules : List Local) (rows : List (List ℕ)) : Type 0 where
  pub one : (i : ℕ) (r : Local) → slice_get rules i ≡ Some r → (key : ℕ) × IsOneKey r.needs key × Contains (row_of rows key) i

abbrev pub AreFound : List Local → List (List ℕ) → List ℕ → List ℕ → Type 0
AreFound rules rows own fresh = (i : ℕ) (r : Local) → slice_get rules i ≡ Some r → All (Contains own) r.needs
    → Contains own r.gives ⊎ (Contains (row_of rows 0) i ⊎ ((a : ℕ) × Contains fresh a × Contains (row_of rows (a + 1)) i))

abbrev pub AreLinksAt : List Link → List (List ℕ) → Type 0
AreLinksAt links rows = IsIndex (λ (l : Link). l.from) links rows

abbrev pub AreSpawnsAt : List Spawn → List (List ℕ) → Type 0
AreSpawnsAt spawns rows = IsIndex (λ (c : Spawn). c.needs) spawns rows

pub record AreIndexes (s : System) (local rare up down child : List (List ℕ)) : Type 0 where
  pub of_local : AreLocalsAt s.local local
  pub of_rare : AreRareAt s.local rare
  pub of_up : AreLinksAt s.up up
  pub of_down : AreLinksAt s.down down
  pub of_child : AreSpawnsAt s.child child

-- what f gives of the rule at a place, and of the rules at the places of a row
abbrev pub at_place : {X : Type 0} → (X → List ℕ) → List X → ℕ → List ℕ
at_place f rules i = unwrap_or (option_map f (slice_get rules i)) []

abbrev pub at_row : {X : Type 0} → (X → List ℕ) → List X → List ℕ → List ℕ
at_row f rules row = flat_map (at_place f rules) row

abbrev pub by_label : {X : Type 0} → (X → List ℕ) → List X → List (List ℕ) → (ℕ → ℕ) → List ℕ → List ℕ
by_label f rules rows at label = flat_map (λ a. at_row f rules (row_of rows (at a))) label

abbrev pub given_in : List ℕ → Local → List ℕ
given_in label r = given_by_rules (r ∷ []) label

abbrev pub to_of : Link → List ℕ
to_of l = l.to ∷ []

abbrev pub kind_of : Spawn → List ℕ
kind_of c = c.kind ∷ []

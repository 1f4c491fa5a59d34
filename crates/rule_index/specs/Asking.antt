-- What a label gives and asks, where some of its atoms are fresh.
--     IsMore own given old new   new is old with the given atoms, of which those in own may be missing, and rises where old does
--     AreMet rules own fresh     own has what a rule gives whose needs it has, unless the rule needs nothing or a fresh atom
--     AreMetBy rules own fresh   own has what a rule gives whose needs it has, unless the rule needs a fresh atom
--     AreUnseen links atoms      no link looks at one of the atoms
--     AsksAnew s a               the atom is visible or makes a child, so that a label with it may ask for other pairs
--     AreKinds s own kinds       the kinds of the children that the label makes, in any order
use Rattle.std.specs.Prelude.{◌≡◌, ◌⊎◌, ◌↔◌, ℕ, List, [], All, Contains}
use Rattle.std.specs.List.Sorted.{IsStrictlyIncreasing}
use Rattle.simple_core.specs.declared.system.System.{System}
use Rattle.simple_core.specs.declared.rules.Local.{Local}
use Rattle.simple_core.specs.declared.rules.Link.{Link}
use Rattle.simple_core.specs.declared.rules.Spawn.{Spawn}
use Rattle.simple_core.specs.Labels.{kinds_at}

pub record IsMore (own given old new : List ℕ) : Type 0 where
  pub kept : (y : ℕ) → Contains old y → Contains new y
  pub right : (y : ℕ) → Contains new y → Contains old y ⊎ Contains given y
  pub whole : (y : ℕ) → Contains given y → Contains own y ⊎ Contains new y
  pub rises : IsStrictlyIncreasing old → IsStrictlyIncreasing new

abbrev pub AreMet : List Local → List ℕ → List ℕ → Type 0
AreMet rules own fresh = (r : Local) → Contains rules r → All (Contains own) r.needs → Contains own r.gives ⊎ ((r.needs ≡ []) ⊎ ((a : ℕ) × Contains r.needs a × Contains fresh a))

abbrev pub AreMetBy : List Local → List ℕ → List ℕ → Type 0
AreMetBy rules own fresh = (r : Local) → Contains rules r → All (Contains own) r.needs → Contains own r.gives ⊎ ((a : ℕ) × Contains r.needs a × Contains fresh a)

abbrev pub AreUnseen : List Link → List ℕ → Type 0
AreUnseen links atoms = (l : Link) → Contains links l → Contains atoms l.from → ⊥

abbrev pub AsksAnew : System → ℕ → Type 0
AsksAnew s a = Contains s.visible a ⊎ ((c : Spawn) × Contains s.child c × (c.needs ≡ a))

abbrev pub AreKinds : System → List ℕ → List ℕ → Type 0
AreKinds s own kinds = (j : ℕ) → Contains kinds j ↔ Contains (kinds_at s own) j

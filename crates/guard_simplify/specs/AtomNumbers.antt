-- Numbers that are atoms of a system, and forests within the limit on nodes.
use Rattle.std.specs.Prelude.{ℕ, ◌≤◌, List, [], ◌∷◌, length, All}
use Rattle.std.specs.Coded.{×_prop, Π_prop, Unit-prop, le_prop}
use Rattle.simple_core.specs.Systems.{IsAtom}
use Rattle.simple_core.specs.declared.system.TheConstants.{MOST_KINDS}
use Rattle.guard_sem.specs.declared.rules.Rule.{Rule}
use Rattle.guard_simplify.specs.declared.keys.Key.{Key}
use Rattle.guard_simplify.specs.declared.formulas.Formulas.{Formulas}
use Rattle.guard_simplify.specs.Auxiliaries.{nodes_of}

-- the parts of a formula are atoms
abbrev pub HasAtomParts : Key → Type 0
HasAtomParts k = All IsAtom k.parts.items

abbrev pub HaveAtomParts : List Key → Type 0
HaveAtomParts [] = Unit {0}
HaveAtomParts (k ∷ keys) = HasAtomParts k × HaveAtomParts keys

abbrev pub AreAtoms : List ℕ → Type 0
AreAtoms [] = Unit {0}
AreAtoms (a ∷ numbers) = IsAtom a × AreAtoms numbers

pub record HasAtoms (f : Formulas) : Type 0 where
  pub formulas : HaveAtomParts f.keys.keys
  pub rules : All IsAtom f.of_rules.items
  pub seen : AreAtoms f.seen

-- each of these is so in one way
all_atoms-prop : (xs : List ℕ) → IsProp (All IsAtom xs)
all_atoms-prop xs = Π_prop (λ k. Π_prop (λ d. Π_prop (λ less. le_prop)))

parts-prop : (keys : List Key) → IsProp (HaveAtomParts keys)
parts-prop [] = Unit-prop
parts-prop (k ∷ keys) = ×_prop (all_atoms-prop k.parts.items) (parts-prop keys)

atoms-prop : (numbers : List ℕ) → IsProp (AreAtoms numbers)
atoms-prop [] = Unit-prop
atoms-prop (a ∷ numbers) = ×_prop le_prop (atoms-prop numbers)

pub HasAtoms-prop : (f : Formulas) → IsProp (HasAtoms f)
HasAtoms-prop f a b =
    let parts' = parts-prop f.keys.keys a.formulas b.formulas in
    let rules' = all_atoms-prop f.of_rules.items a.rules b.rules in
    let seen' = atoms-prop f.seen a.seen b.seen in
    λ i. record { formulas = parts' i; rules = rules' i; seen = seen' i }

-- the forest has no more nodes than there may be kinds
abbrev pub HasFewNodes : Rule → Type 0
HasFewNodes r = length (nodes_of r) ≤ MOST_KINDS

abbrev pub HaveFewNodes : List Rule → Type 0
HaveFewNodes [] = Unit {0}
HaveFewNodes (r ∷ rules) = HasFewNodes r × HaveFewNodes rules

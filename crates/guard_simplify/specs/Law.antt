-- The law of simplification: simple steps follow rule steps, and go back to them.
--     IsAdded t rules steps p w      the node at w was added in one of the steps, as the node at p of its rule's forest
--     IsTrueOf t steps w x           what an auxiliary says of the node at w, after these steps from t
--     Follows, GoesBack              the two halves of the law
use Rattle.std.specs.Prelude.{◌≡◌, ◌⊎◌, ℕ, ◌+◌, ◌<◌, List, [], ◌∷◌, ◌++◌, All, Contains, Some, unwrap_or, slice_get}
use Rattle.tree_sem.specs.Trees.{LabelTree, children_at}
use Rattle.tree_sem.specs.Embedding.{IsEmbedding}
use Rattle.simple_core.specs.SimpleSteps as simple
use Rattle.guard_sem.specs.Guards.{Guard, always, atom, all, any, parent, ancestor, child, descendant, somewhere, Guards, no_guards, guard}
use Rattle.guard_sem.specs.Holding.{Holds}
use Rattle.guard_sem.specs.declared.rules.Rule.{Rule}
use Rattle.guard_sem.specs.Rules.{RuleStep, after_step, end_of, AreLegal}
use Rattle.guard_simplify.specs.Auxiliaries.{forest_of, Place, Auxiliary, formula, owner, seen, auxiliaries, formulas}
use Rattle.guard_simplify.specs.Simplified.{atom_for, atom_of, classes_of, system}
use Rattle.tree_sem.specs.Nodes.{IsNode, HasAtom, IsTreeOver}

-- the step adds the node at w, as the one of this place
abbrev pub IsNew : LabelTree → List Rule → RuleStep → Place → List ℕ → Type 0
IsNew t rules step p w =
    (step.rule ≡ p.0) × (r : Rule) × (slice_get rules p.0 ≡ Some r) × IsNode (forest_of r) p.1
    × (m : ℕ) × (q : List ℕ) × (p.1 ≡ m ∷ q) × (w ≡ step.at ++ (unwrap_or (children_at step.at t) 0 + m) ∷ q)

abbrev pub IsAdded : LabelTree → List Rule → List RuleStep → Place → List ℕ → Type 0
IsAdded t rules [] p w = ⊥
IsAdded t rules (step ∷ steps) p w = IsNew t rules step p w ⊎ IsAdded (after_step t rules step) rules steps p w

module _ (rules : List Rule) (guards : List Guard) (n : ℕ) where
  -- a is the atom of this auxiliary
  abbrev pub IsFor : ℕ → Auxiliary → Type 0
  IsFor a x = Contains (auxiliaries rules guards) x × (a ≡ atom_for rules guards n x)

  -- After these steps from t: the formula holds at w; the node at w was added as that node; the guard holds somewhere.
  abbrev pub IsTrueOf : LabelTree → List RuleStep → List ℕ → Auxiliary → Type 0
  IsTrueOf t steps w (formula g) = Holds (end_of t rules steps) w g
  IsTrueOf t steps w (owner p) = IsAdded t rules steps p w
  IsTrueOf t steps w (seen g) = (v : List ℕ) × Holds (end_of t rules steps) v g

  -- each list of rule steps from t is followed
  abbrev pub Follows : LabelTree → Type 0
  Follows t = (steps : List RuleStep) → AreLegal t rules steps
      → (by : List simple.SimpleStep) × (image : List ℕ → List ℕ) × simple.AreLegal (system rules guards n) t by
      × IsEmbedding (λ a. Unit {0}) (end_of t rules steps) (simple.end_of (system rules guards n) t by) image
      × ((v : List ℕ) (g : Guard) → Contains (formulas rules guards) g → Holds (end_of t rules steps) v g → HasAtom (simple.end_of (system rules guards n) t by) (image v) (atom_of rules guards n g))
      × ((v : List ℕ) (g : Guard) → Contains guards g → Holds (end_of t rules steps) v g → HasAtom (simple.end_of (system rules guards n) t by) [] (atom_for rules guards n (seen g)))

  -- each list of simple steps from t goes back to rule steps
  abbrev pub GoesBack : LabelTree → Type 0
  GoesBack t = (by : List simple.SimpleStep) → simple.AreLegal (system rules guards n) t by
      → (steps : List RuleStep) × (image : List ℕ → List ℕ) × AreLegal t rules steps
      × IsEmbedding (λ a. a < n) (simple.end_of (system rules guards n) t by) (end_of t rules steps) image
      × ((v : List ℕ) (x : Auxiliary) → Contains (auxiliaries rules guards) x → HasAtom (simple.end_of (system rules guards n) t by) v (atom_for rules guards n x) → IsTrueOf t steps (image v) x)

-- the atoms of a guard are of a table of n
abbrev mutual
  pub IsOver : ℕ → Guard → Type 0
  IsOver n always = Unit {0}
  IsOver n (atom a) = a < n
  IsOver n (all gs) = AreOver n gs
  IsOver n (any gs) = AreOver n gs
  IsOver n (parent g) = IsOver n g
  IsOver n (ancestor g) = IsOver n g
  IsOver n (child g) = IsOver n g
  IsOver n (descendant g) = IsOver n g
  IsOver n (somewhere g) = IsOver n g

  pub AreOver : ℕ → Guards → Type 0
  AreOver n no_guards = Unit {0}
  AreOver n (guard g gs) = IsOver n g × AreOver n gs

pub record IsRuleOver (n : ℕ) (r : Rule) : Type 0 where
  pub guard : IsOver n r.guard
  pub classes : All (λ a. a < n) (classes_of r.action)
  pub forest : IsTreeOver n (forest_of r)

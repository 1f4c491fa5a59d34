-- What a look at one atom gives.
--     IsGlance s page spot a g    the atom's first round at the spot, the reason for it, and for a spawn the visible label in the round before
use Rattle.std.specs.Prelude.{◌≡◌, ℕ, ◌-◌, Bool, true, false, List, Contains, Some, IsSome, slice_get}
use Rattle.std.specs.List.Sorted.{IsStrictlyIncreasing}
use Rattle.tree_sem.specs.Trees.{LabelTree, node_at}
use Rattle.simple_core.specs.declared.system.System.{System}
use Rattle.simple_core.specs.Labels.{visible_in}
use Rattle.simple_core.specs.Pairs.{Pair}
use Rattle.simple_core.specs.Knowledge.{KeepsAsking}
use Rattle.proof_needs.specs.declared.needs.Choice.{Choice}
use Rattle.proof_needs.specs.declared.needs.Choice.TheVariants.{Start, Local, Up, Real, Spawn}
use Rattle.proof_maker.specs.declared.choices.Found.{Found}
use Rattle.proof_maker.specs.declared.worlds.Place.{Place}
use Rattle.proof_maker.specs.declared.worlds.World.{World}
use Rattle.proof_needs.specs.Choices.{chosen}
use Rattle.proof_maker.specs.Worlds.{setting_of, path_of, labels_of}
use Rattle.simple_core.specs.Rounds.{IsFirst}
use Rattle.proof_maker.specs.declared.glances.Glance.{Glance}
use Rattle.proof_maker.specs.Needs.{labels_at, IsChosen}
use Rattle.proof_needs.specs.Triples.{Triple, Spot, page_node, added}
use Rattle.proof_maker.specs.Reasons.{reason_of}

abbrev pub is_spawn : Choice → Bool
is_spawn Start = false
is_spawn (Local l) = false
is_spawn (Up l) = false
is_spawn (Real l n) = false
is_spawn (Spawn l c) = true

-- a spawn is found with the visible label at the place in the round
abbrev pub HasBelow : {X : Type 0} → World X → Place → ℕ → Found → Type 0
HasBelow world place k f = is_spawn f.choice ≡ true → f.below ≡ visible_in world.system.now (labels_of world.system.now world.page.now place k)

pub record IsGlanceAt (s : System) (page : LabelTree) (place : Place) (a : ℕ) (g : Glance) : Type 0 where
  pub first : IsFirst (labels_of s page place) a (Some g.round)
  pub choice : reason_of g.choice ≡ chosen s (setting_of s page place) (path_of place) a g.round
  pub below : is_spawn g.choice ≡ true → g.below ≡ visible_in s (labels_of s page place (g.round - 1))

pub record IsGlance (s : System) (page : LabelTree) (spot : Spot) (a : ℕ) (g : Glance) : Type 0 where
  pub chosen : IsChosen s page spot a g.round (reason_of g.choice)
  pub below : is_spawn g.choice ≡ true → g.below ≡ visible_in s (labels_at s page spot (g.round - 1))

-- with the pair of an added node all that it asks is known
abbrev pub AsksAt : System → (Pair → Type 0) → Spot → Type 0
AsksAt s known (page_node v) = Unit {0}
AsksAt s known (added t) = KeepsAsking s known

-- an atom that comes at the page's node, or the added node, of this number
pub record IsNodeAt (s : System) (page : LabelTree) (nodes : List (List ℕ)) (n a : ℕ) : Type 0 where
  pub path : List ℕ
  pub at : slice_get nodes n ≡ Some path
  pub node : IsSome (node_at path page)
  pub comes : (k : ℕ) × Contains (labels_at s page (page_node path) k) a

-- an atom that comes at the added node of a triple
pub record IsKeyOf (s : System) (page : LabelTree) (known : Pair → Type 0) (t : Triple) (a : ℕ) : Type 0 where
  pub pair : known (t.kind, t.parent)
  pub rises : IsStrictlyIncreasing t.parent
  pub comes : (k : ℕ) × Contains (labels_at s page (added t) k) a

pub record IsTripleAt (s : System) (page : LabelTree) (known : Pair → Type 0) (triples : List Triple) (n a : ℕ) : Type 0 where
  pub triple : Triple
  pub at : slice_get triples n ≡ Some triple
  pub pair : known (triple.kind, triple.parent)
  pub rises : IsStrictlyIncreasing triple.parent
  pub comes : (k : ℕ) × Contains (labels_at s page (added triple) k) a

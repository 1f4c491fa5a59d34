-- First rounds, found by the parents of their nodes.
--     path_to nodes p s        the path one step s below the p-th node, or the root's path if there is no p-th node
--     IsSpotOf nodes v spot    this spot, and no other, stands for the node at v
--     placed nodes fs          these firsts, with paths in place of numbers
--     AreOfNodes nodes fs      each first is of a node, and a node has one first round for each of its atoms
--     AreKept nodes fs         the stored firsts belong to these nodes
--     IsRoundIn fs spot a o    o is the first round of the atom a at the spot's node
--     IsChildIn fs p a k o     o is the least step from the p-th node to a child that has the atom a by the round k
use Rattle.std.specs.Prelude.{◌≡◌, ◌<◌, ◌≤◌, ℕ, List, [], ◌∷◌, ◌++◌, map, Option, Some, None, option_map, unwrap_or, length, get_or, slice_get, Contains}
use Rattle.closed_page.specs.Notes.{NodeFirst, IsSpot}
use Rattle.closed_page.specs.declared.first_rounds.Spot.{Spot}
use Rattle.closed_page.specs.Views.{PageFirst}

abbrev pub path_to : List (List ℕ) → ℕ → ℕ → List ℕ
path_to nodes p s = unwrap_or (option_map (λ v. v ++ s ∷ []) (slice_get nodes p)) []

pub record IsSpotOf (nodes : List (List ℕ)) (v : List ℕ) (spot : Spot) : Type 0 where
  pub right : IsSpot nodes spot.parent spot.step
  pub path : path_to nodes spot.parent spot.step ≡ v
  pub only : (p s : ℕ) → IsSpot nodes p s → path_to nodes p s ≡ v → (p ≡ spot.parent) × (s ≡ spot.step)

abbrev pub placed_one : List (List ℕ) → NodeFirst → PageFirst
placed_one nodes f = record { at = path_to nodes f.parent f.step; atom = f.atom; round = f.round }

abbrev pub placed : List (List ℕ) → List NodeFirst → List PageFirst
placed nodes fs = map (placed_one nodes) fs

-- each first has a spot that these nodes allow
abbrev pub AreSpots : List (List ℕ) → List NodeFirst → Type 0
AreSpots nodes fs = (f : NodeFirst) → Contains fs f → IsSpot nodes f.parent f.step

pub record AreOfNodes (nodes : List (List ℕ)) (firsts : List PageFirst) : Type 0 where
  pub once : (i j : ℕ) → i < length nodes → j < length nodes → get_or nodes i [] ≡ get_or nodes j [] → i ≡ j
  pub there : (f : PageFirst) → Contains firsts f → Contains nodes f.at
  pub one : (f g : PageFirst) → Contains firsts f → Contains firsts g → f.at ≡ g.at → f.atom ≡ g.atom → f.round ≡ g.round

-- a node's parent is a node
abbrev pub AreRooted : List (List ℕ) → Type 0
AreRooted nodes = (v : List ℕ) (k : ℕ) → Contains nodes (v ++ k ∷ []) → Contains nodes v

pub record AreKept (nodes : List (List ℕ)) (firsts : List NodeFirst) : Type 0 where
  pub rooted : AreRooted nodes
  pub of_nodes : AreOfNodes nodes (placed nodes firsts)
  pub spots : AreSpots nodes firsts

pub record IsFirstAt (spot : Spot) (a : ℕ) (f : NodeFirst) : Type 0 where
  pub parent : f.parent ≡ spot.parent
  pub step : f.step ≡ spot.step
  pub atom : f.atom ≡ a

abbrev pub IsRoundIn : List NodeFirst → Spot → ℕ → Option ℕ → Type 0
IsRoundIn fs spot a None = (f : NodeFirst) → Contains fs f → IsFirstAt spot a f → ⊥
IsRoundIn fs spot a (Some r) = (f : NodeFirst) × Contains fs f × IsFirstAt spot a f × (f.round ≡ r)

-- a child of the p-th node has the atom by the round k
pub record IsBelow (p a k : ℕ) (f : NodeFirst) : Type 0 where
  pub parent : f.parent ≡ p
  pub atom : f.atom ≡ a
  pub round : f.round ≤ k

abbrev pub IsChildIn : List NodeFirst → ℕ → ℕ → ℕ → Option ℕ → Type 0
IsChildIn fs p a k None = (f : NodeFirst) → Contains fs f → IsBelow p a k f → ⊥
IsChildIn fs p a k (Some s) = ((f : NodeFirst) × Contains fs f × IsBelow p a k f × (f.step ≡ s)) × ((f : NodeFirst) → Contains fs f → IsBelow p a k f → s ≤ f.step)

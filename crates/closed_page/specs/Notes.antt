-- Notes of the atoms that nodes got, as the code keeps them.
--     NodeFirst              a first: a node by its parent's number and its step, an atom, and its first round
--     node_firsts spot round atoms   these atoms of one node
--     firsts_in n            the firsts of the note n
--     expanded ns            the firsts of all notes
--     IsNoted old new spot own label round   one note was appended: the atoms of the label that are not in `own`
--     IsSpot nodes p s       p is a node, or p and s stand for the root
--     AreAtSpots nodes ns    each note has a spot that these nodes allow
--     IsAlike m n o          the note o is of the sibling n steps behind the one of m, with the same atoms and round
--     AreAlike ns i j        the notes from i up to j are of consecutive siblings, with the same atoms and round
--     spot_cmp s t           the order of spots: by the parent, then by the step
use Rattle.std.specs.Prelude.{◌≡◌, ◌⊎◌, ◌<◌, ◌≤◌, ◌+◌, ◌-◌, ℕ, List, [], ◌∷◌, ◌++◌, map, length, get_or, Contains}
use Rattle.std.specs.List.{flat_map}
use Rattle.std.specs.Ordering.{nat_cmp, ordering_then}
use Rattle.std.specs.declared.cmp.Ordering.{Ordering}
use Rattle.closed_page.specs.declared.first_rounds.Spot.{Spot}
use Rattle.closed_page.specs.declared.notes.NodeNews.{NodeNews}
use Rattle.closed_page.specs.Gains.{new_of}

pub record NodeFirst : Type 0 where
  pub parent : ℕ
  pub atom : ℕ
  pub step : ℕ
  pub round : ℕ

abbrev pub node_firsts : Spot → ℕ → List ℕ → List NodeFirst
node_firsts spot round atoms = map (λ a. record { parent = spot.parent; atom = a; step = spot.step; round = round }) atoms

abbrev pub firsts_in : NodeNews → List NodeFirst
firsts_in n = node_firsts n.spot n.round n.atoms

abbrev pub expanded : List NodeNews → List NodeFirst
expanded ns = flat_map firsts_in ns

abbrev pub IsNoted : List NodeNews → List NodeNews → Spot → List ℕ → List ℕ → ℕ → Type 0
IsNoted old new spot own label round = new ≡ old ++ record { spot = spot; round = round; atoms = new_of own label } ∷ []

abbrev pub IsSpot : List (List ℕ) → ℕ → ℕ → Type 0
IsSpot nodes p s = (p < length nodes) ⊎ ((p ≡ length nodes) × (s ≡ 0))

abbrev pub AreAtSpots : List (List ℕ) → List NodeNews → Type 0
AreAtSpots nodes ns = (n : NodeNews) → Contains ns n → IsSpot nodes n.spot.parent n.spot.step

pub record IsAlike (m : NodeNews) (n : ℕ) (o : NodeNews) : Type 0 where
  pub parent : o.spot.parent ≡ m.spot.parent
  pub step : o.spot.step ≡ m.spot.step + n
  pub round : o.round ≡ m.round
  pub atoms : o.atoms ≡ m.atoms

pub record AreAlike (ns : List NodeNews) (i j : ℕ) : Type 0 where
  pub more : i < j
  pub within : j ≤ length ns
  pub each : (k : ℕ) (d : NodeNews) → i ≤ k → k < j → IsAlike (get_or ns i d) (k - i) (get_or ns k d)

abbrev pub spot_cmp : Spot → Spot → Ordering
spot_cmp s t = ordering_then (nat_cmp s.parent t.parent) (nat_cmp s.step t.step)

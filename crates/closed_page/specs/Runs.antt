-- Firsts by atoms: for each atom a row of runs. A run is consecutive siblings with the same first round.
--     row_at rows a            the runs of the atom a
--     IsIn x spot              the child at the spot is in the run x
--     Covers row spot          the child is in a run of the row; Tells row spot r: this run has the round r
--     IsBefore x y             the run x ends before the run y
--     AreOrdered row           each run ends before those behind it
--     EndsBefore x spot        the run ends before the child; EndsBy x spot: it ends before or at the child
--     start_of x, end_of x     the first and the last child of the run
--     IsWith x y z             z is the run x extended by the children of the run y
--     IsPutIn old new y        the children of the run y were added to the row, and no child stands behind them
--     IsPut old new a y        the same for the row of the atom a, where no other row changed
--     all_in rows              the firsts of all rows
--     AreByAtom fs rows        the rows hold exactly the firsts fs
--     AreByAtomWith fs as y rows   they hold these, and firsts of the atoms `as` for the children of the run y
--     IsRunOf ns i j y         y is the run of the children of the notes from i up to j
--     IsOfRun as y f           the first f is of an atom in `as` and of a child in the run y
--     IsRoundInRow row spot o  o is the round that the row has for the child, if it has one
--     IsChildInRow row p k o   o is the least step from the p-th node to a child of round k or before
use Rattle.std.specs.Prelude.{◌≡◌, ◌≢◌, ◌⊎◌, ◌==◌, ◌&&◌, ◌||◌, ◌<◌, ◌≤◌, ◌+◌, ◌-◌, nat_lt, nat_le, Bool, ℕ, suc, List, [], ◌∷◌, ◌++◌, map, Option, Some, None, get_or, Contains}
use Rattle.std.specs.List.{flat_map, range_with_len, AllPairs}
use Rattle.closed_page.specs.declared.first_rounds.Spot.{Spot}
use Rattle.closed_page.specs.declared.first_rows.Run.{Run}
use Rattle.closed_page.specs.declared.notes.NodeNews.{NodeNews}
use Rattle.closed_page.specs.Notes.{NodeFirst}

abbrev pub row_at : List (List Run) → ℕ → List Run
row_at rows a = get_or rows a []

pub record IsIn (x : Run) (spot : Spot) : Type 0 where
  pub parent : x.parent ≡ spot.parent
  pub from : x.first ≤ spot.step
  pub to : spot.step ≤ x.last

abbrev pub Covers : List Run → Spot → Type 0
Covers row spot = (x : Run) × Contains row x × IsIn x spot

abbrev pub Tells : List Run → Spot → ℕ → Type 0
Tells row spot r = (x : Run) × Contains row x × IsIn x spot × (x.round ≡ r)

abbrev pub IsBefore : Run → Run → Type 0
IsBefore x y = (x.parent < y.parent) ⊎ ((x.parent ≡ y.parent) × (x.last ≤ y.first))

pub record AreOrdered (row : List Run) : Type 0 where
  pub pairs : AllPairs IsBefore row
  pub filled : (x : Run) → Contains row x → x.first ≤ x.last

-- the same as tests
abbrev pub covers : Run → Spot → Bool
covers x spot = (x.parent == spot.parent) && nat_le x.first spot.step && nat_le spot.step x.last

abbrev pub ends_before : Run → Spot → Bool
ends_before x spot = nat_lt x.parent spot.parent || ((x.parent == spot.parent) && nat_lt x.last spot.step)

abbrev pub EndsBefore : Run → Spot → Type 0
EndsBefore x spot = (x.parent < spot.parent) ⊎ ((x.parent ≡ spot.parent) × (x.last < spot.step))

abbrev pub EndsBy : Run → Spot → Type 0
EndsBy x spot = (x.parent < spot.parent) ⊎ ((x.parent ≡ spot.parent) × (x.last ≤ spot.step))

abbrev pub AllEndBy : List Run → Spot → Type 0
AllEndBy row spot = (x : Run) → Contains row x → EndsBy x spot

abbrev pub start_of : Run → Spot
start_of x = record { parent = x.parent; step = x.first }

abbrev pub end_of : Run → Spot
end_of x = record { parent = x.parent; step = x.last }

pub record IsWith (x y z : Run) : Type 0 where
  pub here : x.parent ≡ y.parent
  pub same : x.round ≡ y.round
  pub near : y.first ≤ x.last + 1
  pub parent : z.parent ≡ x.parent
  pub first : z.first ≡ x.first
  pub last : z.last ≡ y.last
  pub round : z.round ≡ x.round

pub record IsPutIn (old new : List Run) (y : Run) : Type 0 where
  pub kept : (s : Spot) → Covers old s → Covers new s
  pub here : (s : Spot) → IsIn y s → Covers new s
  pub only : (s : Spot) (k : ℕ) → Tells new s k → Tells old s k ⊎ (IsIn y s × (k ≡ y.round))
  pub ordered : AreOrdered new
  pub ends : AllEndBy new (end_of y)

pub record IsPut (old new : List (List Run)) (a : ℕ) (y : Run) : Type 0 where
  pub here : IsPutIn (row_at old a) (row_at new a) y
  pub others : (b : ℕ) → b ≢ a → row_at new b ≡ row_at old b

abbrev pub AreSorted : List (List Run) → Type 0
AreSorted rows = (a : ℕ) → AreOrdered (row_at rows a)

abbrev pub AreEnded : List (List Run) → Spot → Type 0
AreEnded rows spot = (a : ℕ) → AllEndBy (row_at rows a) spot

abbrev pub first_of : Spot → ℕ → ℕ → NodeFirst
first_of spot a r = record { parent = spot.parent; atom = a; step = spot.step; round = r }

abbrev pub spot_in : NodeFirst → Spot
spot_in f = record { parent = f.parent; step = f.step }

pub record AreByAtom (fs : List NodeFirst) (rows : List (List Run)) : Type 0 where
  pub whole : (f : NodeFirst) → Contains fs f → Covers (row_at rows f.atom) (spot_in f)
  pub only : (a : ℕ) (s : Spot) (r : ℕ) → Tells (row_at rows a) s r → Contains fs (first_of s a r)

pub record IsOfRun (atoms : List ℕ) (y : Run) (f : NodeFirst) : Type 0 where
  pub atom : Contains atoms f.atom
  pub child : IsIn y (spot_in f)
  pub round : f.round ≡ y.round

pub record AreByAtomWith (fs : List NodeFirst) (atoms : List ℕ) (y : Run) (rows : List (List Run)) : Type 0 where
  pub whole : (f : NodeFirst) → Contains fs f ⊎ IsOfRun atoms y f → Covers (row_at rows f.atom) (spot_in f)
  pub only : (a : ℕ) (s : Spot) (r : ℕ) → Tells (row_at rows a) s r → Contains fs (first_of s a r) ⊎ IsOfRun atoms y (first_of s a r)

pub record IsRunOf (ns : List NodeNews) (i j : ℕ) (y : Run) : Type 0 where
  pub parent : (d : NodeNews) → y.parent ≡ (get_or ns i d).spot.parent
  pub first : (d : NodeNews) → y.first ≡ (get_or ns i d).spot.step
  pub round : (d : NodeNews) → y.round ≡ (get_or ns i d).round
  pub last : y.last + 1 ≡ y.first + (j - i)

abbrev pub run_firsts : ℕ → Run → List NodeFirst
run_firsts a x = map (λ k. record { parent = x.parent; atom = a; step = x.first + k; round = x.round }) (range_with_len 0 (x.last + 1 - x.first))

abbrev pub all_from : ℕ → List (List Run) → List NodeFirst
all_from a [] = []
all_from a (row ∷ rows) = flat_map (run_firsts a) row ++ all_from (suc a) rows

abbrev pub all_in : List (List Run) → List NodeFirst
all_in rows = all_from 0 rows

abbrev pub IsRoundInRow : List Run → Spot → Option ℕ → Type 0
IsRoundInRow row spot None = Covers row spot → ⊥
IsRoundInRow row spot (Some r) = Tells row spot r

-- a run of children of the p-th node with the round k or one before
pub record IsBelowIn (p k : ℕ) (x : Run) : Type 0 where
  pub parent : x.parent ≡ p
  pub round : x.round ≤ k

abbrev pub IsChildInRow : List Run → ℕ → ℕ → Option ℕ → Type 0
IsChildInRow row p k None = (x : Run) → Contains row x → IsBelowIn p k x → ⊥
IsChildInRow row p k (Some s) = ((x : Run) × Contains row x × IsBelowIn p k x × (x.first ≡ s) × (x.first ≤ x.last)) × ((x : Run) → Contains row x → IsBelowIn p k x → s ≤ x.first)

-- A depth-first walk through numbers that name others. It puts each number once, behind those that it names, and these in their order.
--     Tour names ts w out      the walk through ts leads from the state w to the state out
--     Tours names roots order  the whole walk through the roots puts these numbers in this order
--     number_in order t        the number of t: its place in the order
--     IsTaken names task ..    the effect of one task on the waiting ones, of which the next is last, and on the state of the walk
--     Left names tasks w out   the waiting tasks, the next one first, lead from the state w to the state out
--     room lists k entered     the number of tasks still to come for the lists that aren't entered; the first list has the number k
use Rattle.std.specs.Prelude.{◌≡◌, ◌⊎◌, ℕ, suc, ◌+◌, ◌<◌, eqb, List, [], ◌∷◌, ◌++◌, if◌then◌else◌, length, map, reverse, All, Contains, position, option_map, unwrap_or, slice_get, Vec}
use Rattle.std.specs.List.{list_any}
use Rattle.std.specs.Global.{Global}
use Rattle.indexmap.specs.IndexSet.{insert_key}
use Rattle.proof_needs.specs.declared.numbers.Task.{Task}
use Rattle.proof_needs.specs.declared.numbers.Task.TheVariants.{Visit, Number}

-- those that were entered, and the order of those that are numbered
pub record Walk : Type 0 where
  pub entered : List ℕ
  pub order : List ℕ

abbrev pub entering : ℕ → Walk → Walk
entering t w = record { entered = w.entered ++ t ∷ []; order = w.order }

abbrev pub numbering : ℕ → Walk → Walk
numbering t w = record { entered = w.entered; order = insert_key eqb w.order t }

pub data Tour (names : ℕ → List ℕ) : List ℕ → Walk → Walk → Type 0 where
  done : (w : Walk) → Tour names [] w w
  known : (t : ℕ) (ts : List ℕ) (w out : Walk) → Contains w.entered t → Tour names ts w out → Tour names (t ∷ ts) w out
  new : (t : ℕ) (ts : List ℕ) (w mid out : Walk) → (¬ Contains w.entered t) → Tour names (names t) (entering t w) mid → Tour names ts (numbering t mid) out → Tour names (t ∷ ts) w out

abbrev pub nothing_entered : Walk
nothing_entered = record { entered = []; order = [] }

abbrev pub Tours : (ℕ → List ℕ) → List ℕ → List ℕ → Type 0
Tours names roots order = (entered : List ℕ) × Tour names roots nothing_entered (record { entered = entered; order = order })

abbrev pub number_in : List ℕ → ℕ → ℕ
number_in order t = unwrap_or (position (eqb t) order) 0

-- what each number names, from a list of lists
abbrev pub names_at : List (Vec ℕ Global) → ℕ → List ℕ
names_at lists t = unwrap_or (option_map (λ (v : Vec ℕ Global). v.items) (slice_get lists t)) []

-- all that is named is below n
abbrev pub AreBelow : ℕ → List ℕ → Type 0
AreBelow n ts = All (λ t. t < n) ts

abbrev pub IsTaskBelow : ℕ → Task → Type 0
IsTaskBelow n (Visit t) = t < n
IsTaskBelow n (Number t) = t < n

module _ (names : ℕ → List ℕ) where
  abbrev pub IsVisited : ℕ → (tasks tasks' : List Task) → (w w' : Walk) → Type 0
  IsVisited t tasks tasks' w w' = (Contains w.entered t × (tasks' ≡ tasks) × (w' ≡ w))
      ⊎ ((¬ Contains w.entered t) × (tasks' ≡ tasks ++ Number t ∷ [] ++ reverse (map Visit (names t))) × (w' ≡ entering t w))

  abbrev pub IsTaken : Task → (tasks tasks' : List Task) → (w w' : Walk) → Type 0
  IsTaken (Visit t) tasks tasks' w w' = IsVisited t tasks tasks' w w'
  IsTaken (Number t) tasks tasks' w w' = (tasks' ≡ tasks) × (w' ≡ numbering t w)

  abbrev pub Left : List Task → Walk → Walk → Type 0
  Left [] w out = w ≡ out
  Left (Visit t ∷ tasks) w out = (mid : Walk) × Tour names (t ∷ []) w mid × Left tasks mid out
  Left (Number t ∷ tasks) w out = Left tasks (numbering t w) out

abbrev pub room : List (Vec ℕ Global) → ℕ → List ℕ → ℕ
room [] k entered = 0
room (v ∷ lists) k entered = (if list_any (eqb k) entered then 0 else suc (length v.items)) + room lists (suc k) entered

-- Saturation: all cells, round by round, up to the fixpoint.
--     IsRound       the invariant after each round
--     AreChanges    the cells that change in one round
--     AreNotedUpTo  the histories after some of these changes are noted
--     IsBuilt       the result at the end
--     IsDone        the invariant of the code's state after k rounds
use Rattle.std.specs.Prelude.{◌≡◌, ◌≢◌, ℕ, suc, ◌<◌, List, [], ◌∷◌, ◌++◌, length, All, Contains, Result, Ok, Err, ◌⊎◌}
use Rattle.tp_base.specs.declared.atoms.TheConstants.{MOST_ATOMS}
use Rattle.class_diagrams.specs.References.{Reference}
use Rattle.class_diagrams.specs.Trees.{Tree}
use Rattle.class_diagrams.specs.Arena.{tree_at, IsIn, Arena}
use Rattle.class_diagrams.specs.declared.faults.DiagramFault.{DiagramFault}
use Rattle.class_diagrams.specs.declared.faults.DiagramFault.TheVariants.{Full, Memory}
use Rattle.diagram_ops.specs.Steps.{held_with_all, Brings}
use Rattle.simple_core.specs.declared.system.System.{System}
use Rattle.simple_core.specs.Systems.{IsSound}
use Rattle.pushdown_sym.specs.CellMap.{Entries}
use Rattle.pushdown_sym.specs.Laws.{Tells}
use Rattle.pushdown_sym.specs.Adding.{AreIn}
use Rattle.pushdown_sym.specs.Terms.{CellTrees, partial_results}
use Rattle.pushdown_sym.specs.Rounds.{cell, given_atoms, of_each_cell, work, IsAtRest}
use Rattle.saturation.specs.Held.{AreWork, HoldsCells}
use Rattle.saturation.specs.Histories.{Change, IsHistory}
use Rattle.saturation.specs.Waking.{CellName, Fits}

-- the history of each cell, by kind and atom
abbrev pub Histories : Type 0
Histories = ℕ → ℕ → List Change

-- an arena with no branches yet
abbrev pub empty : ℕ → Arena
empty nodes = record { branches = []; limit = nodes }

-- some cell changed in round m + 1: it got a diagram that differs from the one before
pub record IsChange (s : System) (branches : List Tree) (kinds atoms m : ℕ) : Type 0 where
  pub kind : ℕ
  pub atom : ℕ
  pub place : Reference
  pub kind_below : kind < kinds
  pub atom_below : atom < atoms
  pub inside : IsIn branches place
  pub tree : tree_at branches place ≡ cell s (suc m) kind atom
  pub differs : cell s (suc m) kind atom ≢ cell s m kind atom

-- After k rounds the histories have all changes so far. Cells outside the worklist `todo` do not change in the next round. Each round changed some
-- cell, and the arena holds only work of these rounds.
pub record IsRound (s : System) (nodes k : ℕ) (d : Arena) (histories : Histories) (todo : List CellName) : Type 0 where
  pub told : (j a : ℕ) → j < length s.kinds → IsHistory s d.branches k (histories j a) j a
  pub others : (j a : ℕ) → j < length s.kinds → Contains todo (j, a) ⊎ (cell s (suc k) j a ≡ cell s k j a)
  pub cells : All (Fits s) todo
  pub changed : (m : ℕ) → m < k → IsChange s d.branches (length s.kinds) MOST_ATOMS m
  pub work : Brings (empty nodes) d (work s k)

-- each of these cells changes to this diagram in round k + 1, and no other cell of `todo` changes
pub record AreChanges (s : System) (k : ℕ) (old new : Arena) (todo : List CellName) (changes : List (CellName × Reference)) : Type 0 where
  pub inside : All (λ c. IsIn new.branches c.1) changes
  pub trees : All (λ c. tree_at new.branches c.1 ≡ cell s (suc k) c.0.0 c.0.1) changes
  pub differ : All (λ c. cell s (suc k) c.0.0 c.0.1 ≢ cell s k c.0.0 c.0.1) changes
  pub listed : All (λ c. Contains todo c.0) changes
  pub others : (j a : ℕ) → Contains todo (j, a) → ((f : Reference) × Contains changes ((j, a), f)) ⊎ (cell s (suc k) j a ≡ cell s k j a)
  pub brings : Brings old new (of_each_cell s (partial_results s (cell s k)))

-- a cell is that of round k, and its history goes up to round k
abbrev pub IsTold : System → List Tree → ℕ → Histories → CellTrees → ℕ → ℕ → Type 0
IsTold s branches k histories now j a = IsHistory s branches k (histories j a) j a × (now j a ≡ cell s k j a)

-- each cell and its history go up to round k + 1, or up to round k if no noted change is of it
abbrev pub AreNotedUpTo : System → List Tree → ℕ → List (CellName × Reference) → Histories → CellTrees → Type 0
AreNotedUpTo s branches k done histories now = (j a : ℕ) → j < length s.kinds
    → IsTold s branches (suc k) histories now j a ⊎ (IsTold s branches k histories now j a × ((f : Reference) → ¬ Contains done ((j, a), f)))

-- the arena was full at some cell of the next round
pub record IsFullIn (s : System) (k : ℕ) (old : Arena) : Type 0 where
  pub kind : ℕ
  pub atom : ℕ
  pub at : Arena
  pub kind_below : kind < length s.kinds
  pub given : Contains (given_atoms s) atom
  pub brings : Brings old at (of_each_cell s (partial_results s (cell s k)))
  pub full : at.limit < length (held_with_all at.branches (partial_results s (cell s k) kind atom))

abbrev pub IsStep : System → ℕ → Arena → Arena → List CellName → List (CellName × Reference) → Result (Unit {0}) DiagramFault → Type 0
IsStep s k old new done changes (Ok u) = AreChanges s k old new done changes
IsStep s k old new done changes (Err Full) = IsFullIn s k old
IsStep s k old new done changes (Err Memory) = Unit {0}

-- one step of a round: the changes after the calculation of one more cell, whatever the round
abbrev pub Steps : System → Entries → Arena → Arena → CellName → List (CellName × Reference) → List (CellName × Reference) → Result (Unit {0}) DiagramFault → Type 0
Steps s cells old new name before after result = (k : ℕ) (first : Arena) (done : List CellName) → IsSound s → Contains (given_atoms s) name.1 → Tells s old.branches cells k
    → AreChanges s k first old done before → IsStep s k first new (done ++ name ∷ []) after result

-- A round is at rest. The histories and the cells are those up to this round. The branches are work of a reached round, and include the cells of each
-- round at rest.
pub record IsBuilt (s : System) (d : Arena) (histories : Histories) (cells : Entries) : Type 0 where
  pub round : ℕ
  pub few : round < 4611686018427387904
  pub rest : IsAtRest s round
  pub told : (j a : ℕ) → j < length s.kinds → IsHistory s d.branches round (histories j a) j a
  pub tells : Tells s d.branches cells round
  pub work : AreWork s d.branches
  pub whole : HoldsCells s d.branches

-- k rounds are done
pub record IsDone (s : System) (nodes k : ℕ) (d : Arena) (histories : Histories) (cells : Entries) (todo : List CellName) : Type 0 where
  pub inside : AreIn d.branches cells
  pub round : IsRound s nodes k d histories todo
  pub tells : Tells s d.branches cells k

abbrev pub HasSome : {X : Type 0} → List X → Type 0
HasSome {X} xs = (x : X) × Contains xs x

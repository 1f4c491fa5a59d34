-- The syntax of a script's statements.
use Rattle.std.specs.Prelude.{ℕ, zero, suc, List, [], ◌∷◌, reverse}
use Rattle.tp_base.specs.declared.places.Place.{Place}
use Rattle.tree_sem.specs.declared.actions.Action.{Action}
use Rattle.sel_text.specs.Selectors.{Selector}

-- the set that a chain begins with: the nodes that one of the selectors matches, or the node that `this` names
pub data Root : Type 0 where
  matched : List Selector → Root
  this : Root

-- a call that makes a new set; compounds, each as its atoms, filter it; without compounds, children, parent, parents and near keep every node
pub data Call : Type 0 where
  find : List (List ℕ) → Call
  children : List (List ℕ) → Call
  parent : List (List ℕ) → Call
  parents : List (List ℕ) → Call
  filter : List (List ℕ) → Call
  has : List (List ℕ) → Call
  around : List (List ℕ) → Call
  near : List (List ℕ) → Call
  add : List Selector → Call
  back : Call

pub record Chain : Type 0 where
  pub root : Root
  pub calls : List Call

-- The chains of the handlers, outermost first, the chain of the call that acts, its action, and the place of its name.
pub record Statement : Type 0 where
  pub handlers : List Chain
  pub chain : Chain
  pub action : Action
  pub place : Place

-- What makes the set n sets before that of the calls, which stand last first: a root, and calls that are no `back`. A `back` goes back
-- to the set before the calls that it follows, and where no set is before, nothing is in it.
abbrev pub set_before : ℕ → Root → List Call → Root × List Call
set_before n root (back ∷ earlier) = set_before (suc n) root earlier
set_before (suc n) root (c ∷ earlier) = set_before n root earlier
set_before (suc n) root [] = (matched [], [])
set_before zero root (c ∷ earlier) = let s = set_before zero root earlier in (s.0, c ∷ s.1)
set_before zero root [] = (root, [])

-- the root and the calls, in their order, that are left when each back has taken back the call before it
abbrev pub stands : Root → List Call → Root × List Call
stands root calls = set_before zero root (reverse calls)

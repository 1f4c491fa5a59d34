-- The budgets that a run can ask for.
--     standard           the budgets of a run that sets none of its own
--     IsInRange l        a run can ask for these budgets
use Rattle.std.specs.Prelude.{◌≤◌, false}
use Rattle.limits.specs.declared.budgets.Limits.{Limits}
use Rattle.limits.specs.declared.budgets.TheConstants.{MOST_PAIRS, MOST_BRANCHES, MOST_ENTRIES, MOST_LIST}

abbrev pub standard : Limits
standard = record { plain = false; pairs = 50000; nodes = 4194304; entries = 100000; list = 1000 }

-- each budget of the engine is at least 1, and none is above its largest value; a listed trace may have length 0
pub record IsInRange (l : Limits) : Type 0 where
  pub pairs_least : 1 ≤ l.pairs
  pub pairs : l.pairs ≤ MOST_PAIRS
  pub nodes_least : 1 ≤ l.nodes
  pub nodes : l.nodes ≤ MOST_BRANCHES
  pub entries_least : 1 ≤ l.entries
  pub entries : l.entries ≤ MOST_ENTRIES
  pub list : l.list ≤ MOST_LIST

-- When a budget runs out before the page is closed.
--     NeedsMore s page pairs           closing the page needs more than `pairs` pairs of a kind and a parent's label
--     MaySpend plain s page limits     a budget may run out
--     HasToSpend plain s page limits   a budget has to run out
use Rattle.std.specs.Prelude.{ℕ, Bool, true, false}
use Rattle.tree_sem.specs.Trees.{LabelTree}
use Rattle.simple_core.specs.declared.system.System.{System}
use Rattle.simple_core.specs.Pairs.{Asked, Needed, HasMore}
use Rattle.saturation.specs.Budgets.{MayBeSpent, HasToBeSpent}
use Rattle.limits.specs.declared.budgets.Limits.{Limits}

abbrev pub NeedsMore : System → LabelTree → ℕ → Type 0
NeedsMore s page pairs = HasMore (Needed s (Asked s page)) pairs

-- The budget of the table runs out exactly where more pairs are needed. That of diagrams may run out where the work up to some round
-- has more branches. It has to run out where the cells of the last round alone have more.
abbrev pub MaySpend : Bool → System → LabelTree → Limits → Type 0
MaySpend true s page limits = NeedsMore s page limits.pairs
MaySpend false s page limits = MayBeSpent s limits.nodes

abbrev pub HasToSpend : Bool → System → LabelTree → Limits → Type 0
HasToSpend true s page limits = NeedsMore s page limits.pairs
HasToSpend false s page limits = HasToBeSpent s limits.nodes

-- Which branches are stored at the end.
use Rattle.std.specs.Prelude.{ℕ, List}
use Rattle.class_diagrams.specs.Trees.{Tree, subs}
use Rattle.diagram_ops.specs.Steps.{AreAmong}
use Rattle.simple_core.specs.declared.system.System.{System}
use Rattle.pushdown_sym.specs.Rounds.{cells_of, work, IsAtRest, IsReached}

-- each branch is part of the work up to some reached round
abbrev pub AreWork : System → List Tree → Type 0
AreWork s branches = (k : ℕ) × IsReached s k × AreAmong branches (subs (work s k))

-- the branches include those of all cells of each round at rest
abbrev pub HoldsCells : System → List Tree → Type 0
HoldsCells s branches = (k : ℕ) → IsAtRest s k → AreAmong (subs (cells_of s k)) branches

-- The paths of nodes, by the nodes' numbers.
use Rattle.std.specs.Prelude.{ℕ, List, Vec}
use Rattle.std.specs.Global.{Global}

abbrev pub NodePaths : Type 0
NodePaths = List (Vec ℕ Global)

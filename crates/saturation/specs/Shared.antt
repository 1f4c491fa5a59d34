-- What a contract sees of summaries in diagrams: the system and the stored branches.
use Rattle.std.specs.Prelude.{List}
use Rattle.class_diagrams.specs.Trees.{Tree}
use Rattle.simple_core.specs.declared.system.System.{System}

pub record Shared : Type 0 where
  pub system : System
  pub branches : List Tree

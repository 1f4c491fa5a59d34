-- The files that the lines come from.
use Rattle.std.specs.Prelude.{ℕ, List}

-- a file by its word and its text
pub record File : Type 0 where
  pub word : List ℕ
  pub text : List ℕ

-- The steps of an unfolding, and the number of children that they have added.
use Rattle.std.specs.Prelude.{ℕ, ◌*◌, ◌≤◌, List, length, Vec, unwrap_or, bytes_eq}
use Rattle.std.specs.Global.{Global}
use Rattle.std.specs.Map.{lookup}
use Rattle.tree_sem.specs.declared.actions.Step.{Step}
use Rattle.simple_core.specs.declared.system.TheConstants.{MOST_KINDS}
use Rattle.proof_check.specs.Unfolding.{Progress}

-- the steps so far, with a count for each path at which children were added
abbrev pub progress_in : List Step → List (Vec ℕ Global × ℕ) → Progress
progress_in steps counts = record { steps = steps; added = λ q. unwrap_or (lookup (λ k. bytes_eq q k.items) counts) 0 }

-- each step has added no more children than a kind can have siblings
abbrev pub IsFew : Progress → Type 0
IsFew done = (v : List ℕ) → done.added v ≤ MOST_KINDS * length done.steps

use Rattle.std.proofs.Common.{◌≡◌, ℕ}
use Rattle.proof_check.specs.declared.firsts.Spot.{Spot}
use Rattle.proof_check.proofs.firsts.Firsts.add.Goals as goal

abbrev spot : ℕ → ℕ → Spot
spot n a = record { node = n; atom = a }

pub returns-in_ok-insert-clause-others : goal.returns-in_ok-insert-clause-others
returns-in_ok-insert-clause-others c n a other = c.in_ok-insert.ensures.updates.2 (spot n a) other

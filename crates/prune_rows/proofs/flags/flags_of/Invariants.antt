use Rattle.std.proofs.Common.{length}
use Rattle.prune_rows.proofs.FlagLemmas.{AreFlags}
use Rattle.prune_rows.proofs.flags.flags_of.Given as goal

abbrev pub invariant-items : goal.invariant-items
invariant-items l = AreFlags l.items l.rest l.flags.items

abbrev pub decreases-items : goal.decreases-items
decreases-items l = length l.rest

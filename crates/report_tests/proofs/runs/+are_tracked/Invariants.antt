use Rattle.std.proofs.Common.{length}
use Rattle.report_tests.proofs.runs.+are_tracked.Given as goal

abbrev pub decreases-are_tracked : goal.decreases-are_tracked
decreases-are_tracked l = length l.items.now

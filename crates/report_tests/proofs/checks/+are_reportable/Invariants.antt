use Rattle.std.proofs.Common.{length}
use Rattle.report_tests.proofs.checks.+are_reportable.Given as goal

abbrev pub decreases-are_reportable : goal.decreases-are_reportable
decreases-are_reportable l = length l.items.now

use Rattle.usage_report.specs.Reportable.{HavePlaces}
use Rattle.reader_tests.proofs.reports.unfolded_of.Given as goal

abbrev pub invariant-steps : goal.invariant-steps
invariant-steps l = HavePlaces l.places l.listed.items

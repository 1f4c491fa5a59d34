use Rattle.std.proofs.Common.{length, map}
use Rattle.css_read.specs.Places.{ArePlaced}
use Rattle.css_read.specs.Views.{item_of}
use Rattle.usage_report.specs.Reportable.{AreReportable}
use Rattle.usage_report.specs.Views.{answer_of}
use Rattle.reader_tests.proofs.reports.rows_of.Given as goal

abbrev pub invariant-cases : goal.invariant-cases
invariant-cases l = record {
  placed : ArePlaced (length l.text) l.items.items;
  reportable : AreReportable l.places (map item_of l.items.items) (map answer_of l.answers.items);
}

use Rattle.std.proofs.Common.{length}
use Rattle.std.proofs.lemmas.List.Elements.{All-push}
use Rattle.css_read.specs.declared.sheets.SheetItem.{SheetItem}
use Rattle.css_read.specs.Places.{IsPlaced}
use Rattle.css_read.specs.Views.{item_of}
use Rattle.reader_tests.proofs.ReportLemmas.{one_more}
use Rattle.reader_tests.proofs.reports.rows_of.Goals as goal

pub cases-preserved : goal.cases-preserved
cases-preserved c = record {
  placed = rw c.in_ok-push.ensures.items (All-push (λ (i : SheetItem). IsPlaced (length c.args.text.now) (item_of i)) c.cases.items.items c.in_ok-item.item c.cases.invariant.placed c.in_ok-item.ensures.placed);
  reportable = rw (c.in_ok-push.ensures.items, c.in_ok-push-2.ensures.items)
      (one_more c.args.places.now c.cases.items.items c.cases.answers.items c.in_ok-item.item c.in_ok-item.answer c.cases.invariant.reportable c.in_ok-item.ensures.reportable);
}

-- Answers that can be reported, one more at a time.
use Rattle.std.proofs.Common.{List, [], ◌∷◌, ◌++◌, map}
use Rattle.tp_base.specs.declared.places.Place.{Place}
use Rattle.css_read.specs.declared.sheets.SheetItem.{SheetItem}
use Rattle.css_read.specs.Views.{item_of}
use Rattle.usage_report.specs.declared.answers.Answer.{Answer}
use Rattle.usage_report.specs.Reportable.{IsReportable, AreReportable}
use Rattle.usage_report.specs.Views.{answer_of}

pub one_more : (places : List Place) (items : List SheetItem) (answers : List Answer) (i : SheetItem) (a : Answer) → AreReportable places (map item_of items) (map answer_of answers)
    → IsReportable places (item_of i).outcome (answer_of a) → AreReportable places (map item_of (items ++ i ∷ [])) (map answer_of (answers ++ a ∷ []))
one_more places [] [] i a all is = (is, tt)
one_more places [] (b ∷ answers) i a all is = absurd all
one_more places (j ∷ items) [] i a all is = absurd all
one_more places (j ∷ items) (b ∷ answers) i a all is = (all.0, one_more places items answers i a all.1 is)

-- A sheet of the code, as the definitions see it.
use Rattle.std.specs.Prelude.{map}
use Rattle.sel_text.specs.Views.{selector_of}
use Rattle.css_read.specs.declared.sheets.Outcome.{Outcome}
use Rattle.css_read.specs.declared.sheets.Outcome.TheVariants.{Judged, Skipped}
use Rattle.css_read.specs.declared.sheets.SheetItem.{SheetItem}
use Rattle.css_read.specs.declared.sheets.Sheet.{Sheet}
use Rattle.css_read.specs.Sheets as spec

abbrev pub outcome_of : Outcome → spec.Outcome
outcome_of (Judged s) = spec.judged (selector_of s)
outcome_of (Skipped why at) = spec.skipped why at

abbrev pub item_of : SheetItem → spec.Item
item_of i = record { from = i.from; to = i.to; rule = i.rule; outcome = outcome_of i.outcome }

abbrev pub sheet_of : Sheet → spec.Sheet
sheet_of s = record { items = map item_of s.items; rules = s.rules }

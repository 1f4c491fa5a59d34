-- The judged selectors of a sheet: their atoms are names of kinds that a selector can have.
use Rattle.std.specs.Prelude.{List, All}
use Rattle.tp_base.specs.Names.{Named}
use Rattle.sel_text.specs.Readable.{IsReadable}
use Rattle.css_read.specs.Sheets.{Outcome, judged, skipped, Item}

abbrev pub IsReadableOutcome : List Named → Outcome → Type 0
IsReadableOutcome names (judged s) = IsReadable names s
IsReadableOutcome names (skipped cause at) = Unit {0}

abbrev pub AllReadable : List Named → List Item → Type 0
AllReadable names items = All (λ i. IsReadableOutcome names i.outcome) items

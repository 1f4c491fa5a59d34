-- The invariant of a sheet in the course of reading.
--     IsDraft    what holds between two rules, and between two selectors of a rule
--     ReadsOn    what each further call preserves: the text, and the number of each name
use Rattle.std.specs.Prelude.{◌≡◌, ◌≤◌, map, length}
use Rattle.sel_text.specs.Results.{IsFront}
use Rattle.css_read.specs.declared.faults.TheConstants.{MOST_SELECTORS}
use Rattle.css_read.specs.declared.reading.Draft.{Draft}
use Rattle.css_read.specs.Places.{ArePlaced}
use Rattle.css_read.specs.Readable.{AllReadable}
use Rattle.css_read.specs.Sheets.{Sheet}
use Rattle.css_read.specs.Views.{item_of}

abbrev pub draft_of : Draft → Sheet
draft_of d = record { items = map item_of d.items.items; rules = d.rules.items }

pub record IsDraft (d : Draft) : Type 0 where
  pub numbered : length d.rules.items ≤ length d.items.items
  pub few : length d.items.items ≤ MOST_SELECTORS
  pub placed : ArePlaced (length d.text.now) d.items.items
  pub readable : AllReadable d.atoms (map item_of d.items.items)

pub record ReadsOn (old new : Draft) : Type 0 where
  pub text : new.text ≡ old.text
  pub front : IsFront old.atoms new.atoms

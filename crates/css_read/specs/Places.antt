-- Where selectors stand.
use Rattle.std.specs.Prelude.{ℕ, ◌≤◌, List, All}
use Rattle.css_read.specs.declared.sheets.SheetItem.{SheetItem}
use Rattle.css_read.specs.Sheets.{Outcome, judged, skipped, Item}
use Rattle.css_read.specs.Views.{item_of}

-- the offset of the byte for which a selector is skipped is at most the file's length
abbrev pub IsCauseIn : ℕ → Outcome → Type 0
IsCauseIn size (judged s) = Unit {0}
IsCauseIn size (skipped why at) = at ≤ size

-- the selector and its cause are inside a file of this length
pub record IsPlaced (size : ℕ) (i : Item) : Type 0 where
  pub order : i.from ≤ i.to
  pub within : i.to ≤ size
  pub cause : IsCauseIn size i.outcome

abbrev pub ArePlaced : ℕ → List SheetItem → Type 0
ArePlaced size items = All (λ i. IsPlaced size (item_of i)) items

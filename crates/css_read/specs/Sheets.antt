-- A sheet as it is read.
use Rattle.std.specs.Prelude.{ℕ, List}
use Rattle.sel_text.specs.declared.faults.Skip.{Skip}
use Rattle.sel_text.specs.Selectors.{Selector}
use Rattle.css_read.specs.declared.sheets.Range.{Range}

-- a judged selector, or the cause for which it is skipped and the offset of the byte that is the cause
pub data Outcome : Type 0 where
  judged : Selector → Outcome
  skipped : Skip → ℕ → Outcome

-- a selector: the offsets of its first byte and of the byte behind it, the number of its rule, and its outcome
pub record Item : Type 0 where
  pub from : ℕ
  pub to : ℕ
  pub rule : ℕ
  pub outcome : Outcome

-- the selectors in the file's order, and the ranges of their rules
pub record Sheet : Type 0 where
  pub items : List Item
  pub rules : List Range

-- The selectors of a sheet, one after the other.
use Rattle.std.proofs.Common.{◌≡◌, ℕ, List, ◌∷◌, ◌++◌, map, slice_range, sym, ap, ◌∙◌, append_assoc}
use Rattle.css_read.specs.declared.sheets.SheetItem.{SheetItem}
use Rattle.css_read.specs.Views.{item_of}
use Rattle.widen_sheet.specs.Wide.{widened_item, widened_from}

pub goes_on : (text out betw later all : List ℕ) (at : ℕ) (i : SheetItem) (items rest : List SheetItem) → rest ≡ i ∷ items → betw ≡ out ++ slice_range text at i.from → later ≡ betw ++ widened_item text (item_of i)
    → out ++ widened_from text at (map item_of rest) ≡ all → later ++ widened_from text i.to (map item_of items) ≡ all
goes_on text out betw later all at i items rest is put item invariant =
    let mine = widened_item text (item_of i) in
    let last = widened_from text i.to (map item_of items) in
    rw (item, put) (append_assoc (out ++ slice_range text at i.from) mine last ∙ append_assoc out (slice_range text at i.from) (mine ++ last))
    ∙ ap (λ (r : List SheetItem). out ++ widened_from text at (map item_of r)) (sym is) ∙ invariant

pub ends : ℕ → ℕ
ends n = n

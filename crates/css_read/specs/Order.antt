-- The order of a sheet's rules and selectors in its file.
--     AreApart from to ranges    the ranges stand in order between two offsets and do not overlap
--     IsInRule rules i           the selector stands inside the range of the rule with its number
use Rattle.std.specs.Prelude.{ℕ, ◌≤◌, ◌<◌, List, [], ◌∷◌, All, IsSomeAnd, slice_get}
use Rattle.css_read.specs.declared.sheets.Range.{Range}
use Rattle.css_read.specs.declared.sheets.SheetItem.{SheetItem}
use Rattle.css_read.specs.Sheets.{Item}
use Rattle.css_read.specs.Views.{item_of}

-- from ≤ the first range's from ≤ its to ≤ the second range's from ≤ .. ≤ to
abbrev pub AreApart : ℕ → ℕ → List Range → Type 0
AreApart from to [] = from ≤ to
AreApart from to (r ∷ rs) = (from ≤ r.from) × (r.from ≤ r.to) × AreApart r.to to rs

-- the range of a selector
abbrev pub range_of : Item → Range
range_of i = record { from = i.from; to = i.to }

-- the selector ends before the rule does, since the rule's block follows
abbrev pub IsInRule : List Range → Item → Type 0
IsInRule rules i = IsSomeAnd (slice_get rules i.rule) (λ r. (r.from ≤ i.from) × (i.to < r.to))

abbrev pub AreInRules : List Range → List SheetItem → Type 0
AreInRules rules items = All (λ i. IsInRule rules (item_of i)) items

-- The selectors of one rule after the other.
use Rattle.std.specs.Prelude.{ℕ, suc, ◌==◌, ◌≤◌, if◌then◌else◌, List, [], ◌∷◌}
use Rattle.css_read.specs.Sheets.{Item}

-- how many of the first are of a rule
abbrev pub leading : ℕ → List Item → ℕ
leading k [] = 0
leading k (i ∷ is) = if i.rule == k then suc (leading k is) else 0

-- from ≤ the number of the first one's rule ≤ that of the second's ≤ ..
abbrev pub AreInOrder : ℕ → List Item → Type 0
AreInOrder from [] = Unit {0}
AreInOrder from (i ∷ is) = (from ≤ i.rule) × AreInOrder i.rule is

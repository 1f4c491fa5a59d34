-- Ranges of a text, sorted by their first bytes.
use Rattle.std.specs.Prelude.{ℕ, ◌≤◌, List, [], ◌∷◌}
use Rattle.css_read.specs.declared.sheets.Range.{Range}

-- from ≤ from of the first ≤ from of the second ≤ ..
abbrev pub RiseFrom : ℕ → List Range → Type 0
RiseFrom from [] = Unit {0}
RiseFrom from (r ∷ rs) = (from ≤ r.from) × RiseFrom r.from rs

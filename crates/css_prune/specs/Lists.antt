-- The ranges that are deleted from a list, selector by selector.
use Rattle.std.specs.Prelude.{Bool, if◌then◌else◌, List, [], ◌∷◌}
use Rattle.css_read.specs.declared.sheets.Range.{Range}
use Rattle.css_read.specs.Sheets.{Item}
use Rattle.css_prune.specs.Flags.{end_of}

-- with a selector, if one behind it stays: up to the next one
abbrev pub item_cut : Item → Bool → Item → List Range
item_cut i goes next = if goes then (record { from = i.from; to = next.from }) ∷ [] else []

-- with those behind a selector, if none of them stays
abbrev pub end_cut : Item → Bool → List Item → List Range
end_cut i goes [] = []
end_cut i goes (j ∷ js) = if goes then [] else (record { from = i.to; to = end_of j.to js }) ∷ []

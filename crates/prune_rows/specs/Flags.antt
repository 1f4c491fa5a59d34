-- Which selectors may be flagged.
use Rattle.std.specs.Prelude.{Bool, [], ◌∷◌}
use Rattle.css_read.specs.Effects.{AreJudged}
use Rattle.css_read.specs.Sheets.{Item}

abbrev pub CanGo : Bool → Item → Type 0
CanGo g i = AreJudged ((i, g) ∷ [])

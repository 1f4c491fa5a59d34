-- What two readings of one text have in common, whatever names were in the table before.
--     AreAlike         the same number of selectors, at the same places and in the same rules; the same ones are skipped, for the same causes
--     HasOneShape      two readings that are both accepted are alike
use Rattle.std.specs.Prelude.{◌≡◌, ℕ, List, [], ◌∷◌, Ok}
use Rattle.tp_base.specs.Names.{Named}
use Rattle.css_read.specs.Reading.{read_sheet}
use Rattle.css_read.specs.Sheets.{Outcome, judged, skipped, Item, Sheet}

abbrev pub IsAlikeOutcome : Outcome → Outcome → Type 0
IsAlikeOutcome (judged s) (judged u) = Unit {0}
IsAlikeOutcome (skipped why at) (skipped other other_at) = (why ≡ other) × (at ≡ other_at)
IsAlikeOutcome o p = ⊥

-- the names in the selectors may differ
pub record IsAlike (i j : Item) : Type 0 where
  pub from : i.from ≡ j.from
  pub to : i.to ≡ j.to
  pub rule : i.rule ≡ j.rule
  pub outcome : IsAlikeOutcome i.outcome j.outcome

abbrev pub AreAlike : List Item → List Item → Type 0
AreAlike [] [] = Unit {0}
AreAlike (i ∷ items) (j ∷ others) = IsAlike i j × AreAlike items others
AreAlike items others = ⊥

pub record AreAlikeSheets (s u : Sheet) : Type 0 where
  pub items : AreAlike s.items u.items
  pub rules : s.rules ≡ u.rules

abbrev pub HasOneShape : List ℕ → Type 0
HasOneShape text = (names others later last : List Named) (s u : Sheet) → read_sheet text names ≡ (later, Ok s) → read_sheet text others ≡ (last, Ok u) → AreAlikeSheets s u

-- What a report says of a sheet that several pages use: a line for each item, and the page that it is of.
--     site_report     the text of such a report
use Rattle.std.specs.Prelude.{ℕ, ◌-◌, List, [], ◌∷◌, ◌++◌, codes, get_or, None}
use Rattle.std.specs.Fmt.{decimal}
use Rattle.tp_base.specs.Names.{Named}
use Rattle.tp_base.specs.Places.{place_at}
use Rattle.tp_base.specs.declared.places.Place.{Place}
use Rattle.css_read.specs.Sheets as sheets
use Rattle.usage_report.specs.Lines.{Line, used, maybe, used_unshown, spent, version, place_text, head_text, with_trace, outcome_text}

-- what is said of an item, and the page of which it is so, counted from 1
pub record Best : Type 0 where
  pub page : ℕ
  pub line : Line

-- the line of a page, behind a text
unfoldable pub page_line : List ℕ → ℕ → List ℕ
page_line front k = front ++ codes "  page " ++ decimal k ++ codes "\n"

-- a text, and behind it the page of what a page gave rise to
abbrev pub with_page_line : List ℕ → ℕ → Line → List ℕ
with_page_line front k (used count shown) = page_line front k
with_page_line front k (maybe count shown broken) = page_line front k
with_page_line front k used_unshown = page_line front k
with_page_line front k spent = page_line front k
with_page_line front k _ = front

-- the places of the statements of a page's script
abbrev pub places_on : List (List Place) → ℕ → List Place
places_on places k = get_or places (k - 1) []

abbrev pub best_text : List ℕ → List (List Place) → List ℕ → List ℕ → Best → List ℕ
best_text text places place selector b = with_trace (places_on places b.page) (with_page_line (head_text text place selector b.line) b.page b.line) b.line None

abbrev pub item_text : List ℕ → List Named → List (List Place) → sheets.Item → Best → List ℕ
item_text text names places i b = best_text text places (place_text (place_at text i.from)) (outcome_text names i.outcome) b

abbrev pub lines : List ℕ → List Named → List (List Place) → List sheets.Item → List Best → List ℕ
lines text names places (i ∷ items) (b ∷ bests) = item_text text names places i b ++ lines text names places items bests
lines text names places _ _ = []

unfoldable pub first_line : ℕ → List ℕ
first_line pages = version ++ codes " site " ++ decimal pages ++ codes "\n"

-- the report on a sheet of this text, of so many pages
abbrev pub site_report : List ℕ → List Named → List (List Place) → sheets.Sheet → ℕ → List Best → List ℕ
site_report text names places sheet pages bests = first_line pages ++ lines text names places sheet.items bests

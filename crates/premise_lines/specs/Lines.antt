-- What is written: a first line, and one for each finding.
--     AreFound       the findings of a file's text, without those of some names
--     line_of        the line of a finding
--     report_of      all lines
use Rattle.std.specs.Prelude.{◌≡◌, ℕ, ◌==◌, Bool, not, if◌then◌else◌, List, [], ◌++◌, length, filter, flat_map, codes}
use Rattle.std.specs.Fmt.{decimal}
use Rattle.std.specs.List.{list_any}
use denote.Enum.Bare.{sameb}
use Rattle.tp_base.specs.Places.{place_at}
use Rattle.tp_base.specs.declared.places.Place.{Place}
use Rattle.premise_finds.specs.contracts.names.Name.{the_type}
use Rattle.premise_finds.specs.declared.names.Name.{Name}
use Rattle.premise_finds.specs.declared.findings.Finding.{Finding}
use Rattle.premise_finds.specs.Details.{shown_of, found_text}
use Rattle.premise_finds.specs.NameTexts.{text_of}
use Rattle.premise_finds.specs.Orders.{AreInOrder}
use Rattle.premise_finds.specs.Sheets.{sheet_findings}
use Rattle.page_finds.specs.Pages.{page_findings}
use Rattle.premise_lines.specs.declared.report.Report.{Report}
use Rattle.premise_lines.specs.declared.stops.Part.{Part}
use Rattle.premise_lines.specs.declared.stops.Part.TheVariants.{Page, Sheet}

-- ---- what is found

abbrev pub findings_in : Part → List ℕ → List Finding
findings_in Page text = page_findings text
findings_in Sheet text = sheet_findings text

abbrev pub is_same : Name → Name → Bool
is_same = sameb the_type

abbrev pub has_name : List Name → Name → Bool
has_name names n = list_any (is_same n) names

-- those of other names
abbrev pub others : List Name → List Finding → List Finding
others names found = filter (λ f. not (has_name names f.name)) found

-- what a file's text has besides these names, in order
pub record AreFound (names : List Name) (part : Part) (text : List ℕ) (found : List Finding) : Type 0 where
  pub all : List Finding
  pub order : AreInOrder (findings_in part text) all
  pub others : found ≡ others names all

-- ---- lines

abbrev pub header : List ℕ
header = codes "premises 1\n"

abbrev pub part_text : Part → List ℕ
part_text Page = codes "page"
part_text Sheet = codes "sheet"

-- `..` stands where more was found than is shown
abbrev pub dots : ℕ → ℕ → List ℕ
dots shown found = if shown == found then [] else codes ".."

unfoldable pub detail : List ℕ → List ℕ
detail found = shown_of found ++ dots (length (shown_of found)) (length found)

abbrev pub place_text : Place → List ℕ
place_text p = decimal p.line ++ codes ":" ++ decimal p.column

-- `FILE L:C NAME: DETAIL`
unfoldable pub line_of : Part → List ℕ → Finding → List ℕ
line_of part text f = part_text part ++ codes " " ++ place_text (place_at text f.from) ++ codes " " ++ text_of f.name ++ codes ": " ++ detail (found_text text f) ++ codes "\n"

abbrev pub lines_of : Part → List ℕ → List Finding → List ℕ
lines_of part text found = flat_map (line_of part text) found

-- the page's lines, and then the sheet's
abbrev pub report_of : Report → List ℕ
report_of f = header ++ lines_of Page f.page f.in_page ++ lines_of Sheet f.sheet f.in_sheet

-- Texts that every reader accepts.
--     IsRead n e           something is read, and the table then has at most n names
--     ReadsShortSheets     a short sheet, whatever stands in it
--     ReadsRingPages       the page of a ring
--     ReadsRingSheets      the sheet of a ring
use Rattle.std.specs.Prelude.{ℕ, ◌+◌, ◌*◌, ◌≤◌, List, [], length, IsUtf8, Result, Ok, Err}
use Rattle.tp_base.specs.Names.{Named}
use Rattle.tp_base.specs.declared.atoms.TheConstants.{MOST_ATOMS}
use Rattle.css_read.specs.declared.faults.TheConstants.{MOST_SELECTORS}
use Rattle.css_read.specs.Reading.{read_sheet}
use Rattle.html_subset.specs.Reading.{read_page}
use Rattle.triple_gen.specs.declared.triple.TheConstants.{MOST_BOXES}
use Rattle.triple_gen.specs.Ring.{page, sheet}

abbrev pub IsRead : {A E : Type 0} → ℕ → List Named × Result A E → Type 0
IsRead n (names, Ok x) = length names ≤ n
IsRead n (names, Err e) = ⊥

-- no selector has more names than bytes
abbrev pub ReadsShortSheets : Type 0
ReadsShortSheets = (text : List ℕ) (names : List Named) → IsUtf8 text → length text ≤ MOST_SELECTORS → length names + length text ≤ MOST_ATOMS → IsRead (length names + length text) (read_sheet text names)

-- html, head and body, and eight names for each box
abbrev pub ReadsRingPages : Type 0
ReadsRingPages = (n : ℕ) → n ≤ MOST_BOXES → IsRead (3 + n * 8) (read_page (page n) [])

-- a box has at most a hundred bytes
abbrev pub ReadsRingSheets : Type 0
ReadsRingSheets = (n : ℕ) (names : List Named) → n ≤ MOST_BOXES → length names + n * 100 ≤ MOST_ATOMS → IsRead (length names + n * 100) (read_sheet (sheet n) names)

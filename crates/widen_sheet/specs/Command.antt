-- The command: what it writes, and how it ends.
--     answer_of      what is written of a text, or why nothing is
--     line_of        what is said on standard error where nothing is written, or not the whole
use Rattle.std.specs.Prelude.{ℕ, if◌then◌else◌, List, ◌++◌, codes, Result, Ok, Err}
use Rattle.std.specs.Fmt.{decimal}
use Rattle.std.specs.Str.{bytes_eq}
use Rattle.tp_base.specs.Places.{place_at}
use Rattle.tp_base.specs.declared.places.Place.{Place}
use Rattle.css_read.specs.declared.faults.SheetFault.{SheetFault}
use Rattle.css_read.specs.declared.faults.SheetFault.TheVariants as sheet
use Rattle.widen_sheet.specs.declared.faults.WidenFault.{WidenFault}
use Rattle.widen_sheet.specs.declared.faults.WidenFault.TheVariants as wide
use Rattle.widen_sheet.specs.declared.faults.BackFault.{BackFault}
use Rattle.widen_sheet.specs.declared.faults.BackFault.TheVariants as put
use Rattle.widen_sheet.specs.declared.words.Way.{Way}
use Rattle.widen_sheet.specs.declared.words.Way.TheVariants as way
use Rattle.widen_sheet.specs.declared.words.WordsFault.{WordsFault}
use Rattle.widen_sheet.specs.declared.words.WordsFault.TheVariants as words
use Rattle.widen_sheet.specs.declared.stops.Status.{Status}
use Rattle.widen_sheet.specs.declared.stops.Status.TheVariants as status
use Rattle.widen_sheet.specs.declared.stops.Wrong.{Wrong}
use Rattle.widen_sheet.specs.declared.stops.Wrong.TheVariants as wrong
use Rattle.widen_sheet.specs.declared.stops.Stop.{Stop}
use Rattle.widen_sheet.specs.declared.stops.Stop.TheVariants.{Words, TooLarge, ReadFault, Unread, WriteFault, NoMemory}
use Rattle.widen_sheet.specs.Wide.{widen, back}

-- ---- what is written

abbrev pub stop_at : Wrong → List ℕ → ℕ → Stop
stop_at w text at = Unread w (place_at text at)

abbrev pub sheet_stop : List ℕ → SheetFault → Stop
sheet_stop text (sheet.NotUtf8 at) = stop_at wrong.NotUtf8 text at
sheet_stop text (sheet.TooManySelectors at) = stop_at wrong.TooManySelectors text at
sheet_stop text (sheet.TooManyAtoms at) = stop_at wrong.TooManyAtoms text at
sheet_stop text sheet.Memory = NoMemory

abbrev pub widen_stop : List ℕ → WidenFault → Stop
widen_stop text (wide.OfSheet e) = sheet_stop text e
widen_stop text (wide.HasMark at) = stop_at wrong.Mark text at
widen_stop text wide.TooLarge = TooLarge
widen_stop text wide.Memory = NoMemory

abbrev pub back_stop : List ℕ → BackFault → Stop
back_stop text (put.NoMark at) = stop_at wrong.Mark text at
back_stop text put.Memory = NoMemory

abbrev pub or_stop : {E : Type 0} → (E → Stop) → Result (List ℕ) E → Result (List ℕ) Stop
or_stop stop (Ok text) = Ok text
or_stop stop (Err e) = Err (stop e)

abbrev pub answer_of : Way → List ℕ → Result (List ℕ) Stop
answer_of way.Widen text = or_stop (widen_stop text) (widen text)
answer_of way.Back text = or_stop (back_stop text) (back text)

-- whether the text is another one
abbrev pub status_by : List ℕ → List ℕ → Status
status_by text out = if bytes_eq out text then status.Same else status.Changed

-- ---- how it ends

abbrev pub code_of : Status → ℕ
code_of status.Same = 0
code_of status.Changed = 1
code_of status.Words = 2
code_of status.Refused = 3
code_of status.ReadFault = 4
code_of status.WriteFault = 5
code_of status.NoMemory = 6

abbrev pub status_of_stop : Stop → Status
status_of_stop Words = status.Words
status_of_stop TooLarge = status.Refused
status_of_stop ReadFault = status.ReadFault
status_of_stop (Unread w place) = status.Refused
status_of_stop WriteFault = status.WriteFault
status_of_stop NoMemory = status.NoMemory

abbrev pub words_stop : WordsFault → Stop
words_stop words.Words = Words
words_stop words.Memory = NoMemory

abbrev pub wrong_text : Wrong → List ℕ
wrong_text wrong.NotUtf8 = codes "not utf-8"
wrong_text wrong.TooManySelectors = codes "too many selectors"
wrong_text wrong.TooManyAtoms = codes "too many atoms"
wrong_text wrong.Mark = codes "mark"

abbrev pub unread_line : Wrong → Place → List ℕ
unread_line w place = codes "widen: sheet: " ++ wrong_text w ++ codes " at " ++ decimal place.line ++ codes ":" ++ decimal place.column ++ codes "\n"

-- each line ends with LF
abbrev pub line_of : Stop → List ℕ
line_of Words = codes "usage: widen [--back] SHEET\n"
line_of TooLarge = codes "widen: sheet: too large\n"
line_of ReadFault = codes "widen: sheet: read fault\n"
line_of (Unread w place) = unread_line w place
line_of WriteFault = codes "widen: write fault\n"
line_of NoMemory = codes "widen: no memory\n"

-- a stop whose line has no place
abbrev pub IsFixed : Stop → Type 0
IsFixed (Unread w place) = ⊥
IsFixed _ = Unit {0}

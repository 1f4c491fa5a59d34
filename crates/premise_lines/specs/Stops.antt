-- How a run ends without its lines, and what it says then on standard error.
use Rattle.std.specs.Prelude.{ℕ, List, ◌++◌, codes}
use Rattle.premise_lines.specs.declared.words.WordsFault.{WordsFault}
use Rattle.premise_lines.specs.declared.words.WordsFault.TheVariants as words
use Rattle.premise_lines.specs.declared.stops.Status.{Status}
use Rattle.premise_lines.specs.declared.stops.Status.TheVariants as status
use Rattle.premise_lines.specs.declared.stops.Stop.{Stop}
use Rattle.premise_lines.specs.declared.stops.Stop.TheVariants.{Words, TooLarge, ReadFault, NotUtf8, WriteFault, NoMemory}
use Rattle.premise_lines.specs.Lines.{part_text, place_text}

abbrev pub code_of : Status → ℕ
code_of status.Clear = 0
code_of status.Found = 1
code_of status.Words = 2
code_of status.Refused = 3
code_of status.ReadFault = 4
code_of status.WriteFault = 5
code_of status.NoMemory = 6

abbrev pub status_of_stop : Stop → Status
status_of_stop Words = status.Words
status_of_stop (TooLarge part) = status.Refused
status_of_stop (ReadFault part) = status.ReadFault
status_of_stop (NotUtf8 part place) = status.Refused
status_of_stop WriteFault = status.WriteFault
status_of_stop NoMemory = status.NoMemory

abbrev pub words_stop : WordsFault → Stop
words_stop words.Words = Words
words_stop words.Memory = NoMemory

-- each line ends with LF
abbrev pub stop_line : Stop → List ℕ
stop_line Words = codes "usage: premises { --except NAME } PAGE SHEET\n"
stop_line (TooLarge part) = codes "premises: " ++ part_text part ++ codes ": too large\n"
stop_line (ReadFault part) = codes "premises: " ++ part_text part ++ codes ": read fault\n"
stop_line (NotUtf8 part place) = codes "premises: " ++ part_text part ++ codes ": not utf-8 at " ++ place_text place ++ codes "\n"
stop_line WriteFault = codes "premises: write fault\n"
stop_line NoMemory = codes "premises: no memory\n"

-- a stop whose line has no place
abbrev pub IsFixed : Stop → Type 0
IsFixed (NotUtf8 part place) = ⊥
IsFixed _ = Unit {0}

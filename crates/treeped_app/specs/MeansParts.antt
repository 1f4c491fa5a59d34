-- The promise of `Meaning`, function by function. No public contract cites this file: each definition is what an inner function has to
-- say for it, and the clause `means` of `treeped` is put together from these.
--     MeansSaid m s            the results of a page mean what they say
--     Writes ..                a text of this meaning, and nothing else, was appended
--     WritesOf ..              the same, by the inputs that are read from a page's texts
--     WritesFor ..             the same, by what the words order
use Rattle.std.specs.Prelude.{◌≡◌, ℕ, Bool, List, map, Option, Some, None, Ok}
use Rattle.tp_io.specs.Sinks.{Adds}
use Rattle.css_read.specs.Pruned.{pruned}
use Rattle.css_read.specs.Sheets.{Sheet}
use Rattle.usage_report.specs.Answers.{line_of}
use Rattle.command_words.specs.declared.words.Mode.{Mode}
use Rattle.treeped_app.specs.Meaning.{Each, MeansLine, MeansPage, MeansFrom}
use Rattle.treeped_app.specs.Modes.{Texts, Inputs, Said, text_on}
use Rattle.treeped_app.specs.Readings.{Told, read_inputs}
use Rattle.treeped_app.specs.Tasks.{Task, command}

-- The line of each item means what it says, and so does the text that the mode writes of the results.
pub record MeansSaid (m : Mode) (s : Said) : Type 0 where
  pub lines : Each (MeansLine s.inputs) s.inputs.sheet.items (map line_of s.items)
  pub text : MeansPage m s.texts s.inputs (text_on m s)

-- the text is the sheet without the selectors that are flagged
abbrev pub IsLeft : (text : List ℕ) → Sheet → List Bool → List ℕ → Type 0
IsLeft text sheet flags left = left ≡ pruned text sheet flags

abbrev pub Writes : (held held' : Option (List ℕ)) → (List ℕ → Type 0) → Type 0
Writes held held' IsMeant = (text : List ℕ) × Adds held held' text × IsMeant text

abbrev pub WritesOf : Mode → Texts → (held held' : Option (List ℕ)) → (Inputs → List ℕ → Type 0) → Type 0
WritesOf m x held held' IsMeant = (i : Inputs) × (read_inputs m None x ≡ Ok i) × Writes held held' (IsMeant i)

abbrev pub WritesFor : Told → (words : List (List ℕ)) → (held held' : Option (List ℕ)) → Type 0
WritesFor told words held held' = (t : Task) × (command words ≡ Some t) × Writes held held' (MeansFrom told t.source t.mode)

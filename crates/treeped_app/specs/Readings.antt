-- The texts that a run reads, and the inputs that it makes of a page's three texts.
--     Told                       the bytes that each name holds, where they are told
--     AreFrom told origin x      the texts are those of the three names, or of a ring
--     reads_exactly m            whether the mode allows sharp calls in a script
--     statements_in m text       the statements of a script, or the reason to stop
--     read_inputs m k x          the inputs of a page's three texts, or the reason to stop
use Rattle.std.specs.Prelude.{◌≡◌, ℕ, ◌≤◌, Bool, true, false, if◌then◌else◌, List, [], length, map, Option, IfSome, Result, Ok, Err}
use Rattle.tp_base.specs.Names.{Named}
pub use Rattle.tp_base.specs.Outcomes.{◌>>=◌}
use Rattle.tp_base.specs.declared.places.Place.{Place}
use Rattle.tp_base.specs.declared.places.TheConstants.{MOST_BYTES}
use Rattle.tree_sem.specs.Trees.{LabelTree}
use Rattle.html_subset.specs.Reading.{read_page}
use Rattle.css_read.specs.Reading.{read_sheet}
use Rattle.css_read.specs.Sheets.{Sheet}
use Rattle.jq_stmts.specs.Sharp.{ExactStatement, exact_statement, wides}
use Rattle.jq_stmts.specs.Statements.{Statement}
use Rattle.jq_words.specs.Words.{Outcome}
use Rattle.jq_read.specs.Script.{exact_script, script}
use Rattle.command_words.specs.declared.words.Mode.{Mode}
use Rattle.command_words.specs.declared.words.Mode.TheVariants.{Dead, Runs}
use Rattle.triple_gen.specs.Ring as rings
use Rattle.run_ends.specs.declared.refusals.Part.{Part}
use Rattle.run_ends.specs.declared.refusals.Part.TheVariants.{Page, Script}
use Rattle.run_ends.specs.declared.stops.Stop.{Stop}
use Rattle.run_ends.specs.Refusals.{page_stop, sheet_stop, script_stop}
use Rattle.treeped_app.specs.Tasks.{Names, Origin, named, generated}

-- the texts of a page's three files
pub record Texts : Type 0 where
  pub page : List ℕ
  pub sheet : List ℕ
  pub script : List ℕ

-- the inputs of a page: its tree, the sheet, the script's statements as they are judged and as they stand in it, and all names
pub record Inputs : Type 0 where
  pub tree : LabelTree
  pub sheet : Sheet
  pub stmts : List Statement
  pub exact : List ExactStatement
  pub names : List Named

abbrev pub places_of : Inputs → List Place
places_of i = map (λ (s : Statement). s.place) i.stmts

-- ---- reading

-- `--dead` and `--runs` allow no sharp calls: they speak of the statements that are judged
abbrev pub reads_exactly : Mode → Bool
reads_exactly Dead = false
reads_exactly Runs = false
reads_exactly _ = true

-- the value that was read from a text, with the names after it, or the reason to stop
abbrev pub read_as : {A E : Type 0} → (E → Stop) → List Named × Result A E → Result (A × List Named) Stop
read_as stop (names, Ok x) = Ok (x, names)
read_as stop (names, Err e) = Err (stop e)

-- statements that stand in the script as they are judged
abbrev pub plainly : Outcome (List Statement × List Named) → Outcome (List ExactStatement × List Named)
plainly (Ok (stmts, names)) = Ok (map exact_statement stmts, names)
plainly (Err e) = Err e

-- the statements of a script, with sharp calls or without
abbrev pub statements_in : Mode → List ℕ → List Named → Outcome (List ExactStatement × List Named)
statements_in m text names = if reads_exactly m then exact_script text names else plainly (script text names)

abbrev pub read_script_as : Part → List ℕ → Outcome (List ExactStatement × List Named) → Result (List ExactStatement × List Named) Stop
read_script_as part text (Ok r) = Ok r
read_script_as part text (Err e) = Err (script_stop part text e)

-- the page, the sheet and the script are read in this order, with one list of names that is new for each page
unfoldable pub read_inputs : Mode → Option ℕ → Texts → Result Inputs Stop
read_inputs m page x = do
  p ← read_as (page_stop (Page page) x.page) (read_page x.page [])
  s ← read_as (sheet_stop x.sheet) (read_sheet x.sheet p.1)
  j ← read_script_as (Script page) x.script (statements_in m x.script s.1)
  Ok (record { tree = p.0; sheet = s.0; stmts = wides j.0; exact = j.0; names = j.1 })

-- ---- where texts come from

-- The bytes that each name holds, where they are told.
abbrev pub Told : Type 0
Told = List ℕ → Option (List ℕ)

-- a name holds this text, where its bytes are told
abbrev pub Holds : Told → List ℕ → List ℕ → Type 0
Holds told name text = IfSome (told name) (λ bytes. text ≡ bytes)

-- no text is past the limit on bytes
pub record Fit (x : Texts) : Type 0 where
  pub page : length x.page ≤ MOST_BYTES
  pub sheet : length x.sheet ≤ MOST_BYTES
  pub script : length x.script ≤ MOST_BYTES

-- the three names hold these texts
pub record AreHeld (told : Told) (n : Names) (x : Texts) : Type 0 where
  pub page : Holds told n.page x.page
  pub sheet : Holds told n.sheet x.sheet
  pub script : Holds told n.script x.script

abbrev pub ring_texts : ℕ → Texts
ring_texts k = record { page = rings.page k; sheet = rings.sheet k; script = rings.script k }

-- the texts come from this origin
abbrev pub AreFrom : Told → Origin → Texts → Type 0
AreFrom told (named n) x = AreHeld told n x
AreFrom told (generated k) x = x ≡ ring_texts k

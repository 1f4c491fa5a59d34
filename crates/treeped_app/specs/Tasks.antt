-- The tasks that the words of the command line order.
--     Source            the source of the texts: three files; a sheet and several pages, each with its script; or a ring of boxes
--     Visit             a page with its script and the sheet, and the files that are loaded before it is read
--     visits source     the visits, one after another
--     command words     the source, the mode and the limits, where the words have the command's form
use Rattle.std.specs.Prelude.{◌≡◌, ℕ, ◌+◌, ◌≤◌, true, false, if◌then◌else◌, List, [], ◌∷◌, length, map, Option, Some, None, option_map, option_and_then}
use Rattle.std.specs.List.{flat_map}
use Rattle.tp_io.specs.Files.{Load}
use Rattle.limits.specs.declared.budgets.Limits.{Limits}
use Rattle.triple_gen.specs.declared.triple.TheConstants.{MOST_BOXES}
use Rattle.command_words.specs.declared.words.Mode.{Mode}
use Rattle.limits.specs.declared.pages.TheConstants.{MOST_PAGES}
use Rattle.command_words.specs.declared.words.Order.{Order}
use Rattle.command_words.specs.Orders.{is_report, takes_pages, order_of}
use Rattle.run_ends.specs.declared.refusals.Part.{Part}
use Rattle.run_ends.specs.declared.refusals.Part.TheVariants.{Page, Sheet, Script}

-- ---- where texts come from

-- the names of the files of one page
pub record Names : Type 0 where
  pub page : List ℕ
  pub sheet : List ℕ
  pub script : List ℕ

pub data Source : Type 0 where
  one : Names → Source
  several : (sheet : List ℕ) → List (List ℕ × List ℕ) → Source
  ring : ℕ → Source

-- ---- the files that are loaded, in their order

-- a file to load: its part in the run, and its name
pub record Wanted : Type 0 where
  pub part : Part
  pub name : List ℕ

pub data Origin : Type 0 where
  named : Names → Origin
  generated : ℕ → Origin

-- The page's number, from 1, where there are several pages; the origin of its texts; and the files that are loaded for it.
pub record Visit : Type 0 where
  pub number : Option ℕ
  pub origin : Origin
  pub wanted : List Wanted

abbrev pub wanted_as : Part → List ℕ → Wanted
wanted_as part name = record { part = part; name = name }

-- the page, the sheet and the script of a run on one page
abbrev pub only_visit : Names → Visit
only_visit n = record { number = None; origin = named n; wanted = wanted_as (Page None) n.page ∷ wanted_as Sheet n.sheet ∷ wanted_as (Script None) n.script ∷ [] }

-- the pages of a site from the k-th on, whose sheet was loaded before
abbrev pub visits_from : ℕ → List ℕ → List (List ℕ × List ℕ) → List Visit
visits_from k sheet [] = []
visits_from k sheet ((page, script) ∷ pairs) =
    record { number = Some k; origin = named (record { page = page; sheet = sheet; script = script }); wanted = wanted_as (Page (Some k)) page ∷ wanted_as (Script (Some k)) script ∷ [] }
    ∷ visits_from (k + 1) sheet pairs

-- the first of them loads the sheet before all else
abbrev pub with_sheet : List ℕ → List Visit → List Visit
with_sheet sheet [] = []
with_sheet sheet (v ∷ later) = record v { wanted = wanted_as Sheet sheet ∷ v.wanted } ∷ later

-- a ring is not loaded
abbrev pub visits : Source → List Visit
visits (one n) = only_visit n ∷ []
visits (several sheet pairs) = with_sheet sheet (visits_from 1 sheet pairs)
visits (ring k) = record { number = None; origin = generated k; wanted = [] } ∷ []

abbrev pub succeeded : List ℕ → Load
succeeded name = record { name = name; failed = false }

abbrev pub failed : List ℕ → Load
failed name = record { name = name; failed = true }

-- the loads of all wanted files, none of which failed
abbrev pub loads_of : List Wanted → List Load
loads_of wanted = map (λ w. succeeded w.name) wanted

abbrev pub all_loads : List Visit → List Load
all_loads vs = flat_map (λ v. loads_of v.wanted) vs

-- ---- the command

pub record Task : Type 0 where
  pub source : Source
  pub mode : Mode
  pub limits : Limits

abbrev pub paired : List (List ℕ) → List (List ℕ × List ℕ)
paired (page ∷ script ∷ names) = (page, script) ∷ paired names
paired _ = []

abbrev pub site_of : List (List ℕ) → Option Source
site_of (sheet ∷ page ∷ script ∷ names) = Some (several sheet ((page, script) ∷ paired names))
site_of _ = None

abbrev pub page_of : List (List ℕ) → Option Source
page_of (page ∷ sheet ∷ script ∷ []) = Some (one (record { page = page; sheet = sheet; script = script }))
page_of _ = None

-- the source that a mode makes of the names
abbrev pub files_of : Mode → List (List ℕ) → Option Source
files_of m names = if takes_pages m then site_of names else page_of names

-- an order has either names or a size; only the report takes a size
abbrev pub source_by : Mode → List (List ℕ) → Option ℕ → Option Source
source_by m names (Some k) = if is_report m then Some (ring k) else None
source_by m names None = files_of m names

abbrev pub task_by : Source → Mode → Limits → Task
task_by s m limits = record { source = s; mode = m; limits = limits }

abbrev pub task_of : Order → Option Task
task_of o = option_map (λ s. task_by s o.mode o.limits) (source_by o.mode o.names o.size)

abbrev pub command : List (List ℕ) → Option Task
command words = option_and_then task_of (order_of words)

-- a ring is small enough to be generated, and a site has at most the allowed number of pages
abbrev pub IsFew : Source → Type 0
IsFew (one n) = Unit {0}
IsFew (several sheet pairs) = length pairs ≤ MOST_PAGES
IsFew (ring k) = k ≤ MOST_BOXES

-- a mode of sites has several pages, and each other mode has one
abbrev pub IsOfMode : Mode → Source → Type 0
IsOfMode m (several sheet pairs) = takes_pages m ≡ true
IsOfMode m _ = takes_pages m ≡ false

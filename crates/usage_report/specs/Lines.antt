-- What a report says, line by line: an answer without its proof, and the text of such lines.
--     Shown                  steps that are shown, and the node that they lead to
--     Line                   what is said of an item of a sheet
--     item_text, lines       the lines of an item, and of all of them
--     report, report_with    the whole text, with steps or with whole runs in their place
use Rattle.std.specs.Prelude.{ℕ, ◌+◌, ◌-◌, ◌^◌, ◌==◌, if◌then◌else◌, List, [], ◌∷◌, ◌++◌, codes, get_or, map, Option, Some, None}
use Rattle.std.specs.List.{flat_map}
use Rattle.std.specs.Fmt.{decimal}
use Rattle.tp_base.specs.Names.{Named}
use Rattle.tp_base.specs.Places.{place_at}
use Rattle.tp_base.specs.declared.places.Place.{Place}
use Rattle.tree_sem.specs.declared.actions.Step.{Step}
use Rattle.sel_text.specs.declared.faults.Skip.{Skip}
use Rattle.sel_text.specs.declared.faults.Skip.TheVariants as cause
use Rattle.sel_text.specs.SelectorText.{selector_text}
use Rattle.css_read.specs.Sheets as sheets
use Rattle.usage_report.specs.RunTraces.{RunTrace, listed, stopped}

-- steps, and the node that they lead to
pub record Shown : Type 0 where
  pub steps : List Step
  pub at : List ℕ

-- A selector is used, after so many steps, which may be shown. It may be used after steps one of which isn't legal by the calls that its
-- statement has, or that weren't replayed. It is used after steps that are too many to be told; it is unused; it is skipped for a cause at
-- an offset of the sheet; or it was not found out.
pub data Line : Type 0 where
  used : (count : ℕ) (shown : Option Shown) → Line
  maybe : (count : ℕ) (shown : Option Shown) (broken : Option ℕ) → Line
  used_unshown : Line
  unused : Line
  skipped : (cause : Skip) (at : ℕ) → Line
  spent : Line

-- the greatest number of steps that is counted
abbrev pub MOST_COUNT : ℕ
MOST_COUNT = 2 ^ 64 - 1

-- `line:column`
unfoldable pub place_text : Place → List ℕ
place_text place = decimal place.line ++ codes ":" ++ decimal place.column

-- `/` for the root, else `/` before each child number
unfoldable pub path_text : List ℕ → List ℕ
path_text [] = codes "/"
path_text (k ∷ at) = flat_map (λ n. codes "/" ++ decimal n) (k ∷ at)

-- the place of a statement, by its number
abbrev pub statement_place : List Place → ℕ → Place
statement_place places stmt = get_or places stmt (record { line = 1; column = 1 })

-- a line for a step; statements are counted from 1
unfoldable pub step_text : List Place → Step → List ℕ
step_text places step =
    codes "  " ++ decimal (step.stmt + 1) ++ codes " at " ++ place_text (statement_place places step.stmt) ++ codes " on " ++ path_text step.at ++ codes "\n"

-- a line for a run; statements are counted from 1
unfoldable pub run_text : List Place → ℕ → List ℕ
run_text places run = codes "  run " ++ decimal (run + 1) ++ codes " at " ++ place_text (statement_place places run) ++ codes "\n"

-- the runs and the match, or where they stop
unfoldable pub trace_text : List Place → RunTrace → List ℕ
trace_text places (listed runs at) = flat_map (run_text places) runs ++ codes "  match " ++ path_text at ++ codes "\n"
trace_text places (stopped run) = codes "  runs stop at " ++ decimal run ++ codes "\n"

-- the steps and the match, or the runs in their place, or that they are not listed
unfoldable pub shown_text : List Place → Option Shown → Option RunTrace → List ℕ
shown_text places None trace = codes "  not listed\n"
shown_text places (Some shown) None = flat_map (step_text places) shown.steps ++ codes "  match " ++ path_text shown.at ++ codes "\n"
shown_text places (Some shown) (Some trace) = trace_text places trace

-- the step that isn't legal, counted from 1
unfoldable pub illegal_text : ℕ → List ℕ
illegal_text i = codes "  illegal at step " ++ decimal (i + 1) ++ codes "\n"

-- the steps and the one that isn't legal, or that they were not replayed
unfoldable pub broken_text : List Place → Option Shown → Option ℕ → List ℕ
broken_text places (Some shown) (Some i) = flat_map (step_text places) shown.steps ++ illegal_text i
broken_text places _ _ = codes "  not replayed\n"

-- a number of steps, with `+` where it is the greatest that is counted and there may be more
unfoldable pub count_text : ℕ → List ℕ
count_text count = decimal count ++ (if count == MOST_COUNT then codes "+" else [])

abbrev pub cause_text : Skip → List ℕ
cause_text cause.Sibling = codes "sibling"
cause_text cause.Pseudo = codes "pseudo"
cause_text cause.Attribute = codes "attribute"
cause_text cause.Escape = codes "escape"
cause_text cause.Long = codes "long"
cause_text cause.Bad = codes "bad"

-- the first line of what is said in a sheet of this text, for an item whose place and whose selector's text are these
unfoldable pub head_text : List ℕ → List ℕ → List ℕ → Line → List ℕ
head_text text place selector (used count shown) = place ++ codes " used " ++ count_text count ++ codes " " ++ selector ++ codes "\n"
head_text text place selector (maybe count shown broken) = place ++ codes " maybe " ++ count_text count ++ codes " " ++ selector ++ codes "\n"
head_text text place selector used_unshown = place ++ codes " used-unshown " ++ selector ++ codes "\n"
head_text text place selector unused = place ++ codes " unused " ++ selector ++ codes "\n"
head_text text place selector (skipped cause at) = place ++ codes " skipped " ++ cause_text cause ++ codes " at " ++ place_text (place_at text at) ++ codes "\n"
head_text text place selector spent = place ++ codes " spent " ++ selector ++ codes "\n"

-- a text, and behind it the lines of its trace, if it has one
abbrev pub with_trace : List Place → List ℕ → Line → Option RunTrace → List ℕ
with_trace places front (used count shown) trace = front ++ shown_text places shown trace
with_trace places front (maybe count shown broken) trace = front ++ broken_text places shown broken
with_trace places front _ trace = front

-- all lines of it
abbrev pub answer_text : List ℕ → List Place → List ℕ → List ℕ → Line → Option RunTrace → List ℕ
answer_text text places place selector a trace = with_trace places (head_text text place selector a) a trace

-- the selector of an item that is judged
abbrev pub outcome_text : List Named → sheets.Outcome → List ℕ
outcome_text names (sheets.judged s) = selector_text names s
outcome_text names (sheets.skipped cause at) = []

-- the lines of an item
abbrev pub item_text : List ℕ → List Named → List Place → sheets.Item → Line → Option RunTrace → List ℕ
item_text text names places i a trace = answer_text text places (place_text (place_at text i.from)) (outcome_text names i.outcome) a trace

-- the lines of the items, each with what is said of it and, where runs stand in the place of its steps, these
abbrev pub lines : List ℕ → List Named → List Place → List sheets.Item → List Line → List (Option RunTrace) → List ℕ
lines text names places (i ∷ items) (a ∷ answers) (trace ∷ traces) = item_text text names places i a trace ++ lines text names places items answers traces
lines text names places _ _ _ = []

-- what a report begins with: the command, and the version of the report's text
abbrev pub version : List ℕ
version = codes "treeped 2"

abbrev pub first_line : List ℕ
first_line = version ++ codes "\n"

-- a report on a sheet of this text with these traces
abbrev pub report_with : List ℕ → List Named → List Place → sheets.Sheet → List Line → List (Option RunTrace) → List ℕ
report_with text names places sheet answers traces = first_line ++ lines text names places sheet.items answers traces

-- no item has runs in the place of its steps
abbrev pub no_traces : List sheets.Item → List (Option RunTrace)
no_traces items = map (λ i. None) items

-- the report on a sheet of this text
abbrev pub report : List ℕ → List Named → List Place → sheets.Sheet → List Line → List ℕ
report text names places sheet answers = report_with text names places sheet answers (no_traces sheet.items)

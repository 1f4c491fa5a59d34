-- The text of a report by its answers: that of their lines. The answers are reportable on its items (`Reportable.antt`).
use Rattle.std.specs.Prelude.{ℕ, List, map, Option}
use Rattle.tp_base.specs.Names.{Named}
use Rattle.tp_base.specs.declared.places.Place.{Place}
use Rattle.css_read.specs.Sheets as sheets
use Rattle.proof_check.specs.declared.unfolded.Unfolded.{Unfolded}
use Rattle.usage_report.specs.RunTraces.{RunTrace}
use Rattle.usage_report.specs.Answers.{Answer, shown_of, line_of}
use Rattle.usage_report.specs.Lines as says
pub use Rattle.usage_report.specs.Lines.{place_text, path_text, statement_place, step_text, run_text, trace_text, illegal_text, count_text, cause_text, outcome_text, version, first_line, no_traces}

abbrev pub shown_text : List Place → Option Unfolded → Option RunTrace → List ℕ
shown_text places shown trace = says.shown_text places (shown_of shown) trace

abbrev pub broken_text : List Place → Option Unfolded → Option ℕ → List ℕ
broken_text places shown broken = says.broken_text places (shown_of shown) broken

abbrev pub head_text : List ℕ → List ℕ → List ℕ → Answer → List ℕ
head_text text place selector a = says.head_text text place selector (line_of a)

abbrev pub with_trace : List Place → List ℕ → Answer → Option RunTrace → List ℕ
with_trace places front a trace = says.with_trace places front (line_of a) trace

abbrev pub item_text : List ℕ → List Named → List Place → sheets.Item → Answer → Option RunTrace → List ℕ
item_text text names places i a trace = says.item_text text names places i (line_of a) trace

abbrev pub lines : List ℕ → List Named → List Place → List sheets.Item → List Answer → List (Option RunTrace) → List ℕ
lines text names places items answers traces = says.lines text names places items (map line_of answers) traces

-- with these traces
abbrev pub report_with : List ℕ → List Named → List Place → sheets.Sheet → List Answer → List (Option RunTrace) → List ℕ
report_with text names places sheet answers traces = says.report_with text names places sheet (map line_of answers) traces

-- with the steps that the answers show
abbrev pub report : List ℕ → List Named → List Place → sheets.Sheet → List Answer → List ℕ
report text names places sheet answers = says.report text names places sheet (map line_of answers)

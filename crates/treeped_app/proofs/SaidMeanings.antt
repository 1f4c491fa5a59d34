-- What is written of one page means what it says, from its results.
use Rattle.std.proofs.Common.{◌≡◌, ℕ, List, length, map, Option, None, Result, Ok, Err, OnOk, refl, ap}
use Rattle.jq_stmts.specs.Sharp.{wides}
use Rattle.css_read.specs.Pruned.{pruned}
use Rattle.limits.specs.declared.budgets.Limits.{Limits}
use Rattle.command_words.specs.declared.words.Mode.{Mode}
use Rattle.command_words.specs.declared.words.Mode.TheVariants.{Report, Prune, Dead, Runs, Site, SitePrune}
use Rattle.usage_report.specs.Answers.{line_of}
use Rattle.usage_report.specs.Summary.{summary}
use Rattle.dead_script.specs.Verdicts.{verdicts}
use Rattle.tp_io.specs.Sinks.{Adds}
use Rattle.treeped_app.specs.Inputs.{IsSaidOf, IsWritable}
use Rattle.treeped_app.specs.Meaning.{Each, MeansLine, MeansReport, MeansPage, MeansRing}
use Rattle.treeped_app.specs.MeansParts.{MeansSaid, Writes, WritesOf}
use Rattle.treeped_app.specs.Modes.{Said, guards_in, report_on, text_on}
use Rattle.treeped_app.proofs.MeaningLemmas.{each_means, unused_lines, same_left, statements_mean, runs_at, runs_each, all_run}
use Rattle.treeped_app.proofs.PreservationLemmas.{on_said}
use Rattle.treeped_app.proofs.SheetLemmas.{sheet_read, wide_read}

module _ (m : Mode) (limits : Limits) (page : Option ℕ) (s : Said) (is : IsSaidOf m limits page s) where
  wide : wides s.inputs.exact ≡ s.inputs.stmts
  wide = wide_read m page s.texts s.inputs is.read

  pub lines_mean : Each (MeansLine s.inputs) s.inputs.sheet.items (map line_of s.items)
  lines_mean = each_means s.inputs (guards_in m s.inputs) (length s.inputs.names) limits wide s.inputs.sheet.items s.items is.answers.right

pub report_means : (s : Said) → Each (MeansLine s.inputs) s.inputs.sheet.items (map line_of s.items) → MeansReport s.texts s.inputs (report_on s)
report_means s lines = record { lines = map line_of s.items; written = refl; each = lines }

text_means : (m : Mode) (limits : Limits) (page : Option ℕ) (s : Said) → IsSaidOf m limits page s → MeansPage m s.texts s.inputs (text_on m s)
text_means Report limits page s is = report_means s (lines_mean Report limits page s is)
text_means Prune limits page s is =
    let read = sheet_read Prune page s.texts s.inputs is.read in
    record {
      lines = map line_of s.items;
      each = lines_mean Prune limits page s is;
      written = ap (λ flags. pruned s.texts.sheet s.inputs.sheet flags) (unused_lines s.items);
      same = same_left s (text_on Prune s) (wide Prune limits page s is) read.0 read.1 read.2 (on_said Prune limits page s is);
    }
text_means Dead limits page s is =
    record {
      front = report_on s;
      reported = report_means s (lines_mean Dead limits page s is);
      verdicts = verdicts s.inputs.stmts s.others;
      written = refl;
      each = statements_mean s.inputs limits s.items s.others is.answers;
    }
text_means Runs limits page s is =
    record {
      lines = map line_of s.items;
      traces = s.traces;
      written = refl;
      each = lines_mean Runs limits page s is;
      one_each = runs_each s.inputs.tree s.inputs.stmts s.inputs.sheet.items s.items s.traces is.traces;
      all = λ k count item q x at is' at'. all_run s.inputs.tree s.inputs.stmts s.inputs.sheet.items s.items s.traces is.traces k count item q x at is' at';
      runs = λ k item line r at at' at''. runs_at s.inputs.tree s.inputs.stmts s.inputs.sheet.items s.items s.traces is.traces k item line r at at' at'';
    }
text_means Site limits page s is = report_means s (lines_mean Site limits page s is)
text_means SitePrune limits page s is = report_means s (lines_mean SitePrune limits page s is)

pub said_means : (m : Mode) (limits : Limits) (page : Option ℕ) (s : Said) → IsSaidOf m limits page s → MeansSaid m s
said_means m limits page s is = record { lines = lines_mean m limits page s is; text = text_means m limits page s is }

pub writable_means : (m : Mode) (s : Said) → IsWritable m s → MeansSaid m s
writable_means m s (limits, page, is) = said_means m limits page s is

-- ---- and what is written

-- a text that is written has the meaning that it was shown to have
pub written_means : {T E : Type 0} (r : Result T E) (held held' : Option (List ℕ)) (text : List ℕ) (IsMeant : List ℕ → Type 0) → IsMeant text → OnOk r (Adds held held' text) → OnOk r (Writes held held' IsMeant)
written_means (Ok x) held held' text IsMeant means adds = (text, adds, means)
written_means (Err e) held held' text IsMeant means adds = tt

pub page_written : (m : Mode) (limits : Limits) (held held' : Option (List ℕ)) (s : Said) → IsSaidOf m limits None s → Writes held held' (MeansPage m s.texts s.inputs) → WritesOf m s.texts held held' (MeansPage m s.texts)
page_written m limits held held' s is writes = (s.inputs, is.read, writes)

pub ring_written : (k : ℕ) (m : Mode) (limits : Limits) (held held' : Option (List ℕ)) (s : Said) → IsSaidOf m limits None s → Adds held held' (summary k s.items) → WritesOf m s.texts held held' (MeansRing k)
ring_written k m limits held held' s is adds = (s.inputs, is.read, (summary k s.items, adds, record { lines = map line_of s.items; written = refl; each = lines_mean m limits None s is }))

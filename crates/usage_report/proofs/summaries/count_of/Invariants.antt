use Rattle.std.proofs.Common.{◌≡◌, ◌≤◌, take}
use Rattle.std.specs.List.{count_by}
use Rattle.usage_report.specs.Views.{answer_of}
use Rattle.usage_report.specs.Answers.{line_of}
use Rattle.usage_report.specs.Counts.{is_of}
use Rattle.usage_report.proofs.summaries.count_of.Given as goal

abbrev pub invariant-answers : goal.invariant-answers
invariant-answers l = record {
  count : l.count ≡ count_by (λ a. is_of l.form (line_of (answer_of a))) (take l.answer-index l.answers);
  few : l.count ≤ l.answer-index;
}

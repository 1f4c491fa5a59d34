use Rattle.std.proofs.Common.{◌≡◌, min, sum_by, take}
use Rattle.usage_report.specs.Views.{answer_of}
use Rattle.usage_report.specs.declared.answers.Answer.{Answer}
use Rattle.usage_report.specs.Answers.{line_of}
use Rattle.usage_report.specs.Counts.{steps_of}
use Rattle.usage_report.specs.Lines.{MOST_COUNT}
use Rattle.usage_report.proofs.summaries.all_steps.Given as goal

abbrev pub invariant-answers : goal.invariant-answers
invariant-answers l = record {
  sum : l.sum ≡ min (sum_by (λ (a : Answer). steps_of (line_of (answer_of a))) (take l.answer-index l.answers)) MOST_COUNT;
}

use Rattle.std.proofs.Common.{length, All}
use Rattle.usage_report.specs.Views.{answer_of}
use Rattle.dead_script.specs.Verdicts.{IsProbed}
use Rattle.report_tests.proofs.checks.are_probed.Given as goal

abbrev pub invariant-answers : goal.invariant-answers
invariant-answers l = All (λ a. IsProbed l.places (answer_of a)) l.rest → All (λ a. IsProbed l.places (answer_of a)) l.answers

abbrev pub decreases-answers : goal.decreases-answers
decreases-answers l = length l.rest

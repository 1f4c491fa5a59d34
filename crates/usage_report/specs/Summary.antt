-- The line on a ring of boxes, by its answers: that of their lines.
use Rattle.std.specs.Prelude.{ℕ, List, map}
use Rattle.usage_report.specs.Answers.{Answer, line_of}
use Rattle.usage_report.specs.Counts as counts

abbrev pub summary : ℕ → List Answer → List ℕ
summary n answers = counts.summary n (map line_of answers)

use Rattle.std.proofs.Common.{◌≡◌, map, take}
use Rattle.usage_report.specs.Views.{answer_of}
use Rattle.judge.specs.BySeen.{all_unused}
use Rattle.judge.proofs.answering.all_unused.Given as goal

abbrev pub invariant-atoms : goal.invariant-atoms
invariant-atoms l = map answer_of l.answers.items ≡ all_unused (take l.atom-index l.seen)

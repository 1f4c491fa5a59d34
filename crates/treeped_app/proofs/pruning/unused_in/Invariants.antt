use Rattle.std.proofs.Common.{◌≡◌, map, take}
use Rattle.usage_report.specs.Views.{answer_of}
use Rattle.treeped_app.specs.Modes.{is_unused}
use Rattle.treeped_app.proofs.pruning.unused_in.Given as goal

abbrev pub invariant-answers : goal.invariant-answers
invariant-answers l = l.flags.items ≡ map (λ a. is_unused (answer_of a)) (take l.answer-index l.answers)

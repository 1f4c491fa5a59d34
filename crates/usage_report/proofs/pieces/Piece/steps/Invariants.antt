use Rattle.std.proofs.Common.{◌≡◌, ◌++◌, take}
use Rattle.std.specs.List.{flat_map}
use Rattle.usage_report.specs.Report.{step_text}
use Rattle.usage_report.proofs.pieces.Piece.steps.Given as goal

abbrev pub invariant-steps : goal.invariant-steps
invariant-steps l = l.self.bytes.items ≡ l.initial.self.bytes.items ++ flat_map (step_text l.places) (take l.step-index l.steps)

use Rattle.std.proofs.Common.{◌≡◌, ◌++◌, codes, take}
use Rattle.std.specs.List.{flat_map}
use Rattle.std.specs.Fmt.{decimal}
use Rattle.usage_report.proofs.pieces.Piece.child_numbers.Given as goal

abbrev pub invariant-levels : goal.invariant-levels
invariant-levels l = l.self.bytes.items ≡ l.initial.self.bytes.items ++ flat_map (λ n. codes "/" ++ decimal n) (take l.i l.at)

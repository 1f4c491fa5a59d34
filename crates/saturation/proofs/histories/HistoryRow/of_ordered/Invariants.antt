use Rattle.std.proofs.Common.{◌≡◌, map, take}
use Rattle.saturation.specs.HistoryMap.{Noted}
use Rattle.saturation.proofs.histories.HistoryRow.of_ordered.Given as goal

abbrev pub invariant-loop-i : goal.invariant-loop-i
invariant-loop-i l = (l.atoms.items ≡ map (λ (n : Noted). n.0) (take l.i l.noted)) × (l.changes.items ≡ map (λ (n : Noted). n.1) (take l.i l.noted))

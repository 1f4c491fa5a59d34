use Rattle.std.proofs.Common.{◌≡◌, map, take}
use Rattle.closed_page.proofs.shared_set.copies.Given as goal

abbrev pub invariant-loop-i : goal.invariant-loop-i
invariant-loop-i l = l.shared.items ≡ map (λ s. s.now) (take l.i l.sets)

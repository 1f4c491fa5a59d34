use Rattle.std.proofs.Common.{◌≡◌, [], map, take, get_or}
use Rattle.closed_page.proofs.shared_set.shares_at.Given as goal

abbrev pub invariant-loop-i : goal.invariant-loop-i
invariant-loop-i l = l.shared.items ≡ map (λ k. get_or l.sets k []) (take l.i l.numbers)

use Rattle.std.proofs.Common.{◌≡◌, ◌++◌, length}
use Rattle.judge.proofs.copying.copy_page.Given as goal

abbrev pub invariant-items : goal.invariant-items
invariant-items l = l.copied.items ++ l.rest ≡ l.items

abbrev pub decreases-items : goal.decreases-items
decreases-items l = length l.rest

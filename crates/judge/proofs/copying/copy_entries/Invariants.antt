use Rattle.std.proofs.Common.{◌≡◌, ◌++◌, length}
use Rattle.judge.proofs.copying.copy_entries.Given as goal

abbrev pub invariant-entries : goal.invariant-entries
invariant-entries l = l.copied.items ++ l.rest ≡ l.entries

abbrev pub decreases-entries : goal.decreases-entries
decreases-entries l = length l.rest

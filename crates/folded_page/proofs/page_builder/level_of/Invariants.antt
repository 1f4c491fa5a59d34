use Rattle.std.proofs.Common.{◌≤◌, length}
use Rattle.folded_page.proofs.page_builder.level_of.Given as goal

abbrev pub invariant-levels : goal.invariant-levels
invariant-levels l = l.level ≤ length l.line

abbrev pub decreases-levels : goal.decreases-levels
decreases-levels l = l.level

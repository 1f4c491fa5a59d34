use Rattle.std.proofs.Common.{map, length}
use Rattle.sel_text.specs.Views.{selector_of}
use Rattle.jq_stmts.specs.Tables.{AreSelectorsOver}
use Rattle.judge_tests.proofs.checks.are_selectors.Given as goal

abbrev pub invariant-selectors : goal.invariant-selectors
invariant-selectors l = AreSelectorsOver l.n (map selector_of l.rest) → AreSelectorsOver l.n (map selector_of l.selectors)

abbrev pub decreases-selectors : goal.decreases-selectors
decreases-selectors l = length l.rest

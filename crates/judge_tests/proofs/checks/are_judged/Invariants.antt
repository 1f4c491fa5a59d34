use Rattle.std.proofs.Common.{map, length}
use Rattle.css_read.specs.Views.{item_of}
use Rattle.judge.specs.Answers.{judged_in}
use Rattle.jq_stmts.specs.Tables.{AreSelectorsOver}
use Rattle.judge_tests.proofs.checks.are_judged.Given as goal

abbrev pub invariant-items : goal.invariant-items
invariant-items l = AreSelectorsOver l.n (judged_in (map item_of l.rest)) → AreSelectorsOver l.n (judged_in (map item_of l.items))

abbrev pub decreases-items : goal.decreases-items
decreases-items l = length l.rest

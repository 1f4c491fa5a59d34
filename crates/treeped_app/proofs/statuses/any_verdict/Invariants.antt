use Rattle.std.proofs.Common.{◌≡◌, drop}
use Rattle.treeped_app.proofs.VerdictLemmas.{any_so, told_by}
use Rattle.treeped_app.proofs.statuses.any_verdict.Given as goal

abbrev pub invariant-statements : goal.invariant-statements
invariant-statements l = any_so l.question (drop l.stmt-index l.stmts) (told_by l.answers l.left) ≡ any_so l.question l.stmts (told_by l.answers l.numbers)

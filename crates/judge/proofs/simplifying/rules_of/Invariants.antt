use Rattle.std.proofs.Common.{◌≡◌, take}
use Rattle.jq_stmts.specs.Views.{statements_of}
use Rattle.rule_translate.specs.Translation as translated
use Rattle.judge.proofs.simplifying.rules_of.Given as goal

abbrev pub invariant-statements : goal.invariant-statements
invariant-statements l = l.rules.items ≡ translated.rules_of (statements_of (take l.stmt-index l.stmts))

use Rattle.std.proofs.Common.{◌≡◌, [], take, Option}
use Rattle.jq_stmts.specs.Statements.{Root}
use Rattle.jq_sem.specs.Standing.{last_first}
use Rattle.guard_sem.specs.Guards.{Guard}
use Rattle.rule_translate.specs.Translation as spec
use Rattle.rule_translate.proofs.chains.of_calls.Given as goal

abbrev pub invariant-calls : goal.invariant-calls
invariant-calls l = (h : Option Guard) (root : Root) → l.fn.g ≡ spec.of_root h root → l.guard ≡ spec.of_calls h root (last_first (take l.c-index l.calls) [])

-- The guards of several statements, and the answers to them, by their numbers.
--     further_guards s k     the guards of the probes of a statement from number k on
--     is_unused a            the answer is `unused`
use Rattle.std.specs.Prelude.{ℕ, ◌+◌, ◌-◌, Bool, true, false, List, length, map}
use Rattle.std.specs.List.{range_with_len}
use Rattle.jq_stmts.specs.Statements.{Statement}
use Rattle.guard_sem.specs.Guards.{Guard}
use Rattle.rule_translate.specs.Translation.{guard_of}
use Rattle.usage_report.specs.Answers.{Answer, unused}
use Rattle.dead_script.specs.Probes.{probe}

abbrev pub further_guards : Statement → ℕ → List Guard
further_guards s k = map (λ i. guard_of (probe s i)) (range_with_len k (length s.handlers + 1 - k))

abbrev pub is_unused : Answer → Bool
is_unused unused = true
is_unused _ = false

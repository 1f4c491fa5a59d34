use Rattle.std.proofs.Common.{◌≡◌, ◌++◌, ◌-◌, length, map}
use Rattle.std.specs.List.{range_with_len}
use Rattle.jq_stmts.specs.Views.{statement_of}
use Rattle.rule_translate.specs.Translation.{guard_of}
use Rattle.dead_script.specs.Probes.{probe}
use Rattle.dead_script.proofs.asking.add_new.Given as goal

abbrev pub invariant-handlers : goal.invariant-handlers
invariant-handlers l = record {
  guards : l.asked.guards.items ≡ l.initial.asked.guards.items ++ map (λ i. guard_of (probe (statement_of l.stmt) i)) (range_with_len l.k (l.i - l.k));
  numbers : l.asked.numbers.items ≡ l.initial.asked.numbers.items ++ range_with_len (length l.initial.asked.guards.items) (l.i - l.k);
}

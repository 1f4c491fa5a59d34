use Rattle.std.proofs.Common.{◌≡◌, ◌≤◌, ◌++◌, length}
use Rattle.code_values.specs.Runs.{runs_from, runs}
use Rattle.code_values.proofs.runs.runs_of.Given as goal

abbrev pub invariant-tokens : goal.invariant-tokens
invariant-tokens l = record {
  within : length l.rest ≤ length l.tokens;
  reads : l.runs.items ++ runs_from l.script.text.now l.script.code.now (length l.tokens) l.joined l.rest ≡ runs l.script.text.now l.script.code.now;
}

abbrev pub decreases-tokens : goal.decreases-tokens
decreases-tokens l = length l.rest

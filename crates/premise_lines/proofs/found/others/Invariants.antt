use Rattle.std.proofs.Common.{◌≡◌, take}
use Rattle.premise_lines.specs.Lines.{others}
use Rattle.premise_lines.proofs.found.others.Given as goal

abbrev pub invariant-findings : goal.invariant-findings
invariant-findings l = l.others.items ≡ others l.names (take l.finding-index l.found)

use Rattle.std.proofs.Common.{◌≡◌, ◌≤◌, ◌+◌, ◌++◌, length}
use Rattle.css_read.specs.Rules.{rules_from}
use Rattle.premise_finds.specs.Selectors.{selector_findings}
use Rattle.premise_finds.proofs.SelectorSteps.{found_in_rules}
use Rattle.premise_finds.proofs.selectors.selector_findings.Given as goal

abbrev pub invariant-fronts : goal.invariant-fronts
invariant-fronts l = record {
  within : l.depth + length l.rest ≤ length l.text;
  found : l.found.items ++ found_in_rules l.text (rules_from (length l.text) l.depth 0 l.rest) ≡ selector_findings l.text;
}

abbrev pub decreases-fronts : goal.decreases-fronts
decreases-fronts l = length l.rest

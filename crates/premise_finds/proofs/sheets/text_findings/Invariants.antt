use Rattle.std.proofs.Common.{◌≡◌, ◌≤◌, ◌+◌, ◌++◌, length}
use Rattle.premise_finds.specs.Sheets.{findings_from, text_findings}
use Rattle.premise_finds.proofs.sheets.text_findings.Given as goal

abbrev pub invariant-fronts : goal.invariant-fronts
invariant-fronts l = record {
  within : l.depth + length l.rest ≤ length l.text;
  size : l.draft.size ≡ length l.text;
  found : l.draft.found.items ++ findings_from l.draft.several (length l.text) l.depth 0 l.rest ≡ text_findings l.text;
}

abbrev pub decreases-fronts : goal.decreases-fronts
decreases-fronts l = length l.rest

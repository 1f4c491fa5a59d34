use Rattle.std.proofs.Common.{◌≡◌, ◌≤◌, length}
use Rattle.code_scan.specs.Tokens.{joined, found_from, found_in}
use Rattle.code_scan.specs.Scans.{found_of}
use Rattle.code_scan.specs.Views.{state_of}
use Rattle.code_scan.proofs.scanner.scan.Given as goal

abbrev pub invariant-fronts : goal.invariant-fronts
invariant-fronts l = record {
  within : length l.rest ≤ length l.text;
  reads : joined (found_of l.found) (found_from (length l.text) (state_of l.state) 0 l.rest) ≡ found_in l.text;
}

abbrev pub decreases-fronts : goal.decreases-fronts
decreases-fronts l = length l.rest

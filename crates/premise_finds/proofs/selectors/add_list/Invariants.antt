use Rattle.std.proofs.Common.{◌≡◌, ◌≤◌, ◌++◌, length, slice_range}
use Rattle.css_read.specs.Pieces.{pieces}
use Rattle.premise_finds.specs.Selectors.{found_in_list}
use Rattle.premise_finds.proofs.SelectorSteps.{found_behind}
use Rattle.premise_finds.proofs.selectors.add_list.Given as goal

abbrev pub invariant-commas : goal.invariant-commas
invariant-commas l = record {
  within : length l.rest ≤ l.list.to;
  found : l.found.items ++ found_behind l.text l.list.to l.rest ≡ l.fn.found.items ++ found_in_list l.text (pieces l.list.to (slice_range l.text l.list.from l.list.to));
}

abbrev pub decreases-commas : goal.decreases-commas
decreases-commas l = length l.rest

use Rattle.std.proofs.Common.{◌≡◌, ◌≤◌, ◌+◌, length}
use Rattle.premise_finds.specs.Sheets.{layers_from}
use Rattle.premise_finds.proofs.sheets.has_several_layers.Given as goal

abbrev pub invariant-units : goal.invariant-units
invariant-units l = record {
  within : l.count + length l.rest ≤ length l.text;
  counts : l.count + layers_from 0 l.rest ≡ layers_from 0 l.text;
}

abbrev pub decreases-units : goal.decreases-units
decreases-units l = length l.rest

use Rattle.std.proofs.Common.{◌≡◌, ◌≤◌, map, length}
use Rattle.code_sources.specs.Tags.{placed_from}
use Rattle.code_sources.specs.Views.{placed_of}
use Rattle.code_sources.proofs.TagSteps.{with_front}
use Rattle.code_sources.proofs.tags.read_attributes.Given as goal

abbrev pub invariant-turns : goal.invariant-turns
invariant-turns l = record {
  within : length l.rest ≤ length l.text;
  reads : placed_from l.size 0 l.text ≡ with_front (map placed_of l.found.items) (placed_from l.size 0 l.rest);
}

abbrev pub decreases-turns : goal.decreases-turns
decreases-turns l = length l.rest

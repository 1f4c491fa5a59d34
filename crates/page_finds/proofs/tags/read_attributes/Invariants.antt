use Rattle.std.proofs.Common.{◌≡◌, ◌≤◌, map, length}
use Rattle.page_finds.specs.Tags.{placed_from}
use Rattle.page_finds.specs.Views.{placed_of}
use Rattle.page_finds.proofs.TagSteps.{with_front}
use Rattle.page_finds.proofs.tags.read_attributes.Given as goal

abbrev pub invariant-turns : goal.invariant-turns
invariant-turns l = record {
  within : length l.rest ≤ length l.text;
  reads : placed_from l.size 0 l.text ≡ with_front (map placed_of l.found.items) (placed_from l.size 0 l.rest);
}

abbrev pub decreases-turns : goal.decreases-turns
decreases-turns l = length l.rest

use Rattle.std.proofs.Common.{◌≡◌, ◌++◌, map, flat_map, take}
use Rattle.page_finds.specs.TagNames.{found_at_attribute}
use Rattle.page_finds.specs.Views.{placed_of}
use Rattle.page_finds.proofs.tag_names.add_attributes.Given as goal

abbrev pub invariant-attributes : goal.invariant-attributes
invariant-attributes l = l.found.items ≡ l.fn.found.items ++ flat_map found_at_attribute (map placed_of (take l.placed-index l.attributes))

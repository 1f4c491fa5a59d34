use Rattle.std.proofs.Common.{◌≡◌, ◌++◌, map, flat_map, take}
use Rattle.code_sources.specs.Attributes.{sources_in_attribute}
use Rattle.code_sources.specs.Views.{placed_of}
use Rattle.code_sources.proofs.sources.add_attributes.Given as goal

abbrev pub invariant-attributes : goal.invariant-attributes
invariant-attributes l = l.found.items ≡ l.fn.found.items ++ flat_map sources_in_attribute (map placed_of (take l.placed-index l.attributes))

use Rattle.std.proofs.Common.{◌≡◌, ◌++◌, map, flat_map, take}
use Rattle.code_sources.specs.Sources.{sources_in_tag}
use Rattle.code_sources.specs.Views.{tag_of}
use Rattle.code_sources.proofs.sources.add_tags.Given as goal

abbrev pub invariant-tags : goal.invariant-tags
invariant-tags l = l.found.items ≡ l.fn.found.items ++ flat_map (sources_in_tag l.scripts) (map tag_of (take l.tag-index l.tags))

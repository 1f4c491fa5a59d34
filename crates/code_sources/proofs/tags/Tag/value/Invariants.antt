use Rattle.std.proofs.Common.{◌≡◌, map, length}
use Rattle.html_tokens.specs.Attributes.{value_of}
use Rattle.code_sources.specs.Tags.{Placed}
use Rattle.code_sources.specs.Views.{placed_of}
use Rattle.code_sources.proofs.tags.Tag.value.Given as goal

abbrev pub invariant-attributes : goal.invariant-attributes
invariant-attributes l =
    value_of l.name (map (λ (p : Placed). p.attribute) (map placed_of l.left))
    ≡ value_of l.name (map (λ (p : Placed). p.attribute) (map placed_of l.self.attributes))

abbrev pub decreases-attributes : goal.decreases-attributes
decreases-attributes l = length l.left

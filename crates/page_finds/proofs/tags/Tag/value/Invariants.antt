use Rattle.std.proofs.Common.{◌≡◌, map, drop}
use Rattle.html_tokens.specs.Attributes.{value_of}
use Rattle.page_finds.specs.Tags.{Placed}
use Rattle.page_finds.specs.Views.{placed_of}
use Rattle.page_finds.proofs.tags.Tag.value.Given as goal

abbrev pub invariant-attributes : goal.invariant-attributes
invariant-attributes l =
    value_of l.name (map (λ (p : Placed). p.attribute) (map placed_of (drop l.placed-index l.self.attributes.items)))
    ≡ value_of l.name (map (λ (p : Placed). p.attribute) (map placed_of l.self.attributes.items))

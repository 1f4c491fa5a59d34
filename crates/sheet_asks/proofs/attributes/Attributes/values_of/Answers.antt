use Rattle.std.proofs.Common.{◌∙◌, ap}
use Rattle.std.specs.Map.{lookup}
use Rattle.std.specs.Str.{bytes_eq}
use Rattle.sheet_asks.proofs.AttributeSteps.{seen_at}
use Rattle.sheet_asks.proofs.attributes.Attributes.values_of.Goals as goal

pub returns : goal.returns
returns c = c.get.ensures.value ∙ seen_at (λ k. k.now) c.self.inside.sets.entries c.args.attribute.now ∙ ap (lookup (bytes_eq c.args.attribute.now)) c.self.view_is

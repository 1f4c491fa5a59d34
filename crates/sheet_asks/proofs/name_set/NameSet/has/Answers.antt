use Rattle.std.proofs.Common.{◌∙◌, ap}
use Rattle.sheet_asks.specs.Names.{is_among}
use Rattle.sheet_asks.proofs.SetSteps.{held}
use Rattle.sheet_asks.proofs.name_set.NameSet.has.Goals as goal

pub returns : goal.returns
returns c = c.contains.ensures ∙ held (λ k. k.now) c.self.inside.names.keys c.args.name.now ∙ ap (λ ns. is_among ns c.args.name.now) c.self.view_is

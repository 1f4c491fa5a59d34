use Rattle.std.proofs.Common.{map, ap, ◌∙◌}
use Rattle.sheet_asks.specs.Names.{with_name}
use Rattle.sheet_asks.proofs.SetSteps.{entered}
use Rattle.sheet_asks.proofs.name_set.NameSet.put.Goals as goal

pub returns-clause-ok : goal.returns-clause-ok
returns-clause-ok c = ap (map (λ k. k.now)) c.in_ok-insert.ensures.keys ∙ entered (λ k. k.now) c.self.inside.names.keys c.args.name ∙ ap (λ ns. with_name ns c.args.name.now) c.self.view_is

use Rattle.std.proofs.Common.{◌∙◌}
use Rattle.proof_core.proofs.keyed_list.KeyedList.place_of.Goals as goal

pub returns : goal.returns
returns g c = rw (← c.self.view_is) (c.copied.ensures ∙ c.get.ensures.value ∙ c.self.invariant c.args.key)

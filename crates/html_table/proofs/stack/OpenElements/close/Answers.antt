use Rattle.std.proofs.Common.{subst}
use Rattle.html_table.specs.Outward.{IsStack}
use Rattle.html_table.proofs.StackLemmas.{last_number, stack_less}
use Rattle.html_table.proofs.stack.OpenElements.close.Goals as goal

pub put-requires-clause-within : goal.put-requires-clause-within
put-requires-clause-within c =
    (last_number c.self.inside.names c.pop.new.self.items c.in-Some.last (subst (IsStack c.self.inside.names) c.in-Some.ensures.items c.self.invariant)).within

pub invariant_of-self : goal.invariant_of-self
invariant_of-self c =
    stack_less c.self.inside.names c.put.new.self c.pop.new.self.items c.in-Some.last (subst (IsStack c.self.inside.names) c.in-Some.ensures.items c.self.invariant)
    c.put.ensures.put c.put.ensures.kept c.put.ensures.fits

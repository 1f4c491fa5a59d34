use Rattle.guard_simplify.proofs.Pushes.{class_pushed}
use Rattle.guard_simplify.proofs.class_rules.add_classes.Goals as goal

pub classes-preserved : goal.classes-preserved
classes-preserved c =
    class_pushed c.args.number c.args.needs c.args.classes.now c.args.locals.now.items c.classes.locals.items c.push.new.self.items c.classes.i c.at.result c.in_ok-set_of_one.field-0
    c.classes.invariant c.in_ok-set_of_one.ensures c.at.ensures c.in_ok-push.ensures.items

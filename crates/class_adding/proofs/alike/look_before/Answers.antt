use Rattle.std.proofs.Common.{List, Bool, false, get_or, IsTrue, subst}
use Rattle.class_adding.proofs.alike.look_before.Goals as goal

pub returns : goal.returns
returns c = record {
  before = c.in-Some.look.now;
  there = c.in-Some.ensures;
  alike = c.requires.alike c.in-Some.look.now.number c.args.number (c.is_next.ensures c.if-not-is_next.false) c.requires.number
      (subst (λ (z : List Bool). IsTrue (get_or z c.args.number false)) c.deref.ensures.value (c.is_marked.ensures c.if-not-is_marked.false));
  moved = c.in_ok-again.ensures;
}

use Rattle.std.proofs.Common.{ℕ, List, Contains, sym, subst}
use Rattle.class_adding.proofs.work.callers_of.Goals as goal

pub returns-then-work : goal.returns-then-work
returns-then-work c = record {
  only = c.kids.ensures.kids.only;
  heard = λ d n a less at there. c.kids.ensures.kids.whole d n less at;
}

pub returns-else-work : goal.returns-else-work
returns-else-work c = record {
  only = λ d there. c.requires.working.only c.args.number d (subst (λ (z : List ℕ). Contains z d) c.of.ensures there);
  heard = λ d n a less at there. subst (λ (z : List ℕ). Contains z d) (sym c.of.ensures) (c.requires.working.heard c.if-work.false d a less there c.args.number n c.requires.number at);
}

use Rattle.std.proofs.Common.{◌+◌, ◌-◌, ◌<◌, ◌≤◌, All, sym, subst, arith}
use Rattle.class_diagrams.proofs.MarkLemmas.{all_below, last_below}
use Rattle.class_diagrams.proofs.marks.numbers_of.Goals as goal

pub returns-in_default-clause-all : goal.returns-in_default-clause-all
returns-in_default-clause-all c = subst (λ n. All (λ a. a < n + 1) c.args.set.now) (sym c.result.view_is)
    (all_below c.args.set.now (c.len.result - 1) c.at.result c.len.ensures.rising (omega (arith, c.len.ensures.count)) c.at.ensures)

pub returns-in_default-clause-least : goal.returns-in_default-clause-least
returns-in_default-clause-least c = λ n under. subst (λ m. m + 1 ≤ n) (sym c.result.view_is) (last_below c.args.set.now (c.len.result - 1) c.at.result n c.at.ensures under)

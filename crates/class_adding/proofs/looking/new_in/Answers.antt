use Rattle.std.proofs.Common.{[], List, ℕ, subst, sym, arith}
use Rattle.std.proofs.lemmas.List.{take_all}
use Rattle.class_adding.specs.Fresh.{AreNewIn}
use Rattle.class_adding.proofs.FreshLemmas.{new_none, new_more}
use Rattle.class_adding.proofs.looking.new_in.Goals as goal

pub loop-i-init : goal.loop-i-init
loop-i-init c = subst (λ (z : List ℕ). AreNewIn c.args.own.now [] z) (sym c.new-news.ensures) (new_none c.args.own.now)

pub loop-i-preserved : goal.loop-i-preserved
loop-i-preserved c = new_more c.args.own.now c.args.given.now c.loop-i.news c.add_if_new.new.news c.loop-i.i c.at.result c.at.ensures c.loop-i.invariant c.in_ok-add_if_new.ensures

pub returns : goal.returns
returns c = subst (λ (z : List ℕ). AreNewIn c.args.own.now z c.loop-i.news) (take_all c.loop-i.i c.args.given.now (omega (arith, c.loop-i-test.false))) c.loop-i.invariant

use Rattle.std.proofs.lemmas.Bool.{both_ways}
use Rattle.class_adding.proofs.FreshLemmas.{added_old, added_new}
use Rattle.class_adding.proofs.looking.add_if_new.Goals as goal

pub returns-then-has : goal.returns-then-has
returns-then-has c = added_old c.args.own.now c.args.news.now c.args.atom (c.has.ensures.member.0 c.if-has.true)

pub returns : goal.returns
returns c = added_new c.args.own.now c.args.news.now c.add.new.self c.args.atom (λ known. both_ways c.has.result c.if-has.false (c.has.ensures.member.1 known)) c.in_ok-add.ensures.ok

use Rattle.rule_index.proofs.IndexLemmas.{first_rest}
use Rattle.class_adding.proofs.GiftLemmas.{giving_some, giving_none}
use Rattle.class_adding.proofs.gifts.gifts_of.Goals as goal

pub links-preserved-in_ok-push : goal.links-preserved-in_ok-push
links-preserved-in_ok-push g c =
    giving_some c.args.system.now (g.S.Summaries.system c.args.sums.now) c.args.kind c.args.seen.now c.links.gifts.items c.push.new.self.items c.links.rest.now c.in-Some.link.now c.in-Some.others.now c.in-Some-first_at.round c.requires.made
    (first_rest c.links.rest.now c.in-Some.link.now c.in-Some.others.now c.in-Some.ensures.cases) c.links.invariant c.in-Some-first_at.ensures.first c.in-Some-first_at.ensures.bound c.in_ok-push.ensures.items

pub links-preserved : goal.links-preserved
links-preserved g c =
    giving_none c.args.system.now (g.S.Summaries.system c.args.sums.now) c.args.kind c.args.seen.now c.links.gifts.items c.links.rest.now c.in-Some.link.now c.in-Some.others.now c.requires.made
    (first_rest c.links.rest.now c.in-Some.link.now c.in-Some.others.now c.in-Some.ensures.cases) c.links.invariant c.in_default-first_at.ensures.first

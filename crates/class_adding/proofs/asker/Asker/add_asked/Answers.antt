use Rattle.std.proofs.Common.{◌≡◌, List, Contains, subst}
use Rattle.class_adding.specs.declared.gifts.Gift.{Gift}
use Rattle.class_adding.proofs.WentLemmas.{went_start}
use Rattle.class_adding.proofs.GiftLemmas.{remembered, has_given}
use Rattle.class_adding.proofs.asker.Asker.add_asked.Goals as goal

pub give-requires : goal.give-requires
give-requires g c =
    let s = c.args.self.now.system.now in
    let known = g.S.Summaries.known c.args.self.now.sums.now in
    let row = remembered s known c.args.self.now.remembered.now c.args.kind c.args.seen.now c.in-Some.row c.value-gifts.result.now c.requires.ready.remembered c.in-Some.ensures.there c.value-gifts.ensures in
    record { early = λ x there. row.1.early x (subst (λ (z : List Gift). Contains z x) c.items.ensures there) }

pub returns-in_err-wake-clause-went : goal.returns-in_err-wake-clause-went
returns-in_err-wake-clause-went g c = went_start g.S.Summaries (λ q. q ≡ (c.args.kind, c.args.seen.now)) c.args.self.now c.requires.ready

pub returns-in-Some-clause-given : goal.returns-in-Some-clause-given
returns-in-Some-clause-given g c =
    let s = c.args.self.now.system.now in
    let known = g.S.Summaries.known c.args.self.now.sums.now in
    let row = remembered s known c.args.self.now.remembered.now c.args.kind c.args.seen.now c.in-Some.row c.value-gifts.result.now c.requires.ready.remembered c.in-Some.ensures.there c.value-gifts.ensures in
    has_given s c.args.k known c.args.kind c.args.seen.now c.value-gifts.result.now c.items.result.now c.in_ok-wake.wake c.args.next.now c.give.new.next row.1
    c.items.ensures c.in_ok-wake.ensures.given c.in_ok-wake.ensures.same c.in_ok-wake.ensures.after c.in_ok-wake.ensures.bound row.0

pub returns-in-Some-clause-went : goal.returns-in-Some-clause-went
returns-in-Some-clause-went g c = went_start g.S.Summaries (λ q. q ≡ (c.args.kind, c.args.seen.now)) c.args.self.now c.requires.ready

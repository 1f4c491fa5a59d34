use Rattle.std.proofs.Common.{List, None, length, arith, ap}
use Rattle.std.specs.List.{flat_map}
use Rattle.simple_core.specs.declared.rules.Kind.{Kind}
use Rattle.simple_core.specs.Labels.{given_by_links, labels_below}
use Rattle.simple_core.specs.Rounds.{grown}
use Rattle.simple_core.specs.Pairs.{Asks}
use Rattle.class_adding.proofs.AddedLemmas.{no_kinds_at, given_by_none, asks_none}
use Rattle.class_adding.proofs.WakeLemmas.{sleeps_none}
use Rattle.class_adding.proofs.WentLemmas.{went_start}
use Rattle.class_adding.proofs.FreshLemmas.{more_none, more_all}
use Rattle.class_adding.proofs.asker.Asker.look_below.Goals as goal

pub returns-then-kinds-eq0-clause-more : goal.returns-then-kinds-eq0-clause-more
returns-then-kinds-eq0-clause-more g c =
    let s = c.args.self.now.system.now in
    let count = ap (λ (z : List Kind). length z) c.kinds-kinds.ensures in
    let none = no_kinds_at s c.args.own.now c.requires.ready.sound (omega (arith, c.if-kinds-eq0.true, count)) in
    more_none c.args.own.now (flat_map (given_by_links s.down) (labels_below s (grown s c.args.k) c.args.own.now)) c.args.next.now (given_by_none s c.args.k c.args.own.now none)

pub returns-then-kinds-eq0-clause-asleep : goal.returns-then-kinds-eq0-clause-asleep
returns-then-kinds-eq0-clause-asleep g c =
    let s = c.args.self.now.system.now in
    let own = c.args.own.now in
    let count = ap (λ (z : List Kind). length z) c.kinds-kinds.ensures in
    let none = no_kinds_at s own c.requires.ready.sound (omega (arith, c.if-kinds-eq0.true, count)) in
    record { sleeps = sleeps_none s c.args.k own None none; after = tt; bound = tt; told = λ q asks. absurd (asks_none s own q none asks) }

pub returns-then-kinds-eq0-clause-went : goal.returns-then-kinds-eq0-clause-went
returns-then-kinds-eq0-clause-went g c = went_start g.S.Summaries (Asks c.args.self.now.system.now c.args.own.now) c.args.self.now c.requires.ready

pub returns-then-not-is_due-clause-more : goal.returns-then-not-is_due-clause-more
returns-then-not-is_due-clause-more g c =
    let s = c.args.self.now.system.now in
    let quiet = c.if-not-is_due.true in
    let rested = c.requires.resting (c.is_due.ensures.quiet quiet) (c.is_due.ensures.same quiet) in
    more_none c.args.own.now (flat_map (given_by_links s.down) (labels_below s (grown s c.args.k) c.args.own.now)) c.args.next.now rested.given

pub returns-then-not-is_due-clause-asleep : goal.returns-then-not-is_due-clause-asleep
returns-then-not-is_due-clause-asleep g c =
    let quiet = c.if-not-is_due.true in
    let rested = c.requires.resting (c.is_due.ensures.quiet quiet) (c.is_due.ensures.same quiet) in
    rested.asleep

pub returns-then-not-is_due-clause-went : goal.returns-then-not-is_due-clause-went
returns-then-not-is_due-clause-went g c = went_start g.S.Summaries (Asks c.args.self.now.system.now c.args.own.now) c.args.self.now c.requires.ready

pub returns-clause-more : goal.returns-clause-more
returns-clause-more g c =
    let s = c.args.self.now.system.now in
    more_all c.args.own.now (flat_map (given_by_links s.down) (labels_below s (grown s c.args.k) c.args.own.now)) c.args.next.now c.add_added.new.next c.in_ok-later.ensures.given.given

pub returns-clause-asleep : goal.returns-clause-asleep
returns-clause-asleep g c = c.in_ok-later.ensures.given.asleep

use Rattle.std.proofs.Common.{◌^◌, ◌<◌, ℕ, List, All, Contains, length, refl, sym, ◌∙◌, subst}
use Rattle.tp_base.proofs.ClassLemmas.{Contains-cut_to}
use Rattle.tp_base.proofs.Rising.{All-from_Contains}
use Rattle.simple_core.specs.declared.system.System.{System}
use Rattle.simple_core.specs.Labels.{visible_in}
use Rattle.simple_core.specs.Pairs.{Asks}
use Rattle.rule_index.proofs.IndexLemmas.{first_rest}
use Rattle.class_adding.specs.Fresh.{HasGiven}
use Rattle.class_adding.proofs.AddedLemmas.{asking_start, asking_next, asking_first, kind_listed, asked_all, given_all}
use Rattle.class_adding.proofs.WakeLemmas.{waking_start, waking_next, waking_all}
use Rattle.class_adding.proofs.WentLemmas.{went_start, went_asked, ok_spent}
use Rattle.class_adding.proofs.asker.Asker.add_kinds.Goals as goal

pub kinds-init : goal.kinds-init
kinds-init g c =
    let s = c.args.self.now.system.now in
    record {
      asking = asking_start s c.args.k c.args.own.now c.args.seen.now (g.S.Summaries.known c.args.self.now.sums.now) c.args.next.now c.args.kinds.now c.requires.kinds;
      waking = waking_start s c.args.k c.args.own.now c.args.seen.now c.args.kinds.now c.requires.kinds;
      went = went_start g.S.Summaries (Asks s c.args.own.now) c.args.self.now c.requires.ready;
      spent = refl;
    }

pub add_asked-requires-clause-kind : goal.add_asked-requires-clause-kind
add_asked-requires-clause-kind g c =
    let s = c.args.self.now.system.now in
    let split = first_rest c.kinds.rest.now c.in-Some.kind.now c.in-Some.others.now c.in-Some.ensures.cases in
    let listed = asking_first s c.args.k c.args.own.now c.args.seen.now (g.S.Summaries.known c.kinds.self.sums.now) c.args.next.now c.kinds.next c.args.kinds.now c.kinds.rest.now c.in-Some.kind.now c.in-Some.others.now split c.kinds.invariant.asking in
    subst (λ (z : System). c.in-Some.kind.now < length z.kinds) (sym c.kinds.invariant.went.same_system) (kind_listed s c.args.own.now c.in-Some.kind.now c.requires.ready.sound.spawned listed)

pub add_asked-requires-clause-visible : goal.add_asked-requires-clause-visible
add_asked-requires-clause-visible g c =
    let s = c.args.self.now.system.now in
    subst (λ (z : System). All (Contains z.visible) c.args.seen.now) (sym c.kinds.invariant.went.same_system)
    (subst (λ (z : List ℕ). All (Contains s.visible) z) (sym c.requires.seen)
    (All-from_Contains (Contains s.visible) (visible_in s c.args.own.now) (λ a there. ((Contains-cut_to s.visible c.args.own.now a).0 there).0)))

pub add_asked-requires-clause-ready : goal.add_asked-requires-clause-ready
add_asked-requires-clause-ready g c = c.kinds.invariant.went.ready

pub returns-in_err-gift-clause-went : goal.returns-in_err-gift-clause-went
returns-in_err-gift-clause-went g c =
    let s = c.args.self.now.system.now in
    let split = first_rest c.kinds.rest.now c.in-Some.kind.now c.in-Some.others.now c.in-Some.ensures.cases in
    let listed = asking_first s c.args.k c.args.own.now c.args.seen.now (g.S.Summaries.known c.kinds.self.sums.now) c.args.next.now c.kinds.next c.args.kinds.now c.kinds.rest.now c.in-Some.kind.now c.in-Some.others.now split c.kinds.invariant.asking in
    went_asked g.S.Summaries s c.args.own.now c.args.seen.now c.in-Some.kind.now c.args.self.now c.kinds.self c.add_asked.new.self listed c.requires.seen c.kinds.invariant.went c.add_asked.ensures.went

pub kinds-preserved : goal.kinds-preserved
kinds-preserved g c =
    let s = c.args.self.now.system.now in
    let split = first_rest c.kinds.rest.now c.in-Some.kind.now c.in-Some.others.now c.in-Some.ensures.cases in
    let listed = asking_first s c.args.k c.args.own.now c.args.seen.now (g.S.Summaries.known c.kinds.self.sums.now) c.args.next.now c.kinds.next c.args.kinds.now c.kinds.rest.now c.in-Some.kind.now c.in-Some.others.now split c.kinds.invariant.asking in
    let given = subst (λ (z : System). HasGiven z c.args.k (g.S.Summaries.known c.add_asked.new.self.sums.now) (c.in-Some.kind.now, c.args.seen.now) c.in_ok-gift.gift c.kinds.next c.add_asked.new.next) c.kinds.invariant.went.same_system c.in_ok-gift.ensures.given in
    record {
      asking = asking_next s c.args.k c.args.own.now c.args.seen.now (g.S.Summaries.known c.kinds.self.sums.now) (g.S.Summaries.known c.add_asked.new.self.sums.now) c.args.next.now c.kinds.next c.add_asked.new.next
          c.args.kinds.now c.kinds.rest.now c.in-Some.kind.now c.in-Some.others.now split c.kinds.invariant.asking given.given given.told c.add_asked.ensures.went.kept;
      waking = waking_next s c.args.k c.args.own.now c.args.seen.now c.kinds.wake c.in_ok-gift.gift c.sooner-wake.result c.kinds.rest.now c.in-Some.kind.now c.in-Some.others.now split c.kinds.invariant.waking
          given.same c.sooner-wake.ensures.before (c.sooner-wake.ensures.after c.args.k c.kinds.invariant.waking.after given.after) (c.sooner-wake.ensures.below (2 ^ 62) c.kinds.invariant.waking.bound given.bound);
      went = went_asked g.S.Summaries s c.args.own.now c.args.seen.now c.in-Some.kind.now c.args.self.now c.kinds.self c.add_asked.new.self listed c.requires.seen c.kinds.invariant.went c.add_asked.ensures.went;
      spent = ok_spent c.add_asked.result c.in_ok-gift.gift (g.S.Summaries.spent_on c.kinds.self.sums.now) (g.S.Summaries.spent_on c.add_asked.new.self.sums.now) c.in_ok-gift.was c.add_asked.ensures.went.stays c.add_asked.ensures.spent
          ∙ c.kinds.invariant.spent;
    }

pub returns-clause-given : goal.returns-clause-given
returns-clause-given g c =
    let s = c.args.self.now.system.now in
    record {
      given = given_all s c.args.k c.args.own.now c.args.seen.now c.kinds.next c.args.next.now c.args.kinds.now c.kinds.rest.now c.requires.rises c.requires.kinds c.in_default.ensures.cases c.requires.seen c.kinds.invariant.asking.given;
      asleep = record {
        sleeps = waking_all s c.args.k c.args.own.now c.args.seen.now c.kinds.wake c.kinds.rest.now c.kinds.invariant.waking c.in_default.ensures.cases c.requires.seen;
        after = c.kinds.invariant.waking.after;
        bound = c.kinds.invariant.waking.bound;
        told = asked_all s c.args.k c.args.own.now c.args.seen.now (g.S.Summaries.known c.kinds.self.sums.now) c.args.next.now c.kinds.next c.args.kinds.now c.kinds.rest.now c.requires.kinds c.kinds.invariant.asking c.in_default.ensures.cases c.requires.seen;
      };
    }

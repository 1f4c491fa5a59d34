use Rattle.std.proofs.Common.{List, Contains, ◌+◌, ◌^◌, sym, refl, ap, ◌∙◌, arith, subst}
use Rattle.simple_core.specs.declared.system.System.{System}
use Rattle.simple_core.specs.Pairs.{Asked}
use Rattle.closed_page.specs.Gains.{gains_at}
use Rattle.class_adding.specs.declared.looking.Look.{Look}
use Rattle.class_adding.specs.Fresh.{AreSettled, AreResting}
use Rattle.class_adding.specs.Looks.{AreFound}
use Rattle.class_adding.specs.Work.{AreUntil}
use Rattle.class_adding.proofs.WentLemmas.{went_start, ok_spent, err_spent}
use Rattle.class_adding.proofs.EndLemmas.{closing_end, all_known, looked_nodes, went_page, told_page}
use Rattle.class_adding.proofs.FirstsLemmas.{firsts_placed}
use Rattle.class_adding.proofs.FillingLemmas.{filled_start, all_seen, filled_next}
use Rattle.class_adding.proofs.asker.Asker.fill.Goals as goal

pub rounds-init : goal.rounds-init
rounds-init g c =
    let s = c.args.self.now.system.now in
    record {
      filled = filled_start s c.args.page.now (g.S.Summaries.known c.args.self.now.sums.now) c.args.filling.now c.requires.begun;
      went = went_start g.S.Summaries (Asked s c.args.page.now) c.args.self.now c.requires.ready;
      spent = refl;
    }

pub look_at_all-requires-clause-nodes : goal.look_at_all-requires-clause-nodes
look_at_all-requires-clause-nodes g c =
    let s = c.args.self.now.system.now in
    let labels = c.rounds.filling.labels in
    let known = g.S.Summaries.known c.rounds.self.sums.now in
    looked_nodes s c.args.page.now labels.labels labels.firsts c.rounds.k known labels.nodes c.rounds.invariant.filled.nodes c.rounds.invariant.filled.closing

pub look_at_all-requires-clause-working : goal.look_at_all-requires-clause-working
look_at_all-requires-clause-working g c = c.rounds.invariant.filled.working

pub look_at_all-requires-clause-alike : goal.look_at_all-requires-clause-alike
look_at_all-requires-clause-alike g c = c.rounds.invariant.filled.alike

pub look_at_all-requires-clause-settled : goal.look_at_all-requires-clause-settled
look_at_all-requires-clause-settled g c =
    let labels = c.rounds.filling.labels in
    subst (λ (z : System). AreSettled z labels.labels labels.nodes c.rounds.filling.work.fresh.items) (sym c.rounds.invariant.went.same_system) c.rounds.invariant.filled.settled

pub look_at_all-requires-clause-resting : goal.look_at_all-requires-clause-resting
look_at_all-requires-clause-resting g c =
    let s = c.args.self.now.system.now in
    let labels = c.rounds.filling.labels in
    let known = g.S.Summaries.known c.rounds.self.sums.now in
    let work = c.rounds.filling.work in
    subst (λ (z : System). AreResting z labels.labels c.rounds.k known labels.nodes work.fresh.items work.wakes.items) (sym c.rounds.invariant.went.same_system) c.rounds.invariant.filled.resting

pub look_at_all-requires-clause-ready : goal.look_at_all-requires-clause-ready
look_at_all-requires-clause-ready g c = c.rounds.invariant.went.ready

pub returns-in_err-round-clause-went : goal.returns-in_err-round-clause-went
returns-in_err-round-clause-went g c = went_page g.S.Summaries c.args.page.now c.rounds.filling.labels.labels c.rounds.filling.labels.firsts c.rounds.k c.args.self.now c.rounds.self c.look_at_all.new.self c.rounds.invariant.filled.closing c.rounds.invariant.went c.look_at_all.ensures.went

pub returns-in_err-round-clause-spent : goal.returns-in_err-round-clause-spent
returns-in_err-round-clause-spent g c = λ none.
    err_spent c.from_residual.result c.in_err-round.field-0.0 (g.S.Summaries.spent_on c.look_at_all.new.self.sums.now) c.from_residual.ensures.1 (c.in_err-round.ensures.spent (c.rounds.invariant.spent ∙ none))

pub returns-then-is_last-clause-closed : goal.returns-then-is_last-clause-closed
returns-then-is_last-clause-closed g c =
    let s = c.args.self.now.system.now in
    let labels = c.rounds.filling.labels in
    let known = g.S.Summaries.known c.rounds.self.sums.now in
    let known' = g.S.Summaries.known c.look_at_all.new.self.sums.now in
    let found = subst (λ (z : System). AreFound z labels.labels labels.nodes c.rounds.k known' c.rounds.filling.work.due.items c.in_ok-round.round) c.rounds.invariant.went.same_system c.in_ok-round.ensures.found in
    let last = c.is_last.ensures.last c.if-is_last.true in
    let latest = c.latest_of-latest.result in
    let f = c.rounds.invariant.filled in
    let until : AreUntil c.in_ok-round.round.looks.items latest = subst (λ (z : List Look). AreUntil z latest) c.deref.ensures.value c.latest_of-latest.ensures.until in
    let seen = all_seen s labels.labels labels.nodes c.rounds.k known known' c.rounds.filling.work c.in_ok-round.round latest f.rests f.working found c.look_at_all.ensures.went.kept c.latest_of-latest.ensures.least until in
    closing_end s c.args.page.now labels.labels labels.firsts c.rounds.k known known' labels.nodes (gains_at labels.nodes c.in_ok-round.round.gains.items) latest f.nodes f.closing found.right seen c.look_at_all.ensures.went.kept (ap (gains_at labels.nodes) last.0) last.1

pub returns-then-is_last-clause-nodes : goal.returns-then-is_last-clause-nodes
returns-then-is_last-clause-nodes g c =
    let s = c.args.self.now.system.now in
    let labels = c.rounds.filling.labels in
    let known = g.S.Summaries.known c.rounds.self.sums.now in
    firsts_placed s c.args.page.now labels.labels labels.firsts c.rounds.k known labels.nodes c.rounds.invariant.filled.nodes c.rounds.invariant.filled.closing

pub returns-then-is_last-clause-asked : goal.returns-then-is_last-clause-asked
returns-then-is_last-clause-asked g c =
    let s = c.args.self.now.system.now in
    let labels = c.rounds.filling.labels in
    let known = g.S.Summaries.known c.rounds.self.sums.now in
    let known' = g.S.Summaries.known c.look_at_all.new.self.sums.now in
    let found = subst (λ (z : System). AreFound z labels.labels labels.nodes c.rounds.k known' c.rounds.filling.work.due.items c.in_ok-round.round) c.rounds.invariant.went.same_system c.in_ok-round.ensures.found in
    let last = c.is_last.ensures.last c.if-is_last.true in
    let latest = c.latest_of-latest.result in
    let f = c.rounds.invariant.filled in
    let until : AreUntil c.in_ok-round.round.looks.items latest = subst (λ (z : List Look). AreUntil z latest) c.deref.ensures.value c.latest_of-latest.ensures.until in
    let seen = all_seen s labels.labels labels.nodes c.rounds.k known known' c.rounds.filling.work c.in_ok-round.round latest f.rests f.working found c.look_at_all.ensures.went.kept c.latest_of-latest.ensures.least until in
    all_known s c.args.page.now labels.labels labels.firsts c.rounds.k known known' labels.nodes (gains_at labels.nodes c.in_ok-round.round.gains.items) latest f.nodes f.closing found.right seen c.look_at_all.ensures.went.kept (ap (gains_at labels.nodes) last.0) last.1

pub returns-then-is_last-clause-told : goal.returns-then-is_last-clause-told
returns-then-is_last-clause-told g c =
    let s = c.args.self.now.system.now in
    let labels = c.rounds.filling.labels in
    let known = g.S.Summaries.known c.rounds.self.sums.now in
    let known' = g.S.Summaries.known c.look_at_all.new.self.sums.now in
    let found = subst (λ (z : System). AreFound z labels.labels labels.nodes c.rounds.k known' c.rounds.filling.work.due.items c.in_ok-round.round) c.rounds.invariant.went.same_system c.in_ok-round.ensures.found in
    let last = c.is_last.ensures.last c.if-is_last.true in
    let latest = c.latest_of-latest.result in
    let f = c.rounds.invariant.filled in
    let until : AreUntil c.in_ok-round.round.looks.items latest = subst (λ (z : List Look). AreUntil z latest) c.deref.ensures.value c.latest_of-latest.ensures.until in
    let seen = all_seen s labels.labels labels.nodes c.rounds.k known known' c.rounds.filling.work c.in_ok-round.round latest f.rests f.working found c.look_at_all.ensures.went.kept c.latest_of-latest.ensures.least until in
    let went = went_page g.S.Summaries c.args.page.now c.rounds.filling.labels.labels c.rounds.filling.labels.firsts c.rounds.k c.args.self.now c.rounds.self c.look_at_all.new.self c.rounds.invariant.filled.closing c.rounds.invariant.went c.look_at_all.ensures.went in
    told_page g.S.Summaries c.args.page.now c.args.self.now c.look_at_all.new.self c.requires.ready went
    (all_known s c.args.page.now labels.labels labels.firsts c.rounds.k known known' labels.nodes (gains_at labels.nodes c.in_ok-round.round.gains.items) latest f.nodes f.closing found.right seen c.look_at_all.ensures.went.kept (ap (gains_at labels.nodes) last.0) last.1)

pub returns-then-is_last-clause-went : goal.returns-then-is_last-clause-went
returns-then-is_last-clause-went g c = went_page g.S.Summaries c.args.page.now c.rounds.filling.labels.labels c.rounds.filling.labels.firsts c.rounds.k c.args.self.now c.rounds.self c.look_at_all.new.self c.rounds.invariant.filled.closing c.rounds.invariant.went c.look_at_all.ensures.went

pub returns-in_err-take_round-clause-went : goal.returns-in_err-take_round-clause-went
returns-in_err-take_round-clause-went g c = went_page g.S.Summaries c.args.page.now c.rounds.filling.labels.labels c.rounds.filling.labels.firsts c.rounds.k c.args.self.now c.rounds.self c.look_at_all.new.self c.rounds.invariant.filled.closing c.rounds.invariant.went c.look_at_all.ensures.went

pub rounds-preserved : goal.rounds-preserved
rounds-preserved g c =
    let s = c.args.self.now.system.now in
    let labels = c.rounds.filling.labels in
    let known = g.S.Summaries.known c.rounds.self.sums.now in
    let known' = g.S.Summaries.known c.look_at_all.new.self.sums.now in
    let found = subst (λ (z : System). AreFound z labels.labels labels.nodes c.rounds.k known' c.rounds.filling.work.due.items c.in_ok-round.round) c.rounds.invariant.went.same_system c.in_ok-round.ensures.found in
    let latest = c.latest_of-latest.result in
    let f = c.rounds.invariant.filled in
    let looks = c.in_ok-round.round.looks.items in
    let until : AreUntil looks latest = subst (λ (z : List Look). AreUntil z latest) c.deref.ensures.value c.latest_of-latest.ensures.until in
    let bound = c.latest_of-latest.ensures.bound (2 ^ 62) f.working.bound (λ l there. (found.looks_are l (subst (λ (z : List Look). Contains z l) c.deref.ensures.value there)).tells.asleep.bound) in
    record {
      filled = filled_next s c.args.page.now c.rounds.k (c.rounds.k + 1) latest known known' c.rounds.filling c.take_round.new.filling c.in_ok-round.round f c.look_at_all.ensures.went.kept found c.latest_of-latest.ensures.least until bound
          (c.is_last.ensures.more c.if-is_last.false) c.in_ok-take_round.ensures (omega arith);
      went = went_page g.S.Summaries c.args.page.now c.rounds.filling.labels.labels c.rounds.filling.labels.firsts c.rounds.k c.args.self.now c.rounds.self c.look_at_all.new.self c.rounds.invariant.filled.closing c.rounds.invariant.went c.look_at_all.ensures.went;
      spent = ok_spent c.look_at_all.result c.in_ok-round.round (g.S.Summaries.spent_on c.rounds.self.sums.now) (g.S.Summaries.spent_on c.look_at_all.new.self.sums.now) c.in_ok-round.was c.look_at_all.ensures.went.stays c.look_at_all.ensures.spent
          ∙ c.rounds.invariant.spent;
    }

pub take_round-requires-clause-gains : goal.take_round-requires-clause-gains
take_round-requires-clause-gains g c = c.in_ok-round.ensures.found.numbers

pub take_round-requires-clause-numbers : goal.take_round-requires-clause-numbers
take_round-requires-clause-numbers g c = λ l there. (c.in_ok-round.ensures.found.looks_are l there).within

pub take_round-requires-clause-working : goal.take_round-requires-clause-working
take_round-requires-clause-working g c = c.rounds.invariant.filled.working

use Rattle.std.proofs.Common.{List, ℕ, None, arith, sym, subst}
use Rattle.simple_core.specs.Pairs.{Asks}
use Rattle.rule_index.specs.Asking.{AreKinds}
use Rattle.class_adding.proofs.AddedLemmas.{kinds_none, given_none_added, asks_none}
use Rattle.class_adding.proofs.WakeLemmas.{sleeps_none}
use Rattle.class_adding.proofs.WentLemmas.{went_start}
use Rattle.class_adding.proofs.asker.Asker.add_added.Goals as goal

pub returns-in_err-kinds-clause-went : goal.returns-in_err-kinds-clause-went
returns-in_err-kinds-clause-went g c = went_start g.S.Summaries (Asks c.args.self.now.system.now c.args.own.now) c.args.self.now c.requires.ready

pub returns-in_err-seen-clause-went : goal.returns-in_err-seen-clause-went
returns-in_err-seen-clause-went g c = went_start g.S.Summaries (Asks c.args.self.now.system.now c.args.own.now) c.args.self.now c.requires.ready

pub returns-then-len-eq0-clause-went : goal.returns-then-len-eq0-clause-went
returns-then-len-eq0-clause-went g c = went_start g.S.Summaries (Asks c.args.self.now.system.now c.args.own.now) c.args.self.now c.requires.ready

pub returns-then-len-eq0-clause-given : goal.returns-then-len-eq0-clause-given
returns-then-len-eq0-clause-given g c =
    let s = c.args.self.now.system.now in
    let own = c.args.own.now in
    let none = kinds_none s own c.in_ok-kinds.kinds.items c.in_ok-kinds.ensures (omega (arith, c.if-len-eq0.true)) in
    record {
      given = given_none_added s c.args.k own c.args.next.now none;
      asleep = record { sleeps = sleeps_none s c.args.k own None none; after = tt; bound = tt; told = λ q asks. absurd (asks_none s own q none asks) };
    }

pub add_kinds-requires-clause-kinds : goal.add_kinds-requires-clause-kinds
add_kinds-requires-clause-kinds g c = subst (λ (z : List ℕ). AreKinds c.args.self.now.system.now c.args.own.now z) (sym c.deref.ensures.value) c.in_ok-kinds.ensures

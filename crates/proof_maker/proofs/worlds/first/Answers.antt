use Rattle.std.proofs.Common.{sym, subst}
use Rattle.simple_core.specs.declared.system.System.{System}
use Rattle.simple_core.specs.Rounds.{grown, IsFirst}
use Rattle.simple_core.specs.Pages.{page_round}
use Rattle.simple_core.specs.Knowledge.{KeepsAsking}
use Rattle.proof_maker.specs.declared.worlds.Place.{Place}
use Rattle.proof_maker.specs.Worlds.{labels_of, IsPlace, IsAsking}
use Rattle.proof_maker.proofs.worlds.first.Goals as goal

pub returns-in-Node-clause-first : goal.returns-in-Node-clause-first
returns-in-Node-clause-first g c =
    let s = c.args.world.now.system.now in
    let page = c.args.world.now.page.now in
    let node = subst (λ (p : Place). IsPlace g.S.Summaries c.args.world.now p) c.in-Node.is c.requires.place in
    subst (λ (p : Place). IsFirst (labels_of s page p) c.args.atom c.first_round.result) (sym c.in-Node.is)
    (subst (IsFirst (λ k. page_round s page k c.in-Node.at.now) c.args.atom) (sym c.first_round.ensures) (c.requires.ready.closed.firsts c.in-Node.at.now c.args.atom node))

pub first_at-requires-clause-known : goal.first_at-requires-clause-known
first_at-requires-clause-known g c = (subst (λ (p : Place). IsPlace g.S.Summaries c.args.world.now p) c.in-Added.is c.requires.place).0

pub first_at-requires-clause-entry : goal.first_at-requires-clause-entry
first_at-requires-clause-entry g c = (subst (λ (p : Place). IsPlace g.S.Summaries c.args.world.now p) c.in-Added.is c.requires.place).1

pub returns-in-Added-clause-first : goal.returns-in-Added-clause-first
returns-in-Added-clause-first g c =
    subst (λ (p : Place). IsFirst (labels_of c.args.world.now.system.now c.args.world.now.page.now p) c.args.atom c.first_at.result) (sym c.in-Added.is)
    (subst (λ (s : System). IsFirst (λ m. grown s m c.in-Added.kind c.in-Added.parent.now) c.args.atom c.first_at.result) c.requires.ready.made c.first_at.ensures.first)

pub returns-in-Added-clause-asking : goal.returns-in-Added-clause-asking
returns-in-Added-clause-asking g c =
    subst (λ (p : Place). IsAsking c.args.world.now.system.now (g.S.Summaries.known c.args.world.now.sums.now) p) (sym c.in-Added.is)
    (subst (λ (s : System). KeepsAsking s (g.S.Summaries.known c.args.world.now.sums.now)) c.requires.ready.made c.first_at.ensures.closed)

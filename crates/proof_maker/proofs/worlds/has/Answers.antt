use Rattle.std.proofs.Common.{◌≡◌, sym, subst, ap, ◌∙◌}
use Rattle.tp_base.specs.Classes.{has_class}
use Rattle.simple_core.specs.declared.system.System.{System}
use Rattle.simple_core.specs.Rounds.{grown}
use Rattle.simple_core.specs.Knowledge.{KeepsAsking}
use Rattle.proof_maker.specs.declared.worlds.Place.{Place}
use Rattle.proof_maker.specs.Worlds.{labels_of, IsPlace, IsAsking}
use Rattle.proof_maker.proofs.worlds.has.Goals as goal

pub has_at-requires-clause-known : goal.has_at-requires-clause-known
has_at-requires-clause-known g c = (subst (λ (p : Place). IsPlace g.S.Summaries c.args.world.now p) c.in-Added.is c.requires.place).0

pub has_at-requires-clause-entry : goal.has_at-requires-clause-entry
has_at-requires-clause-entry g c = (subst (λ (p : Place). IsPlace g.S.Summaries c.args.world.now p) c.in-Added.is c.requires.place).1

pub returns-in-Added-clause-test : goal.returns-in-Added-clause-test
returns-in-Added-clause-test g c =
    let w = c.args.world.now in
    subst (λ (p : Place). c.has_at.result ≡ has_class c.args.atom (labels_of w.system.now w.page.now p c.args.round)) (sym c.in-Added.is)
    (c.has_at.ensures.test ∙ ap (λ (s : System). has_class c.args.atom (grown s c.args.round c.in-Added.kind c.in-Added.parent.now)) c.requires.ready.made)

pub returns-in-Added-clause-asking : goal.returns-in-Added-clause-asking
returns-in-Added-clause-asking g c =
    subst (λ (p : Place). IsAsking c.args.world.now.system.now (g.S.Summaries.known c.args.world.now.sums.now) p) (sym c.in-Added.is)
    (subst (λ (s : System). KeepsAsking s (g.S.Summaries.known c.args.world.now.sums.now)) c.requires.ready.made c.has_at.ensures.asking)

use Rattle.std.proofs.Common.{ℕ, sym, subst}
use Rattle.simple_core.specs.declared.system.System.{System}
use Rattle.simple_core.specs.Rounds.{grown}
use Rattle.proof_maker.specs.Tellings.{AreIdle}
use Rattle.proof_maker.proofs.told.told_of.Goals as goal

pub returns : goal.returns
returns g c =
    let s = g.S.Summaries.system c.args.sums.now in
    record {
      arrivals = c.in_ok-arrivals.ensures;
      idle = subst (λ (z : System). AreIdle z (λ (k : ℕ). grown s k c.args.kind c.args.parent.now) c.idle_of-idle.result) (sym c.requires.made) c.idle_of-idle.ensures;
    }

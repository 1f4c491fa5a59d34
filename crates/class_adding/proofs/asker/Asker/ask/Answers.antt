use Rattle.std.proofs.Common.{◌<◌, length, All, Contains, refl, sym, subst}
use Rattle.simple_core.specs.declared.system.System.{System}
use Rattle.class_adding.proofs.WentLemmas.{went_gain}
use Rattle.class_adding.proofs.asker.Asker.ask.Goals as goal

pub gain-requires-clause-kind : goal.gain-requires-clause-kind
gain-requires-clause-kind g c = subst (λ (s : System). c.args.kind < length s.kinds) (sym c.requires.ready.made) c.requires.kind

pub gain-requires-clause-visible : goal.gain-requires-clause-visible
gain-requires-clause-visible g c = subst (λ (s : System). All (Contains s.visible) c.args.seen.now) (sym c.requires.ready.made) c.requires.visible

pub returns-in_err-gain-clause-went : goal.returns-in_err-gain-clause-went
returns-in_err-gain-clause-went g c =
    went_gain g.S.Summaries c.args.self.now _ (c.args.kind, c.args.seen.now) c.gain.result c.requires.ready refl refl refl c.gain.ensures.kept c.gain.ensures.closed c.gain.ensures.told c.gain.ensures.refused c.gain.ensures.tells c.gain.ensures.system
    c.gain.ensures.room c.gain.ensures.stays_spent c.gain.ensures.spent_here c.gain.ensures.keeps_room

pub returns-clause-went : goal.returns-clause-went
returns-clause-went g c =
    went_gain g.S.Summaries c.args.self.now _ (c.args.kind, c.args.seen.now) c.gain.result c.requires.ready refl refl refl c.gain.ensures.kept c.gain.ensures.closed c.gain.ensures.told c.gain.ensures.refused c.gain.ensures.tells c.gain.ensures.system
    c.gain.ensures.room c.gain.ensures.stays_spent c.gain.ensures.spent_here c.gain.ensures.keeps_room

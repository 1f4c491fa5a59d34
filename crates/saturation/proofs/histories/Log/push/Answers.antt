use Rattle.saturation.proofs.LogLemmas.{pushed}
use Rattle.saturation.proofs.histories.Log.push.Goals as goal

pub returns : goal.returns
returns c = rw (← c.self.view_is) (pushed c.self.inside.rows c.note.new.self c.args.kind c.args.atom (c.args.round, c.args.to) c.in_ok-note.ensures.ok)

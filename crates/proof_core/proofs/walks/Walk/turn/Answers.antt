use Rattle.proof_core.specs.Trails.{progress_of}
use Rattle.proof_core.proofs.walks.Walk.turn.Goals as goal

pub returns-in-None-clause-on : goal.returns-in-None-clause-on
returns-in-None-clause-on c = c.leave.ensures.on (progress_of c.args.trail.now)

use Rattle.std.proofs.Common.{inl}
use Rattle.judge.proofs.engines.by_built_diagrams.Goals as goal

pub returns : goal.returns
returns c = inl (c.in_ok-closed.closed, c.in_ok-closed.ensures.closed, c.in_ok-answers.ensures, c.requires.room)

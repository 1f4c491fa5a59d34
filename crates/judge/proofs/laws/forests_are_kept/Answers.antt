use Rattle.std.proofs.Common.{length}
use Rattle.jq_stmts.specs.Views.{statements_of}
use Rattle.judge.proofs.PlacedForests.{keeps_forests}
use Rattle.judge.proofs.laws.forests_are_kept.Goals as goal

pub returns : goal.returns
returns c = keeps_forests (statements_of c.args.stmts.now) c.args.guards.now (length c.args.atoms.now) c.args.page.now c.requires.over

use Rattle.jq_stmts.specs.Views.{statements_of}
use Rattle.lower_cover.proofs.WiderLemmas.{steps_edits}
use Rattle.lower_cover.proofs.laws.steps_are_edits.Goals as goal

pub returns : goal.returns
returns c = steps_edits c.args.asked.now (statements_of c.args.stmts.now) c.args.page.now c.requires.output

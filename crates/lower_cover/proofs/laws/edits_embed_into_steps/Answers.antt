use Rattle.jq_stmts.specs.Views.{statements_of}
use Rattle.lower_cover.proofs.EditLemmas.{edits_embed}
use Rattle.lower_cover.proofs.laws.edits_embed_into_steps.Goals as goal

pub returns : goal.returns
returns c = edits_embed c.args.asked.now (statements_of c.args.stmts.now) c.args.page.now
